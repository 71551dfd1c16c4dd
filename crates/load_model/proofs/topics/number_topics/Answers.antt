use Rattle.std.proofs.Common.{◌≡◌, ◌∙◌, ◌+◌, [], ◌∷◌, length, map, drop, refl, sym, ap, subst, ℕ, List, arith}
use Rattle.std.proofs.lemmas.List.{drop_more, drop_all, length-map, length_push, get_or-map}
use Rattle.plan_terms.specs.Faults.{distinct_from, topics}
use Rattle.plan_terms.specs.declared.cluster.Part.{Part}
use Rattle.indexmap.specs.IndexSet.{insert_key}
use Rattle.load_model.specs.Places.{StandsAt, topic_of}
use Rattle.load_model.proofs.Numbered.{StandsAt-more, StandsAt-own}
use Rattle.load_model.proofs.Texts.{Name, next_topic, same, texts}
use Rattle.load_model.proofs.topics.number_topics.Goals as goal

pub loop-part-init : goal.loop-part-init
unfolding topics
loop-part-init c = record {
  rest = rw c.new-seen.ensures.empty refl;
  one_each = rw c.new-places.ensures.items refl;
  each = λ p l. absurd (omega arith);
}

pub loop-part-preserved : goal.loop-part-preserved
loop-part-preserved c =
    let parts = c.args.parts.now in
    let i = c.loop-part.part-index in
    let part = c.part-item.result in
    let cut : drop i parts ≡ part ∷ drop (i + 1) parts = drop_more parts i part c.loop-part-test.true ∙ ap (λ (p : Part). p ∷ drop (i + 1) parts) (sym c.part-item.is) in
    let stored = c.in_ok-place.ensures.stored in
    let name = StandsAt-own c.insert_full.new.self.keys c.as_str.result stored.0 c.in_ok-place.place c.in_ok-place.ensures.within stored.1 stored.2 in
    let topic : c.as_str.result.now ≡ topic_of parts i =
    c.as_str.ensures ∙ ap (λ (p : Part). p.topic) c.part-item.is ∙ sym (get_or-map (λ (p : Part). p.topic) parts i part [] c.loop-part-test.true) in
    let stands : List ℕ → Type 0 = λ t. StandsAt (texts (insert_key same c.loop-part.seen.keys c.as_str.result)) t c.in_ok-place.place in
    let own : stands (topic_of parts i) = subst stands topic (rw c.in_ok-place.ensures.keys at name) in
    record {
      rest =
          rw c.in_ok-place.ensures.keys
          (next_topic c.loop-part.seen.keys c.as_str.result part.topic (map (λ (p : Part). p.topic) (drop (i + 1) parts)) c.as_str.ensures
          ∙ ap (λ (ps : List Part). distinct_from (texts c.loop-part.seen.keys) (map (λ (p : Part). p.topic) ps)) (sym cut) ∙ c.loop-part.invariant.rest);
      one_each = rw c.in_ok-push.ensures.items (omega (arith, length_push c.loop-part.places.items c.in_ok-place.place, c.loop-part.invariant.one_each));
      each =
          rw (c.in_ok-push.ensures.items, c.in_ok-place.ensures.keys)
          (StandsAt-more c.loop-part.seen.keys c.as_str.result parts c.loop-part.places.items i c.in_ok-place.place c.loop-part-test.true c.loop-part.invariant.one_each
          own c.loop-part.invariant.each);
    }

pub returns : goal.returns
returns c =
    let parts = c.args.parts.now in
    let whole : texts c.loop-part.seen.keys ≡ topics parts = rw (drop_all c.loop-part.part-index parts c.loop-part-test.false) at c.loop-part.invariant.rest in
    let ended : c.loop-part.part-index ≡ length parts = omega arith in
    record {
      count_is = c.len.ensures.len ∙ sym (length-map c.loop-part.seen.keys (λ (s : Name). s.now)) ∙ ap length whole;
      one_each = c.loop-part.invariant.one_each ∙ ended;
      each = λ p l. rw whole at (c.loop-part.invariant.each p (rw ended l));
    }
