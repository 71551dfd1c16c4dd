use Rattle.std.proofs.Common.{◌≡◌, ◌∙◌, ◌++◌, ◌∷◌, [], false, true, arith, refl, ap, sym, get_or, length}
use Rattle.std.specs.Prelude.{◌==◌, bytes_eq, if◌then◌else◌, not}
use Rattle.std.specs.List.{list_any}
use Rattle.std.proofs.lemmas.Bool.{eq-eqb, ne_eqb}
use Rattle.goal_terms.proofs.TopicList.{topics-next, topics-start}
use Rattle.broker_goals.proofs.Begins.{begins-topic}
use Rattle.broker_goals.proofs.topics.topics_of.Goals as goal
use Rattle.broker_goals.proofs.topics.topics_of.Goals.{then-topic-len+in_ok-copy+in_ok-push, else-topic-len}

pub loop-place-init : goal.loop-place-init
loop-place-init c = rw c.new-found.ensures.items (topics-start c.args.case.now.parts)

pub loop-place-preserved : goal.loop-place-preserved
loop-place-preserved c =
    let parts = c.args.case.now.parts in
    let i = c.loop-place.place in
    let found = c.loop-place.found.items in
    let part = c.index-parts-place.result in
    let within = rw c.parts-parts.ensures.value at c.loop-place-test.true in
    let here : part ≡ get_or parts i part = rw c.parts-parts.ensures.value at c.index-parts-place.is in
    let begins : list_any (bytes_eq part.topic) found ≡ not (c.topic.result == length found) = rw (← here) at (begins-topic parts found i c.topic.result part within c.loop-place.invariant c.topic.ensures.only) in
    let long : c.len.result ≡ length found = omega (arith, c.len.ensures, c.loop-place.found.ok) in
    let next : c.if-topic-len.found.items ≡ (if list_any (bytes_eq part.topic) found then found else found ++ part.topic ∷ []) = elim c.if-topic-len.branch [
      | then-topic-len+in_ok-copy+in_ok-push w ↦
          let new : list_any (bytes_eq part.topic) found ≡ false = begins ∙ ap not (eq-eqb c.topic.result (length found) (w.if-topic-len.true ∙ long)) in
          rw (w.found-is, w.in_ok-push.ensures.items, w.in_ok-copy.ensures, new) refl
      | else-topic-len w ↦
          let old : list_any (bytes_eq part.topic) found ≡ true = begins ∙ ap not (ne_eqb c.topic.result (length found) (λ e. w.if-topic-len.false (e ∙ sym long))) in
          rw (w.found-is, old) refl
    ] in
    topics-next found c.if-topic-len.found.items parts i part within c.loop-place.invariant (rw (← here) next)
