use Rattle.std.proofs.Common.{◌≡◌, ◌<◌, ℕ, map, drop, length, get_or}
use Rattle.plan_terms.specs.Faults.{topics, distinct_from}
use Rattle.load_model.specs.Places.{StandsAt, topic_of}
use Rattle.load_model.proofs.topics.number_topics.Given as goal

abbrev pub invariant-loop-part : goal.invariant-loop-part
invariant-loop-part l = record {
  rest : distinct_from (map (λ s. s.now) l.seen.keys) (map (λ p. p.topic) (drop l.part-index l.parts)) ≡ topics l.parts;
  one_each : length l.places.items ≡ l.part-index;
  each : (p : ℕ) → p < l.part-index → StandsAt (map (λ s. s.now) l.seen.keys) (topic_of l.parts p) (get_or l.places.items p 0);
}
