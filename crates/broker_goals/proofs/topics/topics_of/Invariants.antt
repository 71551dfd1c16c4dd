use Rattle.std.proofs.Common.{◌≡◌, drop}
use Rattle.std.specs.Prelude.{map}
use Rattle.plan_terms.specs.Faults.{topics, distinct_from}
use Rattle.broker_goals.proofs.topics.topics_of.Given as goal

abbrev pub invariant-loop-place : goal.invariant-loop-place
invariant-loop-place l = distinct_from l.found.items (map (λ p. p.topic) (drop l.place l.case.parts)) ≡ topics l.case.parts
