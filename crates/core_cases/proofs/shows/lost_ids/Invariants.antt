use Rattle.std.proofs.Common.{◌≡◌, map, filter, take}
use Rattle.plan_terms.specs.States.{is_dead}
use Rattle.core_cases.proofs.shows.lost_ids.Given as goal

abbrev pub invariant-loop-broker : goal.invariant-loop-broker
invariant-loop-broker l = l.ids.items ≡ map (λ b. b.id) (filter (λ b. is_dead b.state) (take l.broker-index l.broker-items))
