use Rattle.std.proofs.Common.{◌≡◌, ◌++◌, take}
use Rattle.std.specs.List.{filter, flat_map}
use Rattle.plan_terms.specs.Legal.{is_legal, moves_from}
use Rattle.move_actions.proofs.listing.push_moves_of.Given as goal

abbrev pub invariant-loop-broker : goal.invariant-loop-broker
invariant-loop-broker l = l.out.items ≡ l.initial.out.items ++ filter (is_legal l.case l.lists) ((flat_map (λ x. moves_from l.case.brokers l.part x.id) (take l.broker-index l.brokers)))
