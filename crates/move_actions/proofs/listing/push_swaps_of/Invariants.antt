use Rattle.std.proofs.Common.{◌≡◌, ◌++◌, take, length}
use Rattle.std.specs.List.{filter, flat_map}
use Rattle.plan_terms.specs.Legal.{is_legal, each_below, swaps_with}
use Rattle.move_actions.proofs.listing.push_swaps_of.Given as goal

abbrev pub invariant-loop-broker : goal.invariant-loop-broker
invariant-loop-broker l = l.out.items ≡ l.initial.out.items ++ filter (is_legal l.case l.lists) ((flat_map (λ x. each_below (swaps_with l.case.brokers l.part x.id) (length l.lists)) (take l.broker-index l.brokers)))
