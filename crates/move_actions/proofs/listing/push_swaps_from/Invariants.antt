use Rattle.std.proofs.Common.{◌≡◌, ◌++◌}
use Rattle.std.specs.List.{filter}
use Rattle.plan_terms.specs.Legal.{is_legal, each_below, swaps_with}
use Rattle.move_actions.proofs.listing.push_swaps_from.Given as goal

abbrev pub invariant-loop-other : goal.invariant-loop-other
invariant-loop-other l = l.out.items ≡ l.initial.out.items ++ filter (is_legal l.case l.lists) ((each_below (swaps_with l.case.brokers l.part l.from) l.other))
