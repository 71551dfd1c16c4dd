use Rattle.std.proofs.Common.{◌≡◌, drop}
use Rattle.std.specs.List.{list_any}
use Rattle.plan_terms.specs.Racks.{same_rack}
use Rattle.rack_goals.proofs.rack.stands_again.Given as goal

abbrev pub invariant-loop-b : goal.invariant-loop-b
invariant-loop-b l = list_any (same_rack l.case l.a) (drop l.b-index l.later) ≡ list_any (same_rack l.case l.a) l.later
