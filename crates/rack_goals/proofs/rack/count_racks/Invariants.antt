use Rattle.std.proofs.Common.{◌≡◌, ◌+◌, ◌≤◌, drop}
use Rattle.plan_terms.specs.Racks.{rack_count}
use Rattle.rack_goals.proofs.rack.count_racks.Given as goal

abbrev pub invariant-loop-i : goal.invariant-loop-i
invariant-loop-i l = (l.racks + rack_count l.case (drop l.i l.list) ≡ rack_count l.case l.list) × (l.racks ≤ l.i)
