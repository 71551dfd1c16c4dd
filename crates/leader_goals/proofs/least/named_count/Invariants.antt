use Rattle.std.proofs.Common.{◌≡◌, ◌≤◌, take, length}
use Rattle.std.specs.List.{filter}
use Rattle.std.specs.Prelude.{is_some}
use Rattle.leader_goals.proofs.least.named_count.Given as goal

abbrev pub invariant-loop-floor : goal.invariant-loop-floor
invariant-loop-floor l = record {
  value : l.count ≡ length (filter is_some (take l.floor-index l.floors));
  few : l.count ≤ l.floor-index;
}
