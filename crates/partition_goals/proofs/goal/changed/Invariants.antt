use Rattle.std.proofs.Common.{◌≡◌, take, length}
use Rattle.partition_goals.proofs.goal.changed.Given as goal

abbrev pub invariant-loop-i : goal.invariant-loop-i
invariant-loop-i l = (take l.i l.copy ≡ take l.i l.list) × (length l.copy ≡ 8)
