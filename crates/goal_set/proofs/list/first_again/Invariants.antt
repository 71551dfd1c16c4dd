use Rattle.std.proofs.Common.{◌≡◌, [], take, drop}
use Rattle.goal_set.specs.Read.{first_again}
use Rattle.goal_set.proofs.list.first_again.Given as goal

abbrev pub invariant-loop-i : goal.invariant-loop-i
invariant-loop-i l = first_again (take l.i l.names) (drop l.i l.names) ≡ first_again [] l.names
