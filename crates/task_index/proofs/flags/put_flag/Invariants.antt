use Rattle.std.proofs.Common.{◌-◌}
use Rattle.task_index.proofs.Writes.{ArePut}
use Rattle.task_index.proofs.flags.put_flag.Given as goal

abbrev pub invariant-loop-height : goal.invariant-loop-height
invariant-loop-height l = ArePut l.fn.levels.items l.place l.flag (l.height - 1) l.at l.levels.items
