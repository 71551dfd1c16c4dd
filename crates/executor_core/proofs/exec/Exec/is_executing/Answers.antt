use Rattle.std.proofs.Common.{sym, ap, ◌∙◌}
use Rattle.std.specs.Prelude.{nat_lt}
use Rattle.executor_core.proofs.Unfinished.{any_left}
use Rattle.executor_core.proofs.exec.Exec.is_executing.Goals as goal

pub returns : goal.returns
returns c = rw (← c.self.view_is) (ap (nat_lt 0) c.self.invariant.left_is ∙ sym (any_left c.self.inside.tasks.items))
