use Rattle.std.proofs.Common.{◌∙◌}
use Rattle.executor_core.proofs.Fitting.{waiting_is}
use Rattle.executor_core.proofs.exec.Exec.any_pending.Goals as goal

pub returns : goal.returns
returns c = rw (← c.self.view_is) (c.any_waits.ensures ∙ waiting_is _ _ c.self.invariant.queue_is)
