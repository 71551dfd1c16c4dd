use Rattle.std.proofs.Common.{◌∙◌}
use Rattle.executor_core.proofs.Fitting.{first_is}
use Rattle.executor_core.proofs.exec.Exec.first_to_start.Goals as goal

pub returns : goal.returns
returns c = rw (← c.self.view_is) (c.in_ok-first.ensures ∙ first_is _ _ _ _ _ c.self.invariant.counts_are c.self.invariant.queue_is)

pub returns-in_err-first : goal.returns-in_err-first
returns-in_err-first c = rw (c.from_residual.ensures, ← c.self.view_is) (c.in_err-first.ensures ∙ first_is _ _ _ _ _ c.self.invariant.counts_are c.self.invariant.queue_is)
