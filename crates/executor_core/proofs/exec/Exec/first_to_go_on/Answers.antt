use Rattle.std.proofs.Common.{◌∙◌}
use Rattle.executor_core.proofs.Marked.{step_is}
use Rattle.executor_core.proofs.exec.Exec.first_to_go_on.Goals as goal

pub returns : goal.returns
returns c = rw (← c.self.view_is) (c.first_to_go_on.ensures ∙ step_is _ _ c.self.invariant.index_is)
