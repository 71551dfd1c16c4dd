use Rattle.std.proofs.Common.{◌∙◌}
use Rattle.executor_core.proofs.Marked.{holder_is}
use Rattle.executor_core.proofs.exec.Exec.holder.Goals as goal

pub returns : goal.returns
returns c = rw (← c.self.view_is) (c.holder.ensures ∙ holder_is _ _ c.self.invariant.index_is c.args.lease)
