use Rattle.std.proofs.Common.{sym, ◌∙◌}
use Rattle.executor_core.proofs.Marked.{for_found, for_other, for_none}
use Rattle.executor_core.proofs.exec.Exec.holder_for.Goals as goal

pub returns-in-None : goal.returns-in-None
returns-in-None c = rw (← c.self.view_is) (for_none _ c.args.lease c.args.kind (c.self.invariant.valid.one_holder c.args.lease) (rw (← c.self.view_is) at c.in-None.ensures))

pub returns-then-holds_for : goal.returns-then-holds_for
returns-then-holds_for c = rw (← c.self.view_is) (for_found _ c.args.lease c.args.kind (c.self.invariant.valid.one_holder c.args.lease) c.in-Some.i c.index.result.now (rw (← c.self.view_is) at c.in-Some.ensures) c.index.ensures (sym c.holds_for.ensures ∙ c.if-holds_for.true))

pub returns-else-holds_for : goal.returns-else-holds_for
returns-else-holds_for c = rw (← c.self.view_is) (for_other _ c.args.lease c.args.kind (c.self.invariant.valid.one_holder c.args.lease) c.in-Some.i c.index.result.now (rw (← c.self.view_is) at c.in-Some.ensures) c.index.ensures (sym c.holds_for.ensures ∙ c.if-holds_for.false))
