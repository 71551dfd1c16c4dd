use Rattle.std.proofs.Common.{eqb, sym}
use Rattle.load_model.proofs.Listed.{find-placed, find-unplaced}
use Rattle.load_model.proofs.case.Case.broker.Goals as goal

pub returns : goal.returns
returns c = rw (← c.self.view_is) (find-placed (λ b. eqb b.id c.args.id) c.self.inside.brokers.items c.in_ok-place.place c.index.result.now (rw (← c.self.view_is) at (sym c.in_ok-place.ensures.place)) c.index.ensures)

pub returns-in_err-place : goal.returns-in_err-place
returns-in_err-place c = rw c.from_residual.ensures (find-unplaced (λ b. eqb b.id c.args.id) c.args.self.now.brokers (sym c.in_err-place.ensures.place))
