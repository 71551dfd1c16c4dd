use Rattle.mover_rounds.specs.Made.{HasPumped, IsPumpCause, copier_of}
use Rattle.mover_workers.proofs.Placing.{by_pass, grown_by_pass, own_by_pass}
use Rattle.mover_workers.proofs.workers.pump.Goals as goal

pub returns-clause-own : goal.returns-clause-own
returns-clause-own g c = own_by_pass c.args.turn.now c.new-caller.result c.pump-end.new.asker c.into_pass.result c.new-caller.ensures.turn c.pump-end.ensures.since c.into_pass.ensures.own

pub returns-clause-grown : goal.returns-clause-grown
returns-clause-grown g c = grown_by_pass c.new-caller.result c.pump-end.new.asker c.args.pass c.into_pass.result c.new-caller.ensures.pass c.pump-end.ensures.since c.into_pass.ensures.pass

pub returns-clause-pumped : goal.returns-clause-pumped
returns-clause-pumped g c =
    by_pass (λ v w. HasPumped v w (copier_of g.K.Copier.copies g.K.Copier.faults c.args.copier.now) (copier_of g.K.Copier.copies g.K.Copier.faults c.pump-end.new.copier) c.args.steps c.pump-end.result)
    c.args.turn.now c.new-caller.result c.pump-end.new.asker c.args.pass c.into_pass.result c.new-caller.ensures.turn c.new-caller.ensures.pass c.pump-end.ensures.since c.into_pass.ensures.pass c.pump-end.ensures.pumped

pub returns-clause-cause : goal.returns-clause-cause
returns-clause-cause g c =
    by_pass (λ v w. IsPumpCause v w c.pump-end.result)
    c.args.turn.now c.new-caller.result c.pump-end.new.asker c.args.pass c.into_pass.result c.new-caller.ensures.turn c.new-caller.ensures.pass c.pump-end.ensures.since c.into_pass.ensures.pass c.pump-end.ensures.cause
