use Rattle.mover_rounds.specs.Made.{copier_of}
use Rattle.mover_workers.specs.Loops.{HasMoved, IsLoopCause}
use Rattle.mover_workers.proofs.Closing.{moves_closed}
use Rattle.mover_workers.proofs.Placing.{by_pass, grown_by_pass, own_by_pass}
use Rattle.mover_workers.proofs.workers.mover_loop.Goals as goal

pub returns-clause-own : goal.returns-clause-own
returns-clause-own g c = own_by_pass c.args.turn.now c.new-caller.result c.make_moves-end.new.asker c.into_pass.result c.new-caller.ensures.turn c.make_moves-end.ensures.since c.into_pass.ensures.own

pub returns-clause-grown : goal.returns-clause-grown
returns-clause-grown g c = grown_by_pass c.new-caller.result c.make_moves-end.new.asker c.args.pass c.into_pass.result c.new-caller.ensures.pass c.make_moves-end.ensures.since c.into_pass.ensures.pass

pub returns-clause-moved : goal.returns-clause-moved
returns-clause-moved g c =
    by_pass (λ v w. HasMoved v w (copier_of g.K.Copier.copies g.K.Copier.faults c.args.copier.now) (copier_of g.K.Copier.copies g.K.Copier.faults c.make_moves-end.new.copier) c.make_moves-end.result)
    c.args.turn.now c.new-caller.result c.make_moves-end.new.asker c.args.pass c.into_pass.result c.new-caller.ensures.turn c.new-caller.ensures.pass c.make_moves-end.ensures.since c.into_pass.ensures.pass c.make_moves-end.ensures.moved

pub returns-clause-cause : goal.returns-clause-cause
returns-clause-cause g c =
    by_pass (λ v w. IsLoopCause v w c.make_moves-end.result)
    c.args.turn.now c.new-caller.result c.make_moves-end.new.asker c.args.pass c.into_pass.result c.new-caller.ensures.turn c.new-caller.ensures.pass c.make_moves-end.ensures.since c.into_pass.ensures.pass c.make_moves-end.ensures.cause

pub returns-clause-closed : goal.returns-clause-closed
returns-clause-closed g c =
    moves_closed c.args.turn.now.start.file c.every_history.ensures.closing c.args.pass c.into_pass.result (copier_of g.K.Copier.copies g.K.Copier.faults c.args.copier.now) (copier_of g.K.Copier.copies g.K.Copier.faults c.make_moves-end.new.copier) c.make_moves-end.result
    (by_pass (λ v w. HasMoved v w (copier_of g.K.Copier.copies g.K.Copier.faults c.args.copier.now) (copier_of g.K.Copier.copies g.K.Copier.faults c.make_moves-end.new.copier) c.make_moves-end.result)
    c.args.turn.now c.new-caller.result c.make_moves-end.new.asker c.args.pass c.into_pass.result c.new-caller.ensures.turn c.new-caller.ensures.pass c.make_moves-end.ensures.since c.into_pass.ensures.pass c.make_moves-end.ensures.moved)
