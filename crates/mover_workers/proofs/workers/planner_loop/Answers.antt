use Rattle.mover_workers.specs.Loops.{HasPlanned}
use Rattle.mover_workers.proofs.Closing.{plans_closed}
use Rattle.mover_workers.proofs.Placing.{by_pass, grown_by_pass, own_by_pass}
use Rattle.mover_workers.proofs.workers.planner_loop.Goals as goal

pub returns-clause-own : goal.returns-clause-own
returns-clause-own g c = own_by_pass c.args.turn.now c.new-caller.result c.make_plans-end.new.asker c.into_pass.result c.new-caller.ensures.turn c.make_plans-end.ensures.since c.into_pass.ensures.own

pub returns-clause-grown : goal.returns-clause-grown
returns-clause-grown g c = grown_by_pass c.new-caller.result c.make_plans-end.new.asker c.args.pass c.into_pass.result c.new-caller.ensures.pass c.make_plans-end.ensures.since c.into_pass.ensures.pass

pub returns-clause-planned : goal.returns-clause-planned
returns-clause-planned g c =
    by_pass (λ v w. HasPlanned v w c.make_plans-end.result)
    c.args.turn.now c.new-caller.result c.make_plans-end.new.asker c.args.pass c.into_pass.result c.new-caller.ensures.turn c.new-caller.ensures.pass c.make_plans-end.ensures.since c.into_pass.ensures.pass c.make_plans-end.ensures.planned

pub returns-clause-closed : goal.returns-clause-closed
returns-clause-closed g c =
    plans_closed c.args.turn.now.start.file c.every_history.ensures.closing c.args.pass c.into_pass.result c.make_plans-end.result
    (by_pass (λ v w. HasPlanned v w c.make_plans-end.result)
    c.args.turn.now c.new-caller.result c.make_plans-end.new.asker c.args.pass c.into_pass.result c.new-caller.ensures.turn c.new-caller.ensures.pass c.make_plans-end.ensures.since c.into_pass.ensures.pass c.make_plans-end.ensures.planned)
