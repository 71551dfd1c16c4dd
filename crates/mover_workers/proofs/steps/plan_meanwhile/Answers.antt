use Rattle.mover_rounds.proofs.Exits.{passed_on}
use Rattle.mover_workers.proofs.Stepping.{meanwhile_broken, meanwhile_done, meanwhile_rests}
use Rattle.mover_workers.proofs.steps.plan_meanwhile.Goals as goal

pub returns-in-Done-clause-made : goal.returns-in-Done-clause-made
returns-in-Done-clause-made g c k b =
    meanwhile_done (g.X.Asker.known c.args.asker.now) (g.X.Asker.known c.plan_step.new.asker) k b (rw c.in-Done.is at (c.in_ok-plan_step.ensures.made k))

pub returns-in-Idle-clause-made : goal.returns-in-Idle-clause-made
returns-in-Idle-clause-made g c k b =
    meanwhile_rests (g.X.Asker.known c.args.asker.now) (g.X.Asker.known c.plan_step.new.asker) k b c.in_ok-plan_step.field-0 c.in-Idle.is (c.in_ok-plan_step.ensures.made k)

pub returns-in_err-plan_step-clause-made : goal.returns-in_err-plan_step-clause-made
returns-in_err-plan_step-clause-made g c k b =
    rw (passed_on c.from_residual.result c.in_err-plan_step.field-0.0 c.from_residual.ensures.1 (λ e q. q)) (meanwhile_broken (g.X.Asker.known c.args.asker.now) (g.X.Asker.known c.plan_step.new.asker) k b c.in_err-plan_step.field-0.0 (c.in_err-plan_step.ensures.made k))
