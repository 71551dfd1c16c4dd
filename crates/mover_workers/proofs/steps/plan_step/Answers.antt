use Rattle.mover_rounds.proofs.Ending.{cause_behind, cause_unasked}
use Rattle.mover_rounds.proofs.Exits.{passed_on}
use Rattle.mover_rounds.proofs.Rounding.{job_done}
use Rattle.mover_workers.proofs.Stepping.{plan_back}
use Rattle.mover_workers.proofs.steps.plan_step.Goals as goal

pub returns-in_ok-do_job-in-Ok-clause-made : goal.returns-in_ok-do_job-in-Ok-clause-made
returns-in_ok-do_job-in-Ok-clause-made g c k =
    let h = rw c.in-Ok.is at c.in_ok-job.ensures.job in
    job_done (g.X.Asker.known c.args.asker.now) (g.X.Asker.known c.ask_job.new.asker) (g.X.Asker.known c.do_job.new.asker) c.in-Ok.job.ticket c.in-Ok.job.problem k h c.in_ok-do_job-in-Ok.ensures.ended

pub returns-in_err-do_job-in-Ok-clause-made : goal.returns-in_err-do_job-in-Ok-clause-made
returns-in_err-do_job-in-Ok-clause-made g c k =
    let h = rw c.in-Ok.is at c.in_ok-job.ensures.job in
    rw (passed_on c.from_residual-in_err-do_job-in-Ok.result c.in_err-do_job-in-Ok.field-0.0 c.from_residual-in_err-do_job-in-Ok.ensures.1 (λ e q. q)) (plan_back (g.X.Asker.known c.args.asker.now) (g.X.Asker.known c.ask_job.new.asker) (g.X.Asker.known c.do_job.new.asker) c.in-Ok.job.ticket c.in-Ok.job.problem c.in_err-do_job-in-Ok.field-0.0 k h c.in_err-do_job-in-Ok.ensures.ended)

pub returns-in_err-do_job-in-Ok-clause-cause : goal.returns-in_err-do_job-in-Ok-clause-cause
returns-in_err-do_job-in-Ok-clause-cause g c =
    let h = rw c.in-Ok.is at c.in_ok-job.ensures.job in
    rw (passed_on c.from_residual-in_err-do_job-in-Ok.result c.in_err-do_job-in-Ok.field-0.0 c.from_residual-in_err-do_job-in-Ok.ensures.1 (λ e q. q)) (cause_behind (g.X.Asker.known c.args.asker.now) (g.X.Asker.known c.ask_job.new.asker) (g.X.Asker.known c.do_job.new.asker) _ _ c.in_err-do_job-in-Ok.field-0.0 h c.in_err-do_job-in-Ok.ensures.cause)

pub returns-in_err-job-clause-cause : goal.returns-in_err-job-clause-cause
returns-in_err-job-clause-cause g c =
    rw (passed_on c.from_residual.result c.in_err-job.field-0.0 c.from_residual.ensures.1 (λ e q. q)) (cause_unasked (g.X.Asker.known c.args.asker.now) (g.X.Asker.known c.ask_job.new.asker) _ c.in_err-job.field-0.0 c.in_err-job.ensures.unasked)
