use Rattle.mover_rounds.specs.Made.{copier_of}
use Rattle.mover_rounds.proofs.Ending.{cause_behind, cause_unasked, causes_behind}
use Rattle.mover_rounds.proofs.Exits.{passed_on}
use Rattle.mover_rounds.proofs.Rounding.{job_done, job_undone, round_behind, nothing_round}
use Rattle.mover_rounds.proofs.round.one_round.Goals as goal

pub returns-in_ok-do_job-in-Ok-clause-round : goal.returns-in_ok-do_job-in-Ok-clause-round
returns-in_ok-do_job-in-Ok-clause-round g c =
    let h = rw c.in-Ok.is at c.in_ok-job.ensures.job in
    job_done _ (g.X.Asker.known c.ask_job.new.asker) _ c.in-Ok.job.ticket c.in-Ok.job.problem (copier_of g.K.Copier.copies g.K.Copier.faults c.args.copier.now) h c.in_ok-do_job-in-Ok.ensures.ended

pub returns-in_err-do_job-in-Ok-clause-round : goal.returns-in_err-do_job-in-Ok-clause-round
returns-in_err-do_job-in-Ok-clause-round g c =
    let h = rw c.in-Ok.is at c.in_ok-job.ensures.job in
    rw (passed_on c.from_residual-in_err-do_job-in-Ok.result c.in_err-do_job-in-Ok.field-0.0 c.from_residual-in_err-do_job-in-Ok.ensures.1 (λ e q. q)) (job_undone _ (g.X.Asker.known c.ask_job.new.asker) _ c.in-Ok.job.ticket c.in-Ok.job.problem (copier_of g.K.Copier.copies g.K.Copier.faults c.args.copier.now) h c.in_err-do_job-in-Ok.ensures.ended)

pub returns-in-Err-clause-round : goal.returns-in-Err-clause-round
returns-in-Err-clause-round g c =
    let h = rw c.in-Err.is at c.in_ok-job.ensures.no_job in
    round_behind _ (g.X.Asker.known c.ask_job.new.asker) _ c.in-Err.field-0 (copier_of g.K.Copier.copies g.K.Copier.faults c.args.copier.now) (copier_of g.K.Copier.copies g.K.Copier.faults c.take_work.new.copier) c.take_work.result h c.take_work.ensures.round

pub returns-in_err-job-clause-round : goal.returns-in_err-job-clause-round
returns-in_err-job-clause-round g c = rw (passed_on c.from_residual.result c.in_err-job.field-0.0 c.from_residual.ensures.1 (λ e q. q)) (nothing_round _ _ _ _ (copier_of g.K.Copier.copies g.K.Copier.faults c.args.copier.now) c.in_err-job.ensures.unasked)

pub returns-in_err-do_job-in-Ok-clause-cause : goal.returns-in_err-do_job-in-Ok-clause-cause
returns-in_err-do_job-in-Ok-clause-cause g c =
    let h = rw c.in-Ok.is at c.in_ok-job.ensures.job in
    rw (passed_on c.from_residual-in_err-do_job-in-Ok.result c.in_err-do_job-in-Ok.field-0.0 c.from_residual-in_err-do_job-in-Ok.ensures.1 (λ e q. q)) (cause_behind (g.X.Asker.known c.args.asker.now) (g.X.Asker.known c.ask_job.new.asker) (g.X.Asker.known c.do_job.new.asker) _ _ c.in_err-do_job-in-Ok.field-0.0 h c.in_err-do_job-in-Ok.ensures.cause)

pub returns-in-Err-clause-cause : goal.returns-in-Err-clause-cause
returns-in-Err-clause-cause g c =
    let h = rw c.in-Err.is at c.in_ok-job.ensures.no_job in
    causes_behind (g.X.Asker.known c.args.asker.now) (g.X.Asker.known c.ask_job.new.asker) (g.X.Asker.known c.take_work.new.asker) _ _ c.take_work.result h c.take_work.ensures.cause

pub returns-in_err-job-clause-cause : goal.returns-in_err-job-clause-cause
returns-in_err-job-clause-cause g c =
    rw (passed_on c.from_residual.result c.in_err-job.field-0.0 c.from_residual.ensures.1 (λ e q. q)) (cause_unasked (g.X.Asker.known c.args.asker.now) (g.X.Asker.known c.ask_job.new.asker) _ c.in_err-job.field-0.0 c.in_err-job.ensures.unasked)
