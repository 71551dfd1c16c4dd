use Rattle.mover_rounds.specs.Made.{copier_of}
use Rattle.mover_rounds.proofs.Ending.{cause_behind, cause_unasked}
use Rattle.mover_rounds.proofs.Exits.{passed_on}
use Rattle.mover_rounds.proofs.Rounding.{work_undone, nothing_taken}
use Rattle.mover_rounds.proofs.round.take_work.Goals as goal

pub returns-in_err-do_work-in-Ok-clause-round : goal.returns-in_err-do_work-in-Ok-clause-round
returns-in_err-do_work-in-Ok-clause-round g c =
    let h = rw c.in-Ok.is at c.in_ok-given.ensures.work in
    rw (passed_on c.from_residual-in_err-do_work-in-Ok.result c.in_err-do_work-in-Ok.field-0.0 c.from_residual-in_err-do_work-in-Ok.ensures.1 (λ e q. q)) (work_undone _ (g.X.Asker.known c.ask_work.new.asker) _ c.in-Ok.given _ _ h c.in_err-do_work-in-Ok.ensures.worked)

pub returns-in_err-given-clause-round : goal.returns-in_err-given-clause-round
returns-in_err-given-clause-round g c = rw (passed_on c.from_residual.result c.in_err-given.field-0.0 c.from_residual.ensures.1 (λ e q. q)) (nothing_taken _ _ _ _ (copier_of g.K.Copier.copies g.K.Copier.faults c.args.copier.now) c.in_err-given.ensures.unasked)

pub returns-in_err-do_work-in-Ok-clause-cause : goal.returns-in_err-do_work-in-Ok-clause-cause
returns-in_err-do_work-in-Ok-clause-cause g c =
    let h = rw c.in-Ok.is at c.in_ok-given.ensures.work in
    rw (passed_on c.from_residual-in_err-do_work-in-Ok.result c.in_err-do_work-in-Ok.field-0.0 c.from_residual-in_err-do_work-in-Ok.ensures.1 (λ e q. q)) (cause_behind (g.X.Asker.known c.args.asker.now) (g.X.Asker.known c.ask_work.new.asker) (g.X.Asker.known c.do_work.new.asker) _ _ c.in_err-do_work-in-Ok.field-0.0 h c.in_err-do_work-in-Ok.ensures.cause)

pub returns-in_err-given-clause-cause : goal.returns-in_err-given-clause-cause
returns-in_err-given-clause-cause g c =
    rw (passed_on c.from_residual.result c.in_err-given.field-0.0 c.from_residual.ensures.1 (λ e q. q)) (cause_unasked (g.X.Asker.known c.args.asker.now) (g.X.Asker.known c.ask_work.new.asker) _ c.in_err-given.field-0.0 c.in_err-given.ensures.unasked)
