use Rattle.mover_rounds.specs.Made.{copier_of}
use Rattle.mover_rounds.proofs.Ending.{cause_behind, cause_unasked, causes_behind}
use Rattle.mover_rounds.proofs.Exits.{passed_on}
use Rattle.mover_workers.proofs.Stepping.{move_back, move_idle, move_refused}
use Rattle.mover_workers.proofs.steps.move_step.Goals as goal

pub returns-in_err-do_work-in-Ok-clause-made : goal.returns-in_err-do_work-in-Ok-clause-made
returns-in_err-do_work-in-Ok-clause-made g c =
    let h = rw c.in-Ok.is at c.in_ok-given.ensures.work in
    rw (passed_on c.from_residual-in_err-do_work-in-Ok.result c.in_err-do_work-in-Ok.field-0.0 c.from_residual-in_err-do_work-in-Ok.ensures.1 (λ e q. q)) (move_back (g.X.Asker.known c.args.asker.now) (g.X.Asker.known c.ask_work.new.asker) (g.X.Asker.known c.do_work.new.asker) c.in-Ok.given c.in_err-do_work-in-Ok.field-0.0
    (copier_of g.K.Copier.copies g.K.Copier.faults c.args.copier.now) (copier_of g.K.Copier.copies g.K.Copier.faults c.do_work.new.copier) h c.in_err-do_work-in-Ok.ensures.worked)

pub returns-in_err-do_work-in-Ok-clause-cause : goal.returns-in_err-do_work-in-Ok-clause-cause
returns-in_err-do_work-in-Ok-clause-cause g c =
    let h = rw c.in-Ok.is at c.in_ok-given.ensures.work in
    rw (passed_on c.from_residual-in_err-do_work-in-Ok.result c.in_err-do_work-in-Ok.field-0.0 c.from_residual-in_err-do_work-in-Ok.ensures.1 (λ e q. q)) (cause_behind (g.X.Asker.known c.args.asker.now) (g.X.Asker.known c.ask_work.new.asker) (g.X.Asker.known c.do_work.new.asker) _ _ c.in_err-do_work-in-Ok.field-0.0 h c.in_err-do_work-in-Ok.ensures.cause)

pub returns-in-Err-clause-made : goal.returns-in-Err-clause-made
returns-in-Err-clause-made g c =
    let h = rw c.in-Err.is at c.in_ok-given.ensures.no_work in
    let k = copier_of g.K.Copier.copies g.K.Copier.faults c.args.copier.now in
    move_idle (g.X.Asker.known c.args.asker.now) (g.X.Asker.known c.ask_work.new.asker) (g.X.Asker.known c.idle_step.new.asker) _ _ k c.idle_step.result h (c.idle_step.ensures.made k)

pub returns-in-Err-clause-cause : goal.returns-in-Err-clause-cause
returns-in-Err-clause-cause g c =
    let h = rw c.in-Err.is at c.in_ok-given.ensures.no_work in
    causes_behind (g.X.Asker.known c.args.asker.now) (g.X.Asker.known c.ask_work.new.asker) (g.X.Asker.known c.idle_step.new.asker) _ _ c.idle_step.result h c.idle_step.ensures.cause

pub returns-in_err-given-clause-made : goal.returns-in_err-given-clause-made
returns-in_err-given-clause-made g c = rw (passed_on c.from_residual.result c.in_err-given.field-0.0 c.from_residual.ensures.1 (λ e q. q)) (move_refused (g.X.Asker.known c.args.asker.now) (g.X.Asker.known c.ask_work.new.asker) c.in_err-given.field-0.0 c.in_err-given.field-0.0 (copier_of g.K.Copier.copies g.K.Copier.faults c.args.copier.now) c.in_err-given.ensures.unasked)

pub returns-in_err-given-clause-cause : goal.returns-in_err-given-clause-cause
returns-in_err-given-clause-cause g c =
    rw (passed_on c.from_residual.result c.in_err-given.field-0.0 c.from_residual.ensures.1 (λ e q. q)) (cause_unasked (g.X.Asker.known c.args.asker.now) (g.X.Asker.known c.ask_work.new.asker) _ c.in_err-given.field-0.0 c.in_err-given.ensures.unasked)
