use Rattle.std.proofs.Common.{sym, ◌∙◌}
use Rattle.mover_rounds.specs.Made.{copier_of}
use Rattle.rest_session.proofs.Calling.{called_at_once}
use Rattle.rest_session.proofs.answer.told_by.Goals as goal

pub returns-else-reviews-clause-called : goal.returns-else-reviews-clause-called
returns-else-reviews-clause-called g c =
    let s = c.told_at_once in
    called_at_once (g.X.Asker.known c.args.asker.now) (g.X.Asker.known s.new.asker) (g.V.Reviewer.board c.args.reviewer.now) (copier_of g.K.Copier.copies g.K.Copier.faults c.args.copier.now) (copier_of g.K.Copier.copies g.K.Copier.faults s.new.copier) c.args.raw.now s.result
    (sym c.reviews.ensures ∙ c.if-reviews.false) s.ensures.called
