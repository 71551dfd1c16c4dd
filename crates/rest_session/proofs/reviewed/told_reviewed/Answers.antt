use Rattle.std.proofs.Common.{refl}
use Rattle.mover_rounds.specs.Made.{copier_of}
use Rattle.rest_parse.specs.declared.reviews.ReviewCall.TheVariants as review
use Rattle.review_board.specs.declared.events.BoardEvent.TheVariants as board
use Rattle.rest_session.proofs.Given.{called_not, called_on_board, called_plainly}
use Rattle.rest_session.proofs.reviewed.told_reviewed.Goals as goal

pub returns-in-Ok-Plain-clause-called : goal.returns-in-Ok-Plain-clause-called
returns-in-Ok-Plain-clause-called g c =
    let call = c.in-Ok-Plain.call in
    called_plainly (g.X.Asker.known c.args.asker.now) (g.X.Asker.known c.do_asked.new.asker) (g.V.Reviewer.board c.args.reviewer.now) (copier_of g.K.Copier.copies g.K.Copier.faults c.args.copier.now) (copier_of g.K.Copier.copies g.K.Copier.faults c.do_asked.new.copier) c.args.raw.now call c.do_asked.result c.requires
    (rw c.in-Ok-Plain.field-0-is at c.in-Ok-Plain.ensures.is) (rw c.plainly_asked.ensures at c.do_asked.ensures.done)

pub returns-in-Err-clause-called : goal.returns-in-Err-clause-called
returns-in-Err-clause-called g c =
    called_not (g.X.Asker.known c.args.asker.now) (g.V.Reviewer.board c.args.reviewer.now) (copier_of g.K.Copier.copies g.K.Copier.faults c.args.copier.now) c.args.raw.now c.in-Err.fault c.requires c.in-Err.ensures.is

pub returns-in-Ok-File-clause-called : goal.returns-in-Ok-File-clause-called
returns-in-Ok-File-clause-called g c =
    let s = c.told_on_board in
    let k = copier_of g.K.Copier.copies g.K.Copier.faults c.args.copier.now in
    called_on_board (g.X.Asker.known c.args.asker.now) (g.X.Asker.known s.new.asker) (g.V.Reviewer.board c.args.reviewer.now) (g.V.Reviewer.board s.new.reviewer) k k c.args.raw.now (review.File c.in-Ok-File.path c.in-Ok-File.target) (board.File c.in-Ok-File.path c.in-Ok-File.target) s.result c.requires
    (rw c.in-Ok-File.field-0-is at c.in-Ok-File.ensures.is) refl (s.ensures.asked k)

pub returns-in-Ok-Take-clause-called : goal.returns-in-Ok-Take-clause-called
returns-in-Ok-Take-clause-called g c =
    let s = c.told_on_board-in-Ok-Take in
    let k = copier_of g.K.Copier.copies g.K.Copier.faults c.args.copier.now in
    called_on_board (g.X.Asker.known c.args.asker.now) (g.X.Asker.known s.new.asker) (g.V.Reviewer.board c.args.reviewer.now) (g.V.Reviewer.board s.new.reviewer) k k c.args.raw.now (review.Take c.in-Ok-Take.id c.in-Ok-Take.path) (board.Take c.in-Ok-Take.id c.in-Ok-Take.path) s.result c.requires
    (rw c.in-Ok-Take.field-0-is at c.in-Ok-Take.ensures.is) refl (s.ensures.asked k)

pub returns-in-Ok-Review-clause-called : goal.returns-in-Ok-Review-clause-called
returns-in-Ok-Review-clause-called g c =
    let s = c.told_on_board-in-Ok-Review in
    let k = copier_of g.K.Copier.copies g.K.Copier.faults c.args.copier.now in
    called_on_board (g.X.Asker.known c.args.asker.now) (g.X.Asker.known s.new.asker) (g.V.Reviewer.board c.args.reviewer.now) (g.V.Reviewer.board s.new.reviewer) k k c.args.raw.now (review.Review c.in-Ok-Review.approve c.in-Ok-Review.discard) (board.Review c.in-Ok-Review.approve c.in-Ok-Review.discard) s.result c.requires
    (rw c.in-Ok-Review.field-0-is at c.in-Ok-Review.ensures.is) refl (s.ensures.asked k)

pub returns-in-Ok-List-clause-called : goal.returns-in-Ok-List-clause-called
returns-in-Ok-List-clause-called g c =
    let s = c.told_on_board-in-Ok-List in
    let k = copier_of g.K.Copier.copies g.K.Copier.faults c.args.copier.now in
    called_on_board (g.X.Asker.known c.args.asker.now) (g.X.Asker.known s.new.asker) (g.V.Reviewer.board c.args.reviewer.now) (g.V.Reviewer.board s.new.reviewer) k k c.args.raw.now review.List board.List s.result c.requires
    (rw c.in-Ok-List.field-0-is at c.in-Ok-List.ensures.is) refl (s.ensures.asked k)
