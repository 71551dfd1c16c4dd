use Rattle.review_board.specs.declared.events.BoardReply.TheVariants as reply
use Rattle.rest_session.proofs.Given.{board_asked, board_told, board_unasked}
use Rattle.rest_session.proofs.reviewed.told_on_board.Goals as goal

pub returns-in-Err-Memory-clause-asked : goal.returns-in-Err-Memory-clause-asked
returns-in-Err-Memory-clause-asked g c = λ k.
    board_unasked (g.X.Asker.known c.args.asker.now) (g.V.Reviewer.board c.args.reviewer.now) (g.V.Reviewer.board c.note.new.self) k c.args.event (rw c.in-Err-Memory.field-0-is at c.in-Err-Memory.ensures.unnoted)

pub returns-in-Given-clause-asked : goal.returns-in-Given-clause-asked
returns-in-Given-clause-asked g c = λ k.
    board_asked (g.X.Asker.known c.args.asker.now) (g.X.Asker.known c.told_given.new.asker) (g.V.Reviewer.board c.args.reviewer.now) (g.V.Reviewer.board c.note.new.self) k c.args.event (reply.Given c.in-Given.target) c.told_given.result
    (rw c.in-Given.is at c.in-Ok.ensures.noted) (c.told_given.ensures.given k)

pub returns-in_default-clause-asked : goal.returns-in_default-clause-asked
returns-in_default-clause-asked g c = λ k.
    board_told (g.X.Asker.known c.args.asker.now) (g.V.Reviewer.board c.args.reviewer.now) (g.V.Reviewer.board c.note.new.self) k c.args.event c.in-Ok.reply c.in_default.not-Given c.in-Ok.ensures.noted
