use Rattle.review_board.proofs.Owners.{owner_noted}
use Rattle.review_board.proofs.reviewer.BoardReviewer.note.Goals as goal

pub returns-in-Ok-clause-noted : goal.returns-in-Ok-clause-noted
returns-in-Ok-clause-noted c = owner_noted c.args.self.now c.step.new.self c.args.event c.in-Ok.reply c.in-Ok.ensures.entry c.in-Ok.ensures.reply
