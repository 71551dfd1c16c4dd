use Rattle.std.proofs.Common.{rules, ◌≡◌, true, subst}
use Rattle.review_board.specs.Asked.{HasNotedBy, IsUnnotedBy}
use Rattle.review_board.specs.declared.reviewer.NoteFault.TheVariants as fault
use Rattle.live_service.specs.Boards.{BoardCallerView, board_seen}
use Rattle.live_service.proofs.Noting.{has_noted, has_unnoted}
use Rattle.live_service.proofs.boards.BoardCallerReviewer.note.Goals as goal

pub returns-in-Ok-clause-noted : goal.returns-in-Ok-clause-noted
returns-in-Ok-clause-noted g c =
    let inside = c.self.inside in
    let new = c.act.new.pass in
    let reviewed : inside.reviews ≡ true = search rules in
    subst (λ (v : BoardCallerView). HasNotedBy (board_seen v.reviews v.pass) (board_seen inside.reviews new) c.args.event c.in-Ok.reply) c.self.view_is
    (rw reviewed (has_noted inside.pass new c.self.invariant.placed c.args.event c.in-Ok.reply c.in-Ok.ensures.made))

pub returns-clause-unnoted : goal.returns-clause-unnoted
returns-clause-unnoted g c =
    let inside = c.self.inside in
    let new = c.act.new.pass in
    let reviewed : inside.reviews ≡ true = search rules in
    let refused = c.in-Err.ensures.refused in
    subst (λ (v : BoardCallerView). IsUnnotedBy (board_seen v.reviews v.pass) (board_seen inside.reviews new) fault.Memory) c.self.view_is
    (rw reviewed (has_unnoted inside.pass new c.self.invariant.placed refused.longer refused.mine))
