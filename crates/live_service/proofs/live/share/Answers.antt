use Rattle.std.proofs.Common.{ap, ◌∙◌}
use Rattle.mover_workers.specs.Callers.{CallerView}
use Rattle.live_service.specs.Asked.{crew_view}
use Rattle.live_service.specs.Boards.{BoardCallerView}
use Rattle.live_service.proofs.Sharing.{board_by_caller, shared_by_caller}
use Rattle.live_service.proofs.live.share.Goals as goal

pub returns-in-Ok-new-clause-shared : goal.returns-in-Ok-new-clause-shared
returns-in-Ok-new-clause-shared g c =
    let crew = crew_view c.args.crew in
    let over = c.with_workers-callers.result in
    let parts = c.into_parts-caller.ensures in
    let book = c.new-in-Ok-new in
    let board = c.new-in-Ok-new-2 in
    record {
      board_given = board.result;
      board_back = over.0.board;
      board_is = board_by_caller c.in-Ok.board_turn board.result over.0.board c.into_pass-board_pass.result c.close-in-Ok-new.result crew.reviews
          (c.in-Ok.ensures.first.start ∙ c.new.ensures) (ap (λ (d : BoardCallerView). d.reviews) board.ensures) (ap (λ (d : BoardCallerView). d.pass.mine) board.ensures ∙ c.in-Ok.ensures.first.mine)
          (c.into_pass-board_pass.ensures.pass ∙ ap (λ (d : BoardCallerView). d.pass) parts.board) c.close-in-Ok-new.ensures;
      shared = shared_by_caller g.P.Gate.Admin.faults c.in-Ok-new.turn c.in-Ok-new.pass c.into_pass-pass.result book.result over.0.book c.args.book c.close.result board.result over.0.board c.args.team over.1 crew.serving over.2 crew.movers crew.planners
          book.ensures.turn book.ensures.pass (c.into_pass-pass.ensures.pass ∙ ap (λ (v : CallerView g.row.P-Gate.Denot). v.pass) parts.book) c.in-Ok-new.ensures.first.start c.requires.opened c.in-Ok-new.ensures.first.mine c.with_workers-callers.ensures.run c.close.ensures;
    }
