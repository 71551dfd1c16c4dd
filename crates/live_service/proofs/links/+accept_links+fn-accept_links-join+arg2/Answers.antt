use Rattle.std.proofs.Common.{rules, ◌≡◌, ◌≤◌, ◌∷◌, ◌∙◌, Ok, Err, List, ap, refl, sym, arith}
use Rattle.mover_rounds.specs.Made.{copier_of}
use Rattle.mover_workers.specs.Callers.{IsSince, known_by_caller}
use Rattle.rest_session.specs.Heard.{paged}
use Rattle.live_service.specs.Boards.{IsBoardCallerSince, board_seen}
use Rattle.live_service.specs.Links.{HasServedLink}
use Rattle.live_service.specs.Views.{ServedView, ServiceView, link_of}
use Rattle.live_service.proofs.Accepting.{accepted_more, kept_least, least_by, moved_least, none_accepted, one_less, same_least, tried_on}
use Rattle.live_service.proofs.links.+accept_links+fn-accept_links-join+arg2.Goals as goal

pub returns-then-links-eq0 : goal.returns-then-links-eq0
returns-then-links-eq0 g t c = record {
  accepted = none_accepted (paged c.args.page) c.args.callers.book c.args.callers.board c.args.service c.args.service c.args.links (Ok tt) refl refl c.requires.space.none (omega arith) (omega arith) (omega arith) refl (omega arith) (search rules);
  tried = record { heard = refl; given_up = tt };
}

pub returns-in_default : goal.returns-in_default
returns-in_default g t c =
    let s = c.args.service in
    let u = c.accept.new.self in
    let rest = c.accept.ensures.rest in
    record {
      accepted = none_accepted (paged c.args.page) c.args.callers.book c.args.callers.board s u c.args.links (Err _) c.in_default.ensures.failed (ap (λ (x : ServiceView). x.copiers) rest) (ap (λ (x : ServiceView). x.served) rest ∙ c.requires.space.none)
          (omega (arith, ap (λ (x : ServiceView). x.room) rest)) (omega (arith, ap (λ (x : ServiceView). x.places) rest)) (omega (arith, ap (λ (x : ServiceView). x.lane_room) rest)) (ap (λ (x : ServiceView). x.lanes) rest) c.accept.ensures.later tt;
      tried = record { heard = c.accept.ensures.heard; given_up = c.in_default.ensures.given_up };
    }

pub returns : goal.returns
returns g t c =
    let view = copier_of g.K.Copier.copies g.K.Copier.faults in
    let link = link_of g.N.Conn.Source.left g.N.Conn.Sink.written g.N.Conn.Source.faults g.N.Conn.Sink.faults in
    let kept = c.split-caller.new.self in
    let own = c.split-caller.result in
    let board_kept = c.split-board.new.self in
    let board_own = c.split-board.result in
    let u = c.join-callers.result.0.0 in
    let one = c.join-callers.result.1 in
    let back = one.0 in
    let board_back = one.1 in
    let s = c.args.service in
    let s1 : ServiceView = c.take_copier-copier.new.self in
    let t1 : ServiceView = c.join-callers.result.0.1 in
    let given : ServiceView = c.give_copier.new.self in
    let whole : ServiceView = c.note.new.self in
    let before = link c.in-Ok.link in
    let after = link one.3.link in
    let k = view c.take_copier-copier.result in
    let l = view one.2 in
    let noted : ServedView = record { link = after; end = one.3.end } in
    let accepted = c.accept.ensures.rest in
    let tried = c.join-callers.ensures.first.1 in
    let took = c.take_copier-copier.ensures.rest in
    let gave = c.give_copier.ensures.given in
    let put = c.note.ensures.noted in
    let since : IsSince own back = search rules in
    let board_since : IsBoardCallerSince board_own board_back = search rules in
    let run : HasServedLink (paged c.args.page) (known_by_caller own) (known_by_caller back) (board_seen board_own.reviews board_own.pass) (board_seen board_back.reviews board_back.pass) k l before after one.3.end = search rules in
    record {
      accepted = accepted_more (paged c.args.page) c.args.callers.book kept own u.book back c.join.new.self c.split-caller.ensures.turn.0 c.split-caller.ensures.turn.1 c.split-caller.ensures.cut since c.join.ensures.turn c.join.ensures.joined c.join.ensures.own.placed
          c.args.callers.board board_kept board_own u.board board_back c.join-2.new.self c.split-board.ensures.turn.0 c.split-board.ensures.reviews.0 c.split-board.ensures.reviews.1 c.split-board.ensures.cut board_since c.join-2.ensures.turn c.join-2.ensures.reviews c.join-2.ensures.joined c.join-2.ensures.own.placed
          s s1 t1 whole before after one.3.end k l c.args.links _ _ (one_less _ c.args.links refl c.if-links-eq0.false)
          c.in-Ok.ensures.fresh
          (ap (λ (x : ServiceView). x.net.accepted) took ∙ c.in-Ok.ensures.accepted)
          (kept_least (ap (λ (x : ServiceView). x.net.faults) took) c.accept.ensures.later)
          (sym (ap (λ (x : ServiceView). x.copiers) accepted) ∙ c.take_copier-copier.ensures.taken)
          (same_least (ap (λ (x : ServiceView). x.room) took) (ap (λ (x : ServiceView). x.room) accepted))
          (same_least (ap (λ (x : ServiceView). x.places) took) (ap (λ (x : ServiceView). x.places) accepted))
          (same_least (ap (λ (x : ServiceView). x.lane_room) took) (ap (λ (x : ServiceView). x.lane_room) accepted))
          (ap (λ (x : ServiceView). x.lanes) took ∙ ap (λ (x : ServiceView). x.lanes) accepted)
          run.answered run.cause c.join-callers.ensures.first.0
          (ap (λ (x : ServiceView). x.net) put ∙ ap (λ (x : ServiceView). x.net) gave)
          (ap (λ (x : ServiceView). x.copiers) put ∙ ap (λ (x : ServiceView). x.copiers) gave)
          (ap (λ (x : ServiceView). x.served) put ∙ ap (λ (xs : List ServedView). noted ∷ xs) (ap (λ (x : ServiceView). x.served) gave))
          (kept_least (ap (λ (x : ServiceView). x.room) put) c.give_copier.ensures.room)
          (moved_least (ap (λ (x : ServiceView). x.places) gave) c.note.ensures.places)
          (least_by (ap (λ (x : ServiceView). x.lane_room) put ∙ ap (λ (x : ServiceView). x.lane_room) gave))
          (ap (λ (x : ServiceView). x.lanes) put ∙ ap (λ (x : ServiceView). x.lanes) gave);
      tried = record {
        heard = (ap (λ (x : ServiceView). x.net.heard) put ∙ ap (λ (x : ServiceView). x.net.heard) gave) ∙ (tried.heard ∙ (ap (λ (x : ServiceView). x.net.heard) took ∙ c.accept.ensures.heard));
        given_up = rw (ap (λ (x : ServiceView). x.net.faults) put ∙ ap (λ (x : ServiceView). x.net.faults) gave) (tried_on c.join-callers.result.0.2 s.net.faults s1.net.faults t1.net.faults (kept_least (ap (λ (x : ServiceView). x.net.faults) took) c.accept.ensures.later) tried.given_up);
      };
    }
