use denote.Param.{param}
use denote.Param.Send.{IsSend}
use Rattle.live_service.specs.Asked.{HasSpace, offering}
use Rattle.std.proofs.Common.{◌-◌, suc, rules, ◌≡◌, ◌≤◌, ◌∷◌, ◌∙◌, Ok, Err, List, ap, refl, sym, arith}
use Rattle.mover_rounds.specs.Made.{copier_of}
use Rattle.mover_workers.specs.Callers.{IsSince}
use Rattle.live_service.specs.Boards.{IsBoardCallerSince}
use Rattle.live_service.specs.Lanes.{HasServedLane, lane_state}
use Rattle.live_service.specs.Views.{LaneView, NetView, ServiceView, lane_of, net_of}
use Rattle.live_service.proofs.Accepting.{kept_least, least_by, moved_least, one_less, same_least}
use Rattle.live_service.proofs.Laning.{fewer_space, lanes_more, none_ran}
use Rattle.live_service.proofs.lanes.+fn-serve_lanes-join+arg2+serve_lanes.Goals as goal

pub returns-then-lanes-eq0 : goal.returns-then-lanes-eq0
returns-then-lanes-eq0 g t c = record {
  ran = none_ran (offering c.args.page) c.args.callers.book c.args.callers.board c.args.service c.args.service c.args.lanes (Ok tt) refl refl (omega arith) refl refl c.requires.space.no_lane (omega arith) (omega arith) (omega arith) (search rules) tt;
}

pub returns-in_default : goal.returns-in_default
returns-in_default g t c =
    let s = c.args.service in
    let u = c.split.new.self in
    let rest = c.split.ensures.rest in
    record {
      ran = none_ran (offering c.args.page) c.args.callers.book c.args.callers.board s u c.args.lanes (Err _) c.split.ensures.accepted c.split.ensures.heard c.split.ensures.cause.later (ap (λ (x : ServiceView). x.copiers) rest) (ap (λ (x : ServiceView). x.served) rest) (ap (λ (x : ServiceView). x.lanes) rest ∙ c.requires.space.no_lane)
          (omega (arith, ap (λ (x : ServiceView). x.room) rest)) (omega (arith, ap (λ (x : ServiceView). x.places) rest)) (omega (arith, ap (λ (x : ServiceView). x.lane_room) rest)) tt c.in_default.ensures.cause.failed;
    }

pub returns : goal.returns
returns g t c =
    let view = copier_of g.K.Copier.copies g.K.Copier.faults in
    let net = net_of g.N.Listener.faults g.N.Listener.accepted g.N.Listener.heard in
    let kept = c.split-caller.new.self in
    let own = c.split-caller.result in
    let board_kept = c.split-board.new.self in
    let board_own = c.split-board.result in
    let u = c.join-callers.result.0.0 in
    let one = c.join-callers.result.1 in
    let back = one.0 in
    let board_back = one.1 in
    let s = c.args.service in
    let s1 : ServiceView = c.take_copier-copier.new.self in
    let t1 : ServiceView = c.join-callers.result.0.1 in
    let given : ServiceView = c.give_copier.new.self in
    let whole : ServiceView = c.note_lane.new.self in
    let k = view c.take_copier-copier.result in
    let l = view one.2 in
    let before : NetView = net c.in-Ok.listener in
    let lane : LaneView = lane_of net one.3.listener one.3.failed one.3.wants in
    let took = c.take_copier-copier.ensures.rest in
    let parted = c.split.ensures.rest in
    let gave = c.give_copier.ensures.given in
    let put = c.note_lane.ensures.noted in
    let since : IsSince own back = search rules in
    let board_since : IsBoardCallerSince board_own board_back = search rules in
    let ran : HasServedLane own.turn.start.file (offering c.args.page) board_own.reviews (lane_state own.pass board_own.pass k) (lane_state back.pass board_back.pass l) before lane = search rules in
    record {
      ran = lanes_more (offering c.args.page) c.args.callers.book kept own u.book back c.join.new.self c.split-caller.ensures.turn.0 c.split-caller.ensures.turn.1 c.split-caller.ensures.cut since c.join.ensures.turn c.join.ensures.joined c.join.ensures.own.placed
          c.args.callers.board board_kept board_own u.board board_back c.join-2.new.self c.split-board.ensures.turn.0 c.split-board.ensures.reviews.0 c.split-board.ensures.reviews.1 c.split-board.ensures.cut board_since c.join-2.ensures.turn c.join-2.ensures.reviews c.join-2.ensures.joined c.join-2.ensures.own.placed
          s s1 t1 whole before lane k l c.args.lanes _ _ c.fails_too-end.result c.fails_too-end.ensures (one_less _ c.args.lanes refl c.if-lanes-eq0.false)
          c.in-Ok.ensures.unused
          (ap (λ (x : ServiceView). x.net.accepted) took ∙ c.split.ensures.accepted)
          (ap (λ (x : ServiceView). x.net.heard) took ∙ c.split.ensures.heard)
          (kept_least (ap (λ (x : ServiceView). x.net.faults) took) c.split.ensures.cause.later)
          (ap (λ (x : ServiceView). x.served) took ∙ ap (λ (x : ServiceView). x.served) parted)
          (sym (ap (λ (x : ServiceView). x.copiers) parted) ∙ c.take_copier-copier.ensures.taken)
          (same_least (ap (λ (x : ServiceView). x.room) took) (ap (λ (x : ServiceView). x.room) parted))
          (same_least (ap (λ (x : ServiceView). x.places) took) (ap (λ (x : ServiceView). x.places) parted))
          (same_least (ap (λ (x : ServiceView). x.lane_room) took) (ap (λ (x : ServiceView). x.lane_room) parted))
          ran c.join-callers.ensures.first
          (ap (λ (x : ServiceView). x.net) put ∙ ap (λ (x : ServiceView). x.net) gave)
          (ap (λ (x : ServiceView). x.copiers) put ∙ ap (λ (x : ServiceView). x.copiers) gave)
          (ap (λ (x : ServiceView). x.served) put ∙ ap (λ (x : ServiceView). x.served) gave)
          (ap (λ (x : ServiceView). x.lanes) put ∙ ap (λ (xs : List LaneView). lane ∷ xs) (ap (λ (x : ServiceView). x.lanes) gave))
          (kept_least (ap (λ (x : ServiceView). x.room) put) c.give_copier.ensures.room)
          (least_by (ap (λ (x : ServiceView). x.places) put ∙ ap (λ (x : ServiceView). x.places) gave))
          (moved_least (ap (λ (x : ServiceView). x.lane_room) gave) c.note_lane.ensures.room);
    }

pub join-callers-requires-after_bounds : goal.join-callers-requires-after_bounds
join-callers-requires-after_bounds g t c κs within =
    let one : c.args.lanes ≡ suc (c.args.lanes - 1) = one_less _ c.args.lanes refl c.if-lanes-eq0.false in
    let space = fewer_space c.args.service c.split.new.self c.take_copier-copier.new.self _ c.args.callers.book.pass c.split-caller.new.self.pass c.split-caller.result.pass c.args.callers.board.pass c.split-board.new.self.pass c.split-board.result.pass c.args.lanes
    c.requires.space c.split.ensures.rest (c.take_copier-copier.ensures.taken) c.take_copier-copier.ensures.rest c.split-caller.ensures.cut c.split-board.ensures.cut c.if-lanes-eq0.false in
    let moves : IsSend (param 2 g.row.N) = search rules in
    ((omega (arith, one, c.decreases), (λ a m. m, (λ a m. m, (λ a m. m, (λ a m. m, (λ a m. m, (space, search rules))))))), (search rules, search rules, record { owned = moves.owned; leaving = λ k x w. tt }, search rules, search rules))
