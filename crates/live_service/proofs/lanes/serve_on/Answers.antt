use Rattle.std.proofs.Common.{◌∙◌, Err, ap, arith}
use Rattle.live_service.specs.Asked.{asked_of, offering}
use Rattle.live_service.specs.Lanes.{HasRunLanes}
use Rattle.live_service.specs.Views.{ServiceView}
use Rattle.live_service.proofs.Laning.{given_up_at, not_opened}
use Rattle.live_service.proofs.lanes.serve_on.Goals as goal

pub returns-in_default : goal.returns-in_default
returns-in_default g c =
    let rest = c.listen.ensures.rest in
    record {
      served = not_opened c.args.callers.book c.args.callers.board c.args.service c.listen.new.self (asked_of c.args.serving.now) c.listen.ensures.accepted c.in_default.ensures.unheard c.in_default.ensures.cause.failed c.listen.ensures.cause.later
          (ap (λ (x : ServiceView). x.copiers) rest) (ap (λ (x : ServiceView). x.served) rest) (ap (λ (x : ServiceView). x.lanes) rest ∙ c.requires.space.no_lane)
          (omega (arith, ap (λ (x : ServiceView). x.room) rest)) (omega (arith, ap (λ (x : ServiceView). x.places) rest)) (omega (arith, ap (λ (x : ServiceView). x.lane_room) rest));
    }

pub returns-in-Err : goal.returns-in-Err
returns-in-Err g c =
    let rest = c.listen.ensures.rest in
    let back = c.serve_lanes-callers.result in
    let failed = c.in-Err.field-0 in
    let ran : HasRunLanes (offering c.args.serving.now.page) c.args.callers.book back.0.book c.args.callers.board back.0.board c.listen.new.self back.1 c.args.serving.now.links (Err failed) = rw c.in-Err.is at c.serve_lanes-callers.ensures.ran in
    record {
      served = given_up_at c.args.callers.book back.0.book c.args.callers.board back.0.board c.args.service c.listen.new.self back.1 (asked_of c.args.serving.now) c.listen.ensures.accepted (rw c.deref.ensures at c.in-Ok.ensures.heard) c.in-Ok.ensures.cause.kept
          (ap (λ (x : ServiceView). x.copiers) rest) (ap (λ (x : ServiceView). x.served) rest) (ap (λ (x : ServiceView). x.room) rest) (ap (λ (x : ServiceView). x.places) rest) (ap (λ (x : ServiceView). x.lane_room) rest)
          failed ran;
    }
