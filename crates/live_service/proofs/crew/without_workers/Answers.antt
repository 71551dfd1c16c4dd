use Rattle.std.proofs.Common.{◌≡◌, [], vec_capacity, refl, sym, subst, arith}
use Rattle.live_service.specs.Asked.{serving_view}
use Rattle.live_service.specs.Runs.{HasRunMovers}
use Rattle.live_service.specs.Views.{TeamView}
use Rattle.live_service.proofs.Teams.{no_mover}
use Rattle.live_service.proofs.crew.without_workers.Goals as goal

pub returns : goal.returns
returns g c =
    let asked = serving_view c.args.serving in
    let back = c.serve_front-callers.result in
    let inside = c.team.inside in
    let old : TeamView = record { front = inside.front; movers = inside.movers.items; mover_room = vec_capacity inside.movers; planners = inside.planners.items; planner_room = vec_capacity inside.planners } in
    let new : TeamView = record { front = back.1; movers = inside.movers.items; mover_room = vec_capacity inside.movers; planners = inside.planners.items; planner_room = vec_capacity inside.planners } in
    let none : old.movers ≡ [] = subst (λ (t : TeamView). t.movers ≡ []) (sym c.team.view_is) c.requires.ready.no_mover in
    let run : HasRunMovers asked c.args.callers.book back.0.book c.args.callers.board back.0.board old new back.2 0 = no_mover asked c.args.callers.book back.0.book c.args.callers.board back.0.board old new back.2 c.serve_front-callers.ensures.served none (omega arith) refl (omega arith) in
    record { run = subst (λ (t : TeamView). HasRunMovers asked c.args.callers.book back.0.book c.args.callers.board back.0.board t new back.2 0) c.team.view_is run }
