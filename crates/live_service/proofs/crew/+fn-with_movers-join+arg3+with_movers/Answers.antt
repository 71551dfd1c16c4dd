use Rattle.std.proofs.Common.{rules, ◌≡◌, ◌∷◌, ◌∙◌, List, ap, sym, arith}
use Rattle.mover_rounds.specs.Made.{Copies, copier_of}
use Rattle.mover_workers.specs.Callers.{IsSince, known_by_caller}
use Rattle.mover_workers.specs.Loops.{HasMoved, IsLoopCause}
use Rattle.mover_workers.specs.declared.loops.LoopEnd.{LoopEnd}
use Rattle.live_service.specs.Asked.{serving_view}
use Rattle.live_service.specs.Views.{TeamView, told_of}
use Rattle.live_service.proofs.Teams.{mover_more}
use Rattle.live_service.proofs.crew.+fn-with_movers-join+arg3+with_movers.Goals as goal

pub returns : goal.returns
returns g t c =
    let view = copier_of g.P.Worker.Copier.copies g.P.Worker.Copier.faults in
    let kept = c.split-own.new.self in
    let own = c.split-own.result in
    let one = c.join-back.result.0 in
    let back = one.0 in
    let u = c.join-back.result.1.0.book in
    let board = c.join-back.result.1.0.board in
    let s : TeamView = c.args.team in
    let s1 : TeamView = c.take_copier-copier.new.self in
    let t1 : TeamView = c.join-back.result.1.1 in
    let whole : TeamView = c.note_mover.new.self in
    let end = c.join-back.result.1.2 in
    let k = view c.take_copier-copier.result in
    let l = view one.1 in
    let took = c.take_copier-copier.ensures.rest in
    let put = c.note_mover.ensures.noted in
    let since : IsSince own back = search rules in
    let moved : HasMoved (known_by_caller own) (known_by_caller back) k l one.2 = search rules in
    let cause : IsLoopCause (known_by_caller own) (known_by_caller back) one.2 = search rules in
    record {
      run = mover_more c.args.callers.book kept own u back c.join.new.self c.split-own.ensures.turn.0 c.split-own.ensures.turn.1 c.split-own.ensures.cut since c.join.ensures.turn c.join.ensures.joined c.join.ensures.own.placed
          (serving_view c.args.serving) c.args.callers.board board s s1 t1 whole end (ap (λ (x : TeamView). told_of x.front) took) (ap (λ (x : TeamView). told_of x.front) put)
          k l one.2 c.args.movers _ (search rules)
          c.take_copier-copier.ensures.taken
          (omega (arith, ap (λ (x : TeamView). x.front.service.room) took))
          (omega (arith, ap (λ (x : TeamView). x.front.service.places) took))
          (omega (arith, ap (λ (x : TeamView). x.front.service.lane_room) took))
          (omega (arith, ap (λ (x : TeamView). x.mover_room) took))
          (ap (λ (x : TeamView). x.planners) took)
          (omega (arith, ap (λ (x : TeamView). x.planner_room) took))
          moved cause c.join-back.ensures.second
          (ap (λ (x : TeamView). x.front.service.copiers) put)
          c.note_mover.ensures.room
          (omega (arith, ap (λ (x : TeamView). x.front.service.places) put))
          (omega (arith, ap (λ (x : TeamView). x.front.service.lane_room) put))
          (ap (λ (x : TeamView). x.movers) put)
          c.note_mover.ensures.ends
          (ap (λ (x : TeamView). x.planners) put)
          (omega (arith, ap (λ (x : TeamView). x.planner_room) put));
    }
