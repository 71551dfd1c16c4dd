use Rattle.std.proofs.Common.{rules, ◌≡◌, ◌∙◌, refl, ap, arith}
use Rattle.mover_workers.specs.Callers.{IsSince, known_by_caller}
use Rattle.mover_workers.specs.Loops.{CallsNoAdmin, HasPlanned}
use Rattle.live_service.specs.Asked.{serving_view}
use Rattle.live_service.specs.Views.{TeamView, told_of}
use Rattle.live_service.proofs.Teams.{no_planner, planner_more}
use Rattle.live_service.proofs.crew.+fn-with_workers-join+arg3+with_workers.Goals as goal

pub returns-then-planners-eq0 : goal.returns-then-planners-eq0
returns-then-planners-eq0 g t c =
    let zero : c.args.planners ≡ 0 = search rules in
    record { run = rw zero (no_planner (serving_view c.args.serving) c.args.callers.book c.with_movers.result.0.book c.args.callers.board c.with_movers.result.0.board c.args.team c.with_movers.result.1 c.with_movers.result.2 c.args.movers c.requires.ready.no_planner c.with_movers.ensures.run) }

pub returns : goal.returns
returns g t c =
    let kept = c.split-own.new.self in
    let own = c.split-own.result in
    let one = c.join-back.result.0 in
    let back = one.0 in
    let u = c.join-back.result.1.0.book in
    let board = c.join-back.result.1.0.board in
    let s : TeamView = c.args.team in
    let t1 : TeamView = c.join-back.result.1.1 in
    let whole : TeamView = c.note_planner.new.self in
    let end = c.join-back.result.1.2 in
    let put = c.note_planner.ensures.noted in
    let since : IsSince own back = search rules in
    let planned : HasPlanned (known_by_caller own) (known_by_caller back) one.1 = search rules in
    let no_admin : CallsNoAdmin one.1 = search rules in
    record {
      run = planner_more c.args.callers.book kept own u back c.join.new.self c.split-own.ensures.turn.0 c.split-own.ensures.turn.1 c.split-own.ensures.cut since c.join.ensures.turn c.join.ensures.joined c.join.ensures.own.placed
          (serving_view c.args.serving) c.args.callers.board board s s t1 whole end refl (ap (λ (x : TeamView). told_of x.front) put) one.1 c.args.movers c.args.planners _ (search rules)
          refl (omega arith) planned no_admin c.join-back.ensures.second
          (ap (λ (x : TeamView). x.front) put) (ap (λ (x : TeamView). x.movers) put) (ap (λ (x : TeamView). x.planners) put) c.note_planner.ensures.ends;
    }
