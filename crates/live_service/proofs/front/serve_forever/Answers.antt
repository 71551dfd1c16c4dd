use Rattle.std.proofs.Common.{Some, refl, subst}
use Rattle.mover_rounds.specs.Made.{copier_of}
use Rattle.live_service.specs.Asked.{ServingAsked, asked_of}
use Rattle.live_service.specs.Runs.{HasServed}
use Rattle.live_service.specs.Views.{FrontView, link_of}
use Rattle.live_service.proofs.Fronting.{all_served}
use Rattle.live_service.proofs.front.serve_forever.Goals as goal

pub returns : goal.returns
returns g c =
    let view = copier_of g.P.Worker.Copier.copies g.P.Worker.Copier.faults in
    let link = link_of g.P.Console.Source.left g.P.Console.Sink.written g.P.Console.Source.faults g.P.Console.Sink.faults in
    let asked : ServingAsked = asked_of c.args.serving.now in
    let back = c.serve_on-callers.result in
    let old : FrontView = record { copier = view c.front.inside.copier; console = link c.front.inside.console; service = c.front.inside.service } in
    let new : FrontView = record { copier = old.copier; console = old.console; service = back.1 } in
    let served : HasServed (Some asked) c.args.callers.book c.close.new.self c.args.callers.board back.0.board old new back.2 =
    all_served c.args.callers.book back.0.book c.close.new.self c.args.callers.board back.0.board old new c.close.ensures.since c.close.ensures.closed c.close.ensures.own.placed asked back.2 c.requires.forever c.serve_on-callers.ensures.served refl refl in
    record { served = subst (λ (f : FrontView). HasServed (Some asked) c.args.callers.book c.close.new.self c.args.callers.board back.0.board f new back.2) c.front.view_is served }
