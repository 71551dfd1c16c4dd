use Rattle.std.proofs.Common.{rules, ◌≡◌, List, [], Ok, Err, Some, None, string_bytes, refl, sym, subst}
use Rattle.cc_base.specs.Outside.{with_name}
use Rattle.mover_rounds.specs.Made.{copier_of}
use Rattle.mover_workers.specs.Callers.{CallerView}
use Rattle.rest_session.specs.Heard.{paged}
use Rattle.live_service.specs.Asked.{ServingAsked, asked_of}
use Rattle.live_service.specs.Boards.{BoardCallerView}
use Rattle.live_service.specs.Fronts.{HasAccepted, IsUnheard}
use Rattle.live_service.specs.Links.{HasLinkCause}
use Rattle.live_service.specs.Runs.{HasServed}
use Rattle.live_service.specs.Views.{FrontView, ServedView, link_of}
use Rattle.live_service.specs.declared.front.FrontEnd.TheVariants as front
use Rattle.live_service.proofs.Fronting.{console_served, links_failed, links_served}
use Rattle.live_service.proofs.front.serve_front.Goals as goal

pub returns-in_default : goal.returns-in_default
returns-in_default g c =
    let view = copier_of g.P.Worker.Copier.copies g.P.Worker.Copier.faults in
    let link = link_of g.P.Console.Source.left g.P.Console.Sink.written g.P.Console.Source.faults g.P.Console.Sink.faults in
    let old : FrontView = record { copier = view c.front.inside.copier; console = link c.front.inside.console; service = c.front.inside.service } in
    let new : FrontView = record { copier = view c.serve-end.new.copier; console = link c.serve-end.new.link; service = c.front.inside.service } in
    let none : old.service.served ≡ [] = subst (λ (f : FrontView). f.service.served ≡ []) (sym c.front.view_is) c.requires.space.none in
    let cause : HasLinkCause old.console new.console c.serve-end.result = search rules in
    let parts = c.into_parts-book in
    let by_parts : HasServed None parts.result.0 c.close.new.self parts.result.1 c.serve-end.new.reviewer old new (front.Console c.serve-end.result) =
    console_served parts.result.0 c.serve-end.new.asker c.close.new.self parts.result.1 c.serve-end.new.reviewer old new c.close.ensures.since c.close.ensures.closed c.close.ensures.own.placed c.serve-end.result c.serve-end.ensures.since c.serve-end.ensures.since_board c.serve-end.ensures.served cause refl none in
    let by_book = subst (λ (v : CallerView g.row.P-Gate.Denot). HasServed None v c.close.new.self parts.result.1 c.serve-end.new.reviewer old new (front.Console c.serve-end.result)) parts.ensures.book by_parts in
    let served = subst (λ (d : BoardCallerView). HasServed None c.args.callers.book c.close.new.self d c.serve-end.new.reviewer old new (front.Console c.serve-end.result)) parts.ensures.board by_book in
    rw c.in_default.is (record { served = subst (λ (f : FrontView). HasServed None c.args.callers.book c.close.new.self c.args.callers.board c.serve-end.new.reviewer f new (front.Console c.serve-end.result)) c.front.view_is served })

pub returns-in-Ok : goal.returns-in-Ok
returns-in-Ok g c =
    let view = copier_of g.P.Worker.Copier.copies g.P.Worker.Copier.faults in
    let link = link_of g.P.Console.Source.left g.P.Console.Sink.written g.P.Console.Source.faults g.P.Console.Sink.faults in
    let serving = c.in-Some.serving in
    let asked : ServingAsked = asked_of serving in
    let back = c.serve_links-callers.result in
    let old : FrontView = record { copier = view c.front-2.inside.copier; console = link c.front-2.inside.console; service = c.front-2.inside.service } in
    let new : FrontView = record { copier = old.copier; console = old.console; service = back.1 } in
    let accepted : HasAccepted (paged serving.page) c.args.callers.book back.0.book c.args.callers.board back.0.board old.service new.service serving.links (Ok tt) = rw c.in-Ok.is at c.serve_links-callers.ensures.accepted in
    let heard : new.service.net.heard ≡ with_name old.service.net.heard asked.address = rw c.in-Ok.is at c.serve_links-callers.ensures.heard in
    let served : HasServed (Some asked) c.args.callers.book c.close-2.new.self c.args.callers.board back.0.board old new front.Accepted =
    links_served c.args.callers.book back.0.book c.close-2.new.self c.args.callers.board back.0.board old new c.close-2.ensures.since c.close-2.ensures.closed c.close-2.ensures.own.placed asked c.if-serving.false accepted heard refl refl in
    rw c.in-Some.is (record { served = subst (λ (f : FrontView). HasServed (Some asked) c.args.callers.book c.close-2.new.self c.args.callers.board back.0.board f new front.Accepted) c.front-2.view_is served })

pub returns : goal.returns
returns g c =
    let view = copier_of g.P.Worker.Copier.copies g.P.Worker.Copier.faults in
    let link = link_of g.P.Console.Source.left g.P.Console.Sink.written g.P.Console.Source.faults g.P.Console.Sink.faults in
    let serving = c.in-Some.serving in
    let asked : ServingAsked = asked_of serving in
    let back = c.serve_links-callers.result in
    let failed = c.in-Err.field-0 in
    let old : FrontView = record { copier = view c.front-2.inside.copier; console = link c.front-2.inside.console; service = c.front-2.inside.service } in
    let new : FrontView = record { copier = old.copier; console = old.console; service = back.1 } in
    let accepted : HasAccepted (paged serving.page) c.args.callers.book back.0.book c.args.callers.board back.0.board old.service new.service serving.links (Err failed) = rw c.in-Err.is at c.serve_links-callers.ensures.accepted in
    let why : IsUnheard asked.address old.service.net new.service.net new.service.served = rw c.in-Err.is at c.serve_links-callers.ensures.unheard in
    let served : HasServed (Some asked) c.args.callers.book c.close-2.new.self c.args.callers.board back.0.board old new front.ListenerFault =
    links_failed c.args.callers.book back.0.book c.close-2.new.self c.args.callers.board back.0.board old new c.close-2.ensures.since c.close-2.ensures.closed c.close-2.ensures.own.placed asked failed c.if-serving.false accepted why refl refl in
    rw c.in-Some.is (record { served = subst (λ (f : FrontView). HasServed (Some asked) c.args.callers.book c.close-2.new.self c.args.callers.board back.0.board f new front.ListenerFault) c.front-2.view_is served })
