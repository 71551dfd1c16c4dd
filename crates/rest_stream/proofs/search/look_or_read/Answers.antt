use Rattle.std.proofs.Common.{◌∙◌, ap, Ok}
use Rattle.std.specs.Prelude.{IfSome}
use Rattle.rest_stream.specs.Stream.{StopsBy, stream_of}
use Rattle.rest_stream.proofs.Exits.{passed_on}
use Rattle.rest_stream.proofs.Windows.{always_stops, last_stops}
use Rattle.rest_stream.proofs.search.look_or_read.Goals as goal

pub returns-in_err-found-clause-why : goal.returns-in_err-found-clause-why
returns-in_err-found-clause-why g c =
    passed_on c.from_residual.result c.in_err-found.field-0.0 (λ e. IfSome (stream_of c.args.inbox.now.held.items (g.S.Source.left c.args.source.now)) (λ stream. StopsBy stream e)) c.from_residual.ensures.1 (λ e q. q)
    (always_stops c.args.inbox.now.held.items _ (g.S.Source.left c.args.source.now) _ c.deref.ensures.value c.in_err-found.ensures.why)

pub returns-in_err-last_head-in-0-clause-why : goal.returns-in_err-last_head-in-0-clause-why
returns-in_err-last_head-in-0-clause-why g c =
    let none = c.in_ok-fill.was ∙ ap Ok c.in-0.is in
    let r = c.from_residual-in_err-last_head-in-0 in
    passed_on r.result c.in_err-last_head-in-0.field-0.0 (λ e. IfSome (stream_of c.args.inbox.now.held.items (g.S.Source.left c.args.source.now)) (λ stream. StopsBy stream e)) r.ensures.1 (λ e q. q)
    (last_stops c.args.inbox.now.held.items _ (g.S.Source.left c.args.source.now) _ (c.fill.ensures.end none) (c.deref-in-0.ensures.value ∙ c.fill.ensures.same none) c.in_err-last_head-in-0.ensures.why)
