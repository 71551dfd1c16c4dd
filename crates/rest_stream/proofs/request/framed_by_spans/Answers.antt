use Rattle.std.proofs.Common.{◌∙◌, sym}
use Rattle.rest_stream.specs.Stream.{AlwaysStopsBy}
use Rattle.rest_stream.proofs.Exits.{passed_on}
use Rattle.rest_stream.proofs.Framed.{framed_is, refused_is}
use Rattle.rest_stream.proofs.request.framed_by_spans.Goals as goal

pub returns-clause-framed : goal.returns-clause-framed
returns-clause-framed c more =
    framed_is c.args.held.now more c.window-front.result.now c.args.headers.now c.args.spans c.window-front.ensures.value c.window-front.ensures.short c.requires.found c.in_ok-size.size c.in_ok-head.head (sym c.in_ok-size.was ∙ c.framing.ensures.is) c.in_ok-head.ensures

pub returns-in_err-size-clause-why : goal.returns-in_err-size-clause-why
returns-in_err-size-clause-why c =
    passed_on c.from_residual.result c.in_err-size.field-0.0 (AlwaysStopsBy c.args.held.now) c.from_residual.ensures.1 (λ e q. q)
    (λ more. refused_is c.args.held.now more c.window-front.result.now c.args.headers.now c.args.spans c.window-front.ensures.value c.window-front.ensures.short c.requires.found _ (sym c.in_err-size.was ∙ c.framing.ensures.is) c.in_err-size.ensures.why)
