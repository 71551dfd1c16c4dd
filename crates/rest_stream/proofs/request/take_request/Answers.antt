use Rattle.std.proofs.Common.{◌∙◌, ℕ, List, ap, sym, subst, Err}
use Rattle.std.specs.Prelude.{IfSome}
use Rattle.rest_stream.specs.Stream.{StopsBy, stream_of}
use Rattle.rest_stream.proofs.Exits.{passed_on}
use Rattle.rest_stream.specs.Stream.{IsRequest}
use Rattle.rest_stream.proofs.Held.{framed_held, request_held}
use Rattle.rest_stream.proofs.Framed.{body_stops, request_told}
use Rattle.rest_stream.proofs.request.take_request.Goals as goal

pub returns-clause-taken : goal.returns-clause-taken
returns-clause-taken g c =
    rw c.request_with.ensures
    (request_told c.args.is_last (stream_of c.args.inbox.now.held.items (g.S.Source.left c.args.source.now)) _ _ c.in_ok-body.body c.in_ok-head.field-0 c.in_ok-head.ensures.framed c.in_ok-head.ensures.stream c.in_ok-body.ensures.enough c.in_ok-body.ensures.body c.in_ok-body.ensures.stream)

pub returns-in_err-body-clause-why : goal.returns-in_err-body-clause-why
returns-in_err-body-clause-why g c =
    let r = c.from_residual-in_err-body in
    passed_on r.result c.in_err-body.field-0.0 (λ e. IfSome (stream_of c.args.inbox.now.held.items (g.S.Source.left c.args.source.now)) (λ stream. StopsBy stream e)) r.ensures.1 (λ e q. q)
    (body_stops (stream_of c.args.inbox.now.held.items (g.S.Source.left c.args.source.now)) _ c.in_ok-head.field-0 _ c.in_ok-head.ensures.framed c.in_ok-head.ensures.stream (λ e. c.take_body.ensures.cut (c.in_err-body.was ∙ ap Err e)) c.in_err-body.ensures.why)

pub returns-in_err-body-clause-unread : goal.returns-in_err-body-clause-unread
returns-in_err-body-clause-unread g c = λ raw rest is.
    let unread = c.in_ok-head.ensures.unread (request_held c.args.is_last _ rest raw is) in
    let there = subst (λ (bytes : List ℕ). IsRequest c.args.is_last bytes raw rest) (sym unread.0) is in
    c.take_body.ensures.unread (framed_held c.args.is_last _ rest raw c.in_ok-head.field-0 there c.in_ok-head.ensures.held) ∙ unread.1

pub returns-clause-unread : goal.returns-clause-unread
returns-clause-unread g c = λ raw rest is.
    let unread = c.in_ok-head.ensures.unread (request_held c.args.is_last _ rest raw is) in
    let there = subst (λ (bytes : List ℕ). IsRequest c.args.is_last bytes raw rest) (sym unread.0) is in
    c.take_body.ensures.unread (framed_held c.args.is_last _ rest raw c.in_ok-head.field-0 there c.in_ok-head.ensures.held) ∙ unread.1
