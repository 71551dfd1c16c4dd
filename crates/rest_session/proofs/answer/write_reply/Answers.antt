use Rattle.std.proofs.Common.{List, ℕ, inl, inr, ap, ◌∙◌}
use Rattle.rest_session.specs.Pieces.{sent}
use Rattle.rest_session.proofs.Refusing.{replied_by}
use Rattle.rest_session.proofs.answer.write_reply.Goals as goal

pub returns-in-Ok-clause-replied : goal.returns-in-Ok-clause-replied
returns-in-Ok-clause-replied g c =
    let e = c.write_link.ensures in
    let is = c.deref.ensures.value ∙ c.in-Ok.ensures.bytes in
    replied_by c.args.alone c.args.told.now (g.L.Sink.written c.args.link.now) (g.L.Sink.written c.write_link.new.link) _ c.write_link.result (inl (c.sent.ensures ∙ ap (λ (y : List ℕ). sent c.args.alone y) is)) e.written e.prefix

pub returns-in-Err-clause-replied : goal.returns-in-Err-clause-replied
returns-in-Err-clause-replied g c =
    let e = c.write_link-in-Err.ensures in
    replied_by c.args.alone c.args.told.now (g.L.Sink.written c.args.link.now) (g.L.Sink.written c.write_link-in-Err.new.link) _ c.write_link-in-Err.result (inr (c.sent-in-Err.ensures ∙ ap (λ (y : List ℕ). sent c.args.alone y) c.memory_reply_is_a_reply.ensures.step)) e.written e.prefix
