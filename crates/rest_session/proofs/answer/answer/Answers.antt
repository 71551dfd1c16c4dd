use Rattle.std.proofs.Common.{Bool, subst}
use Rattle.mover_rounds.specs.Made.{copier_of}
use Rattle.rest_session.specs.Answered.{IsReplied}
use Rattle.rest_session.proofs.Making.{answered_by}
use Rattle.rest_session.proofs.answer.answer.Goals as goal

pub returns-clause-answered : goal.returns-clause-answered
returns-clause-answered g c =
    let told = c.told_to-told in
    let view = copier_of g.K.Copier.copies g.K.Copier.faults in
    let old = g.L.Sink.written c.args.link.now in
    let new = g.L.Sink.written c.write_reply.new.link in
    let replied = subst (λ (alone : Bool). IsReplied alone told.result old new c.write_reply.result) c.asks_head.ensures c.write_reply.ensures.replied in
    answered_by (g.D.Site.offers c.args.site.now) (g.X.Asker.known c.args.asker.now) (g.X.Asker.known told.new.asker) (g.V.Reviewer.board c.args.reviewer.now) (g.V.Reviewer.board told.new.reviewer) (view c.args.copier.now) (view told.new.copier) c.args.raw.now told.result old new c.write_reply.result
    told.ensures.heard told.ensures.blamed replied
