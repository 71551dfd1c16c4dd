use Rattle.std.proofs.Common.{sym, ◌∙◌}
use Rattle.mover_rounds.specs.Made.{copier_of}
use Rattle.rest_session.proofs.Making.{heard_called, heard_site}
use Rattle.rest_session.proofs.answer.told_to.Goals as goal

pub returns-in-Some-clause-heard : goal.returns-in-Some-clause-heard
returns-in-Some-clause-heard g c =
    let k = copier_of g.K.Copier.copies g.K.Copier.faults c.args.copier.now in
    heard_site (g.D.Site.offers c.args.site.now) (g.X.Asker.known c.args.asker.now) (g.V.Reviewer.board c.args.reviewer.now) k c.args.raw.now c.told_of_site.result c.in-Some.call (sym c.site_asked.ensures ∙ c.in-Some.is) c.told_of_site.ensures.told

pub returns-in-None-clause-heard : goal.returns-in-None-clause-heard
returns-in-None-clause-heard g c =
    let s = c.told_by in
    let view = copier_of g.K.Copier.copies g.K.Copier.faults in
    heard_called (g.D.Site.offers c.args.site.now) (g.X.Asker.known c.args.asker.now) (g.X.Asker.known s.new.asker) (g.V.Reviewer.board c.args.reviewer.now) (g.V.Reviewer.board s.new.reviewer) (view c.args.copier.now) (view s.new.copier) c.args.raw.now s.result
    (sym c.site_asked.ensures ∙ c.in-None.is) s.ensures.called
