use Rattle.mover_rounds.specs.Made.{copier_of}
use Rattle.rest_session.proofs.Serving.{unserved}
use Rattle.rest_session.proofs.session.serve.Goals as goal

pub returns-in_default-clause-served : goal.returns-in_default-clause-served
returns-in_default-clause-served g c = unserved (g.D.Site.offers c.args.site.now) (g.X.Asker.known c.args.asker.now) (g.V.Reviewer.board c.args.reviewer.now) (copier_of g.K.Copier.copies g.K.Copier.faults c.args.copier.now) (g.L.Source.left c.args.link.now) (g.L.Sink.written c.args.link.now)

pub returns-in_default-new-clause-served : goal.returns-in_default-new-clause-served
returns-in_default-new-clause-served g c = unserved (g.D.Site.offers c.args.site.now) (g.X.Asker.known c.args.asker.now) (g.V.Reviewer.board c.args.reviewer.now) (copier_of g.K.Copier.copies g.K.Copier.faults c.args.copier.now) (g.L.Source.left c.args.link.now) (g.L.Sink.written c.args.link.now)
