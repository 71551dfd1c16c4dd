use Rattle.std.proofs.Common.{refl}
use Rattle.mover_rounds.specs.Made.{copier_of}
use Rattle.mover_rounds.proofs.Working.{worked_still}
use Rattle.mover_rounds.proofs.work.do_work.Goals as goal

pub returns-in-Commit-clause-worked : goal.returns-in-Commit-clause-worked
returns-in-Commit-clause-worked g c = worked_still _ _ c.args.given (copier_of g.K.Copier.copies g.K.Copier.faults c.args.copier.now) _ c.end_with.result (c.in-Commit.is, refl) refl refl c.end_with.ensures.added c.end_with.ensures.failed

pub returns-in-Cancel-clause-worked : goal.returns-in-Cancel-clause-worked
returns-in-Cancel-clause-worked g c = worked_still _ _ c.args.given (copier_of g.K.Copier.copies g.K.Copier.faults c.args.copier.now) _ c.end_with-in-Cancel.result (c.in-Cancel.is, refl) refl refl c.end_with-in-Cancel.ensures.added c.end_with-in-Cancel.ensures.failed
