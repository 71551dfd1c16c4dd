use Rattle.mover_rounds.specs.Made.{copier_of}
use Rattle.control_core.specs.Since.{since_itself}
use Rattle.rest_session.proofs.Sessions.{drained_none}
use Rattle.rest_session.proofs.whole.finish.Goals as goal

pub returns-else-is_quiet-clause-since : goal.returns-else-is_quiet-clause-since
returns-else-is_quiet-clause-since g c = since_itself g.A.Admin.faults c.args.book.now

pub returns-else-is_quiet-clause-rounds : goal.returns-else-is_quiet-clause-rounds
returns-else-is_quiet-clause-rounds g c = drained_none c.args.book.now (copier_of g.K.Copier.copies g.K.Copier.faults c.args.copier.now)
