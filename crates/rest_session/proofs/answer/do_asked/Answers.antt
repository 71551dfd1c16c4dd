use Rattle.mover_rounds.specs.Made.{copier_of}
use Rattle.rest_session.specs.Calls.{IsInward}
use Rattle.rest_session.specs.declared.calls.Asked.TheVariants as asked
use Rattle.rest_session.proofs.Calling.{once_done}
use Rattle.rest_session.proofs.answer.do_asked.Goals as goal

pub returns-in-Once-clause-done : goal.returns-in-Once-clause-done
returns-in-Once-clause-done g c =
    let k = copier_of g.K.Copier.copies g.K.Copier.faults c.args.copier.now in
    let quiet : IsInward (asked.Once c.in-Once.event) = rw c.in-Once.is at c.requires in
    rw c.in-Once.is (once_done (g.X.Asker.known c.args.asker.now) (g.X.Asker.known c.ask_once.new.asker) k c.in-Once.event c.ask_once.result quiet.1 c.ask_once.ensures.asked)

pub returns-in-Looks-clause-done : goal.returns-in-Looks-clause-done
returns-in-Looks-clause-done g c = rw c.in-Looks.is (c.look.ensures.done (copier_of g.K.Copier.copies g.K.Copier.faults c.args.copier.now))

pub returns-in-Detects-clause-done : goal.returns-in-Detects-clause-done
returns-in-Detects-clause-done g c = rw c.in-Detects.is (c.detect.ensures.done (copier_of g.K.Copier.copies g.K.Copier.faults c.args.copier.now))
