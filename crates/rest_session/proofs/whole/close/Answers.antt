use Rattle.core_terms.specs.declared.events.Event.TheVariants as event
use Rattle.control_core.proofs.Lasting.{since_step}
use Rattle.rest_session.proofs.whole.close.Goals as goal

pub returns-clause-since : goal.returns-clause-since
returns-clause-since g c =
    let e = c.step.ensures in
    since_step g.A.Admin.faults c.args.book.now c.step.new.self event.Close c.step.result e.file e.settled e.later e.counted e.fault
