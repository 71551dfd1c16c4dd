use Rattle.control_core.proofs.Lasting.{since_step}
use Rattle.control_core.proofs.journaled.BookJournaled.step.Goals as goal

pub returns-clause-since : goal.returns-clause-since
returns-clause-since g c =
    let e = c.step.ensures in
    since_step g.A.Admin.faults c.args.self.now c.step.new.self c.args.event c.step.result e.file e.settled e.later e.counted e.fault
