use Rattle.control_core.proofs.Lasting.{since_step}
use Rattle.mover_rounds.proofs.Owning.{asked_step, fits_step, stays_step, unasked_step}
use Rattle.mover_rounds.proofs.owner.BookAsker.ask.Goals as goal

pub returns-clause-since : goal.returns-clause-since
returns-clause-since g c =
    let e = c.step.ensures in
    since_step g.A.Admin.faults c.args.self.now c.step.new.self c.args.event c.step.result e.file e.settled e.later e.counted e.fault

pub returns-clause-asked : goal.returns-clause-asked
returns-clause-asked g c =
    let e = c.step.ensures in
    asked_step g.A.Admin.faults c.args.self.now c.step.new.self c.args.event c.step.result e.file e.entry e.reply e.counted

pub returns-clause-fits : goal.returns-clause-fits
returns-clause-fits g c = fits_step g.A.Admin.faults c.args.self.now c.step.new.self c.args.event c.step.result c.step.ensures.reply

pub returns-clause-unasked : goal.returns-clause-unasked
returns-clause-unasked g c =
    let e = c.step.ensures in
    unasked_step g.A.Admin.faults c.args.self.now c.step.new.self c.args.event c.step.result e.file e.unchanged e.fault

pub returns-clause-unfinished : goal.returns-clause-unfinished
returns-clause-unfinished g c =
    let e = c.step.ensures in
    stays_step g.A.Admin.faults c.args.self.now c.step.new.self c.args.event c.step.result e.file e.entry e.unchanged
