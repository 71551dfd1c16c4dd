use Rattle.std.proofs.Common.{◌≡◌, ◌∙◌, rules, sym}
use Rattle.std.specs.Prelude.{Some}
use Rattle.core_terms.specs.Plans.{holder_of}
use Rattle.control_core.proofs.Open.{holder_open}
use Rattle.control_core.proofs.machine.Machine.refused.Goals as goal

pub take_failure-requires-clause-is_open : goal.take_failure-requires-clause-is_open
take_failure-requires-clause-is_open c =
    let m = c.args.self.now in
    let found : c.holder_of.result ≡ holder_of c.args.ticket m.desk.jobs = search rules in
    let held : holder_of c.args.ticket m.desk.jobs ≡ Some c.in-Some.place = sym found ∙ c.in-Some.is in
    holder_open m.desk c.args.ticket c.in-Some.place c.requires.sound.tasks c.requires.sound.tickets held
