use Rattle.std.proofs.Common.{◌≡◌, ◌∙◌, true, sym, rules}
use Rattle.std.specs.Prelude.{Some}
use Rattle.core_terms.specs.Plans.{holder_of, is_plan_for}
use Rattle.control_core.specs.Machines.{core_of}
use Rattle.control_core.proofs.Open.{holder_open}
use Rattle.control_core.proofs.machine.Machine.planned.Goals as goal

pub take_plan-requires-clause-is_open : goal.take_plan-requires-clause-is_open
take_plan-requires-clause-is_open c =
    let m = c.args.self.now in
    let found : c.holder_of.result ≡ holder_of c.args.ticket m.desk.jobs = search rules in
    let held : holder_of c.args.ticket m.desk.jobs ≡ Some c.in-Some.place = sym found ∙ c.in-Some.is in
    holder_open m.desk c.args.ticket c.in-Some.place c.requires.sound.tasks c.requires.sound.tickets held

pub take_plan-requires-clause-may : goal.take_plan-requires-clause-may
take_plan-requires-clause-may c =
    let m = c.args.self.now in
    let stands = c.requires.stands in
    let is : is_plan_for c.in_ok-case-in-Some.case m.desk c.in-Some.place c.args.plan.now ≡ true = sym c.in_ok-is_plan_for-in-Some.ensures ∙ c.if-branch.true in
    let found : c.holder_of.result ≡ holder_of c.args.ticket m.desk.jobs = search rules in
    let held : holder_of c.args.ticket m.desk.jobs ≡ Some c.in-Some.place = sym found ∙ c.in-Some.is in
    let launches =
    c.every_event.ensures.launches m.file (core_of m stands.0) c.args.ticket c.args.plan.now c.requires.input c.start.ensures.kept c.requires.sound c.in-Some.place
    held (rw (c.in_ok-case-in-Some.ensures.value stands.0 stands.1) at is) in
    rw (c.in_ok-changes-in-Some.ensures.changes, c.start.ensures.value, c.end.ensures.value) launches
