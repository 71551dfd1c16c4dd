use Rattle.control_core.specs.Machines.{core_of}
use Rattle.control_core.proofs.machine.Machine.plan_take.Goals as goal

pub problem-requires-clause-belongs : goal.problem-requires-clause-belongs
problem-requires-clause-belongs c =
    let m = c.args.self.now in
    let stands = c.requires.stands in
    rw (c.in_ok-case-in-Some.ensures.value stands.0 stands.1) (c.every_book.ensures.problems m.file (core_of m stands.0) c.in-Some.place c.requires.sound)
