use Rattle.control_core.proofs.Known.{known_parts}
use Rattle.control_core.proofs.machine.Machine.submit.Goals as goal

pub find-requires : goal.find-requires
find-requires c = rw (c.parts.ensures.value, c.case.ensures.value) (known_parts c.args.self.now.file c.args.self.now.desk c.requires.sound)
