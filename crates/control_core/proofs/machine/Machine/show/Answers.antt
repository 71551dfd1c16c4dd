use Rattle.std.proofs.Common.{◌≡◌, refl, rules}
use Rattle.exec_terms.specs.Machine.{lists_now}
use Rattle.core_terms.specs.Shows.{load_shown}
use Rattle.control_core.proofs.machine.Machine.show.Goals as goal

pub returns-in_ok-shown-in-Load : goal.returns-in_ok-shown-in-Load
returns-in_ok-shown-in-Load c = λ samples stands.
    let shown : c.in_ok-shown-in-Load.shown ≡ load_shown c.in_ok-case-in-Load.case (lists_now c.args.self.now.desk.exec) = search rules in
    rw (c.in-Load.is, shown, c.in_ok-case-in-Load.ensures.value samples stands) refl
