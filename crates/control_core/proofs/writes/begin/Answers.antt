use Rattle.std.proofs.Common.{◌≡◌, true}
use Rattle.exec_terms.specs.Machine.{any_unfinished, no_task}
use Rattle.exec_terms.proofs.ListLaws.{unions_are_short}
use Rattle.core_laws.proofs.Given.{is_given}
use Rattle.control_core.proofs.Working.{anyhow}
use Rattle.control_core.proofs.writes.begin.Goals as goal

pub union-requires : goal.union-requires
union-requires g c = (is_given c.args.exec.now c.in-Ok.given c.in-Ok.ensures).there

pub begin-requires-clause-installed : goal.begin-requires-clause-installed
begin-requires-clause-installed g c =
    let h = is_given c.args.exec.now c.in-Ok.given c.in-Ok.ensures in
    rw (h.part_is, c.requires.installed) (c.state_is_valid.ensures.each c.in-Ok.given.task no_task h.there).known

pub begin-requires-clause-few : goal.begin-requires-clause-few
begin-requires-clause-few g c =
    let h = is_given c.args.exec.now c.in-Ok.given c.in-Ok.ensures in
    rw c.union.ensures (unions_are_short c.args.exec.now c.state_is_valid.ensures c.in-Ok.given.task no_task h.there)

pub returns-clause-busy : goal.returns-clause-busy
returns-clause-busy g c = anyhow (any_unfinished c.args.exec.now.tasks ≡ true) c.begin.result (is_given c.args.exec.now c.in-Ok.given c.in-Ok.ensures).busy
