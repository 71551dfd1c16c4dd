use Rattle.std.proofs.Common.{refl, sym, ap}
use Rattle.exec_terms.proofs.Events.{IsValid-end_lease}
use Rattle.exec_terms.proofs.Calls.{IsValid-same, end_lease_is, end_lease_none}
use Rattle.std.proofs.lemmas.List.Quantifiers.{position-Some}
use Rattle.exec_terms.specs.declared.task.Task.{Task}
use Rattle.exec_terms.specs.Words.{holds}
use Rattle.exec_terms.specs.Machine.{no_task}
use Rattle.executor_core.proofs.Calls.{calm_kept, calm_released}
use Rattle.executor_core.proofs.Marked.{marks_known, next_none}
use Rattle.executor_core.proofs.exec.Exec.end_lease.Goals as goal

pub note-requires-clause-known : goal.note-requires-clause-known
note-requires-clause-known c = marks_known c.self.inside.tasks.items c.self.inside.index c.in-Some.i c.self.invariant.index_is (position-Some (holds c.args.lease) c.self.inside.tasks.items c.in-Some.i no_task (sym (rw (← c.self.view_is) at c.in-Some.ensures))).0

pub note-requires-clause-next : goal.note-requires-clause-next
note-requires-clause-next c = next_none c.self.inside.index.leases c.in-Some.i c.release.new.self (ap (λ (t : Task). t.lease) c.release.ensures)

pub invariant_of-self : goal.invariant_of-self
invariant_of-self c = calm_kept _ _ _ _ _ _ _ _ c.self.invariant c.in-Some.i _ c.index_mut-task.result.now c.release.new.self c.note.new.self (position-Some (holds c.args.lease) c.self.inside.tasks.items c.in-Some.i no_task (sym (rw (← c.self.view_is) at c.in-Some.ensures))).0 c.index_mut-task.ensures.value (calm_released c.index_mut-task.result.now c.release.new.self c.release.ensures) c.note.ensures
    (IsValid-same _ _ (end_lease_is _ c.args.lease c.self.inside.tasks.items c.in-Some.i c.index_mut-task.result.now c.release.new.self refl (rw (← c.self.view_is) at c.in-Some.ensures) c.index_mut-task.ensures.value c.release.ensures) (IsValid-end_lease _ c.args.lease c.self.invariant.valid))

pub returns-in-Some : goal.returns-in-Some
returns-in-Some c = rw (← c.self.view_is) (end_lease_is _ c.args.lease c.self.inside.tasks.items c.in-Some.i c.index_mut-task.result.now c.release.new.self refl (rw (← c.self.view_is) at c.in-Some.ensures) c.index_mut-task.ensures.value c.release.ensures)

pub returns-in_default : goal.returns-in_default
returns-in_default c = rw (← c.self.view_is) (end_lease_none _ c.args.lease c.self.inside.tasks.items refl (rw (← c.self.view_is) at c.in_default.ensures))
