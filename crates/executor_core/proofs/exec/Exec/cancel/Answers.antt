use Rattle.std.proofs.Common.{arith, ap}
use Rattle.exec_terms.specs.declared.work.WorkKind.TheVariants.{Cancel as ForCancel}
use Rattle.exec_terms.specs.declared.task.Task.{Task}
use Rattle.exec_terms.specs.Leases.{cancelled, phase_cancelled}
use Rattle.exec_terms.proofs.Events.{IsValid-cancel}
use Rattle.exec_terms.proofs.Calls.{IsValid-same, worth, ended_is, reply_is, phase_is}
use Rattle.executor_core.proofs.Calls.{leaving, left_kept, end_cancelled}
use Rattle.executor_core.proofs.Marked.{marks_known, next_none}
use Rattle.executor_core.proofs.exec.Exec.cancel.Goals as goal

pub index_mut-task-requires : goal.index_mut-task-requires
index_mut-task-requires c = omega (arith, (worth _ c.args.lease ForCancel c.in-Ok.i (rw (← c.self.view_is) at c.in-Ok.ensures)).known)

pub invariant_of-self : goal.invariant_of-self
invariant_of-self c = left_kept _ _ _ _ _ _ _ _ c.self.invariant c.args.lease ForCancel c.in-Ok.i c.index_mut-task.result.now c.cancel.new.self c.as_slice.result.now c.as_slice-in-Ok.result.now c.leave.new.self c.note.new.self (rw (← c.self.view_is) at c.in-Ok.ensures) c.index_mut-task.ensures.value
    (end_cancelled c.index_mut-task.result.now c.cancel.new.self c.cancel.ensures) c.as_slice.ensures c.as_slice-in-Ok.ensures c.leave.ensures c.note.ensures
    (IsValid-same _ _ (ended_is cancelled _ c.args.lease ForCancel c.in-Ok.i c.index_mut-task.result.now c.cancel.new.self (rw (← c.self.view_is) at c.in-Ok.ensures) c.index_mut-task.ensures.value c.cancel.ensures) (IsValid-cancel _ c.args.lease c.self.invariant.valid))

pub returns-in-Ok-clause-reply : goal.returns-in-Ok-clause-reply
returns-in-Ok-clause-reply c = rw (← c.self.view_is) (reply_is phase_cancelled _ c.args.lease ForCancel c.in-Ok.i c.index_mut-task.result.now c.cancel.new.self.phase (rw (← c.self.view_is) at c.in-Ok.ensures) c.index_mut-task.ensures.value
    (phase_is c.index_mut-task.result.now c.cancel.new.self c.cancel.ensures))

pub leave-requires-clause-before : goal.leave-requires-clause-before
leave-requires-clause-before c = rw c.as_slice.ensures (leaving _ _ _ _ _ _ _ _ c.self.invariant c.args.lease ForCancel c.in-Ok.i c.index_mut-task.result.now (rw (← c.self.view_is) at c.in-Ok.ensures) c.index_mut-task.ensures.value).before

pub leave-requires-clause-after : goal.leave-requires-clause-after
leave-requires-clause-after c = rw c.as_slice-in-Ok.ensures (leaving _ _ _ _ _ _ _ _ c.self.invariant c.args.lease ForCancel c.in-Ok.i c.index_mut-task.result.now (rw (← c.self.view_is) at c.in-Ok.ensures) c.index_mut-task.ensures.value).after

pub leave-requires-clause-counted : goal.leave-requires-clause-counted
leave-requires-clause-counted c = rw (c.as_slice.ensures, c.as_slice-in-Ok.ensures) (leaving _ _ _ _ _ _ _ _ c.self.invariant c.args.lease ForCancel c.in-Ok.i c.index_mut-task.result.now (rw (← c.self.view_is) at c.in-Ok.ensures) c.index_mut-task.ensures.value).counted

pub overflow_sub-self : goal.overflow_sub-self
overflow_sub-self c = (leaving _ _ _ _ _ _ _ _ c.self.invariant c.args.lease ForCancel c.in-Ok.i c.index_mut-task.result.now (rw (← c.self.view_is) at c.in-Ok.ensures) c.index_mut-task.ensures.value).some

pub note-requires-clause-known : goal.note-requires-clause-known
note-requires-clause-known c = marks_known c.self.inside.tasks.items c.self.inside.index c.in-Ok.i c.self.invariant.index_is (worth _ c.args.lease ForCancel c.in-Ok.i (rw (← c.self.view_is) at c.in-Ok.ensures)).known

pub note-requires-clause-next : goal.note-requires-clause-next
note-requires-clause-next c = next_none c.self.inside.index.leases c.in-Ok.i c.cancel.new.self (ap (λ (t : Task). t.lease) c.cancel.ensures)
