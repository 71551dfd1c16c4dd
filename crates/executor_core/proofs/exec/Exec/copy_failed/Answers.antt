use Rattle.std.proofs.Common.{◌+◌, arith, ap, ◌∙◌}
use Rattle.exec_terms.specs.declared.work.WorkKind.TheVariants.{Copy as ForCopy}
use Rattle.exec_terms.specs.declared.task.Task.{Task}
use Rattle.exec_terms.specs.Leases.{one_failed}
use Rattle.exec_terms.proofs.Events.{IsValid-copy_failed}
use Rattle.exec_terms.proofs.Calls.{IsValid-same, worth, ended_is, copy_ends, reply_is, faults_is}
use Rattle.executor_core.proofs.Calls.{calm_kept, calm_failed, flies}
use Rattle.executor_core.proofs.Marked.{marks_known, next_none, failed_lease}
use Rattle.executor_core.proofs.exec.Exec.copy_failed.Goals as goal

pub index_mut-task-requires : goal.index_mut-task-requires
index_mut-task-requires c = omega (arith, (worth _ c.args.lease ForCopy c.in-Ok.i (rw (← c.self.view_is) at c.in-Ok.ensures)).known)

pub fail_copy-requires : goal.fail_copy-requires
fail_copy-requires c = (copy_ends _ c.args.lease c.in-Ok.i c.index_mut-task.result.now c.self.invariant.valid (rw (← c.self.view_is) at c.in-Ok.ensures) c.index_mut-task.ensures.value).faults

pub invariant_of-self : goal.invariant_of-self
invariant_of-self c = calm_kept _ _ _ _ _ _ _ _ c.self.invariant c.in-Ok.i _ c.index_mut-task.result.now c.fail_copy.new.self c.note.new.self (worth _ c.args.lease ForCopy c.in-Ok.i (rw (← c.self.view_is) at c.in-Ok.ensures)).known c.index_mut-task.ensures.value
    (calm_failed c.index_mut-task.result.now c.fail_copy.new.self (flies _ _ _ _ _ _ _ _ c.self.invariant c.args.lease ForCopy c.in-Ok.i c.index_mut-task.result.now (rw (← c.self.view_is) at c.in-Ok.ensures) c.index_mut-task.ensures.value) c.fail_copy.ensures) c.note.ensures
    (IsValid-same _ _ (ended_is one_failed _ c.args.lease ForCopy c.in-Ok.i c.index_mut-task.result.now c.fail_copy.new.self (rw (← c.self.view_is) at c.in-Ok.ensures) c.index_mut-task.ensures.value c.fail_copy.ensures) (IsValid-copy_failed _ c.args.lease c.self.invariant.valid))

pub returns-in-Ok-clause-reply : goal.returns-in-Ok-clause-reply
returns-in-Ok-clause-reply c = rw (← c.self.view_is) (reply_is (λ (x : Task). record { 0 = x.faults + 1 }) _ c.args.lease ForCopy c.in-Ok.i c.index_mut-task.result.now (record { 0 = c.fail_copy.new.self.faults }) (rw (← c.self.view_is) at c.in-Ok.ensures) c.index_mut-task.ensures.value
    (faults_is c.index_mut-task.result.now c.fail_copy.new.self c.fail_copy.ensures))

pub note-requires-clause-known : goal.note-requires-clause-known
note-requires-clause-known c = marks_known c.self.inside.tasks.items c.self.inside.index c.in-Ok.i c.self.invariant.index_is (worth _ c.args.lease ForCopy c.in-Ok.i (rw (← c.self.view_is) at c.in-Ok.ensures)).known

pub note-requires-clause-next : goal.note-requires-clause-next
note-requires-clause-next c = next_none c.self.inside.index.leases c.in-Ok.i c.fail_copy.new.self (ap (λ (t : Task). t.lease) c.fail_copy.ensures ∙ failed_lease c.index_mut-task.result.now)
