use Rattle.std.proofs.Common.{arith, ap}
use Rattle.exec_terms.specs.declared.work.WorkKind.TheVariants.{Copy as ForCopy}
use Rattle.exec_terms.specs.declared.task.Task.{Task}
use Rattle.exec_terms.specs.Words.{copies, copies_left}
use Rattle.exec_terms.specs.Leases.{one_copied}
use Rattle.exec_terms.proofs.Events.{IsValid-copied}
use Rattle.exec_terms.proofs.Calls.{IsValid-same, worth, ended_is, copy_ends, reply_is, left_is}
use Rattle.executor_core.proofs.Calls.{calm_kept, calm_copied}
use Rattle.executor_core.proofs.Marked.{marks_known, next_none}
use Rattle.executor_core.proofs.exec.Exec.copied.Goals as goal

pub index_mut-task-requires : goal.index_mut-task-requires
index_mut-task-requires c = omega (arith, (worth _ c.args.lease ForCopy c.in-Ok.i (rw (← c.self.view_is) at c.in-Ok.ensures)).known)

pub finish_copy-requires : goal.finish_copy-requires
finish_copy-requires c = (copy_ends _ c.args.lease c.in-Ok.i c.index_mut-task.result.now c.self.invariant.valid (rw (← c.self.view_is) at c.in-Ok.ensures) c.index_mut-task.ensures.value).room

pub copies_left-requires-clause-few : goal.copies_left-requires-clause-few
copies_left-requires-clause-few c = rw c.finish_copy.ensures (copy_ends _ c.args.lease c.in-Ok.i c.index_mut-task.result.now c.self.invariant.valid (rw (← c.self.view_is) at c.in-Ok.ensures) c.index_mut-task.ensures.value).short

pub copies_left-requires-clause-chunks : goal.copies_left-requires-clause-chunks
copies_left-requires-clause-chunks c = rw c.finish_copy.ensures (copy_ends _ c.args.lease c.in-Ok.i c.index_mut-task.result.now c.self.invariant.valid (rw (← c.self.view_is) at c.in-Ok.ensures) c.index_mut-task.ensures.value).few_chunks

pub copies_left-requires-clause-done : goal.copies_left-requires-clause-done
unfolding copies
copies_left-requires-clause-done c = rw c.finish_copy.ensures (copy_ends _ c.args.lease c.in-Ok.i c.index_mut-task.result.now c.self.invariant.valid (rw (← c.self.view_is) at c.in-Ok.ensures) c.index_mut-task.ensures.value).left

pub invariant_of-self : goal.invariant_of-self
invariant_of-self c = calm_kept _ _ _ _ _ _ _ _ c.self.invariant c.in-Ok.i _ c.index_mut-task.result.now c.finish_copy.new.self c.note.new.self (worth _ c.args.lease ForCopy c.in-Ok.i (rw (← c.self.view_is) at c.in-Ok.ensures)).known c.index_mut-task.ensures.value (calm_copied c.index_mut-task.result.now c.finish_copy.new.self c.finish_copy.ensures) c.note.ensures
    (IsValid-same _ _ (ended_is one_copied _ c.args.lease ForCopy c.in-Ok.i c.index_mut-task.result.now c.finish_copy.new.self (rw (← c.self.view_is) at c.in-Ok.ensures) c.index_mut-task.ensures.value c.finish_copy.ensures) (IsValid-copied _ c.args.lease c.self.invariant.valid))

pub returns-in-Ok-clause-reply : goal.returns-in-Ok-clause-reply
returns-in-Ok-clause-reply c = rw (← c.self.view_is) (reply_is (λ (x : Task). record { 0 = copies_left (one_copied x) }) _ c.args.lease ForCopy c.in-Ok.i c.index_mut-task.result.now (record { 0 = c.copies_left.result }) (rw (← c.self.view_is) at c.in-Ok.ensures) c.index_mut-task.ensures.value
    (left_is c.index_mut-task.result.now c.finish_copy.new.self c.copies_left.result c.finish_copy.ensures c.copies_left.ensures))

pub note-requires-clause-known : goal.note-requires-clause-known
note-requires-clause-known c = marks_known c.self.inside.tasks.items c.self.inside.index c.in-Ok.i c.self.invariant.index_is (worth _ c.args.lease ForCopy c.in-Ok.i (rw (← c.self.view_is) at c.in-Ok.ensures)).known

pub note-requires-clause-next : goal.note-requires-clause-next
note-requires-clause-next c = next_none c.self.inside.index.leases c.in-Ok.i c.finish_copy.new.self (ap (λ (t : Task). t.lease) c.finish_copy.ensures)
