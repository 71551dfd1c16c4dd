use Rattle.std.proofs.Common.{arith, map, ap, sym, ◌∙◌}
use Rattle.executor_core.proofs.Unfinished.{killed-left}
use Rattle.executor_core.proofs.Calls.{kill_kept}
use Rattle.exec_terms.specs.Stops.{killed_by}
use Rattle.task_index.specs.Index.{Marks, number_in}
use Rattle.executor_core.proofs.Marked.{numbers-same, killed_lease}
use Rattle.executor_core.proofs.exec.Exec.kill.Goals as goal

pub invariant_of-self : goal.invariant_of-self
invariant_of-self c = kill_kept _ _ _ _ _ _ _ _ c.self.invariant c.args.broker c.kill_all.new.tasks.items c.mark_all.new.hosts.items c.count_waiting_for-dead.result c.drop_doomed.new.queue c.note_all.new.self c.kill_all.ensures
    (rw c.as_slice-3.ensures.value at c.count_waiting_for-dead.ensures) c.mark_all.ensures (rw c.as_slice-5.ensures.value at c.drop_doomed.ensures) (rw c.as_slice-6.ensures.value at c.note_all.ensures)

pub overflow_sub-self : goal.overflow_sub-self
overflow_sub-self c = omega (arith, rw c.as_slice-3.ensures.value at c.count_waiting_for-dead.ensures, c.self.invariant.left_is, killed-left c.args.broker c.self.inside.tasks.items)

pub note_all-requires : goal.note_all-requires
note_all-requires c = rw c.as_slice-6.ensures.value (ap (λ (m : Marks). m.leases) c.self.invariant.index_is ∙ sym (ap (map number_in) c.kill_all.ensures ∙ numbers-same (killed_by c.args.broker) (killed_lease c.args.broker) c.self.inside.tasks.items))
