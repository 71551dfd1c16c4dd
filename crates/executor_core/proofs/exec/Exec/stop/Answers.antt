use Rattle.std.proofs.Common.{arith, map, ap, refl, sym, ◌∙◌}
use Rattle.executor_core.proofs.Unfinished.{stopped-left}
use Rattle.executor_core.proofs.Calls.{stop_kept}
use Rattle.exec_terms.specs.Stops.{stopped_by}
use Rattle.task_index.specs.Index.{Marks, number_in}
use Rattle.executor_core.proofs.Marked.{numbers-same}
use Rattle.executor_core.proofs.exec.Exec.stop.Goals as goal

pub invariant_of-self : goal.invariant_of-self
invariant_of-self c = stop_kept _ _ _ _ _ _ _ _ c.self.invariant c.args.force c.stop_all.new.tasks.items c.count_pending-aborted.result c.drop_waiting.new.queue c.note_all.new.self c.stop_all.ensures
    (rw c.as_slice.ensures.value at c.count_pending-aborted.ensures) (rw c.as_slice-2.ensures.value at c.drop_waiting.ensures) (rw c.as_slice-3.ensures.value at c.note_all.ensures)

pub overflow_sub-self : goal.overflow_sub-self
overflow_sub-self c = omega (arith, rw c.as_slice.ensures.value at c.count_pending-aborted.ensures, c.self.invariant.left_is, stopped-left c.args.force c.self.inside.tasks.items)

pub note_all-requires : goal.note_all-requires
note_all-requires c = rw c.as_slice-3.ensures.value (ap (λ (m : Marks). m.leases) c.self.invariant.index_is ∙ sym (ap (map number_in) c.stop_all.ensures ∙ numbers-same (stopped_by c.args.force) (λ t. refl) c.self.inside.tasks.items))
