use Rattle.std.proofs.Common.{sym}
use Rattle.exec_terms.proofs.Launch.{IsValid-launched}
use Rattle.executor_core.proofs.Launching.{lists_known, kept_launched}
use Rattle.executor_core.proofs.exec.Exec.launch.Goals as goal

pub new-requires-clause-lists : goal.new-requires-clause-lists
new-requires-clause-lists c = rw c.as_slice-4.ensures.value
    (lists_known _ _ _ _ _ _ _ _ c.self.invariant (sym (rw c.as_slice.ensures.value at c.in_default.ensures)) c.args.proposals.now (rw (← c.self.view_is) at c.requires))

pub invariant_of-self : goal.invariant_of-self
invariant_of-self c =
    let kept = kept_launched _ _ _ _ _ _ _ _ c.self.invariant (sym (rw c.as_slice.ensures.value at c.in_default.ensures))
    c.in_ok-base.base.items c.in_ok-unions.unions.items c.in_ok-tasks.tasks.items c.args.proposals.now c.in_ok-copies.copies.items c.in_ok-queue.queue
    (rw (← c.self.view_is) at c.requires)
    c.in_ok-index.index
    (rw (← c.self.view_is) at c.in_ok-base.ensures)
    (rw c.as_slice-2.ensures.value at c.in_ok-tasks.ensures)
    (rw c.as_slice-3.ensures.value at c.in_ok-unions.ensures)
    c.in_ok-copies.ensures
    c.in_ok-queue.ensures
    c.in_ok-index.ensures in
    record {
      valid = IsValid-launched _ c.args.proposals.now c.in_ok-base.base.items c.in_ok-tasks.tasks.items
          (rw (← c.self.view_is) at c.in_ok-base.ensures)
          (rw c.as_slice-2.ensures.value at c.in_ok-tasks.ensures)
          (rw (← c.self.view_is) at c.requires)
          (sym (rw c.as_slice.ensures.value at c.in_default.ensures))
          c.self.invariant.valid;
      fixed = kept.0;
      counts_are = kept.1;
      left_is = kept.3;
      index_is = kept.4;
      queue_is = kept.2;
    }
