use Rattle.exec_terms.specs.Stops.{killed_by}
use Rattle.executor_core.specs.Kept.{slot_of}
use Rattle.executor_core.proofs.Turned.{queue_turned, killed_slot}
use Rattle.executor_core.proofs.change.drop_doomed.Goals as goal

pub loop-i-preserved : goal.loop-i-preserved
loop-i-preserved c = queue_turned (λ t. slot_of (killed_by c.args.broker t)) c.args.tasks.now c.loop-i.queue c.loop-i.i c.index-tasks-i.result c.loop-i-test.true c.loop-i.invariant c.index-tasks-i.is
    c.waits_for.result (rw c.waits_for.ensures (killed_slot c.args.broker c.index-tasks-i.result)) c.drop_if.new.queue c.drop_if.ensures
