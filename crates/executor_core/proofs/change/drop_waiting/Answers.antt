use Rattle.task_planner.specs.Queue.{ended}
use Rattle.executor_core.specs.Kept.{slot_of}
use Rattle.executor_core.proofs.Turned.{queue_turned, stopped_slot}
use Rattle.executor_core.proofs.change.drop_waiting.Goals as goal

pub loop-i-preserved : goal.loop-i-preserved
loop-i-preserved c = queue_turned (λ t. ended (slot_of t)) c.args.tasks.now c.loop-i.queue c.loop-i.i c.index-tasks-i.result c.loop-i-test.true c.loop-i.invariant c.index-tasks-i.is
    c.is_pending.result (rw c.is_pending.ensures (stopped_slot c.index-tasks-i.result)) c.drop_if.new.queue c.drop_if.ensures
