use Rattle.exec_terms.specs.Stops.{stopped_by}
use Rattle.exec_terms.proofs.Mapped.{map_step_at}
use Rattle.executor_core.proofs.change.stop_all.Goals as goal

pub loop-task-preserved : goal.loop-task-preserved
loop-task-preserved c = map_step_at (stopped_by c.args.force) c.deref_mut-task-items.result.now c.loop-task.task-items c.loop-task.task-index c.task-item.result c.stop.new.self c.loop-task-test.true c.loop-task.invariant c.stop.ensures
