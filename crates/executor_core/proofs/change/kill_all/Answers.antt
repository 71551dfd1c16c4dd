use Rattle.exec_terms.specs.Stops.{killed_by}
use Rattle.exec_terms.proofs.Mapped.{map_step_at}
use Rattle.executor_core.proofs.change.kill_all.Goals as goal

pub loop-task-preserved : goal.loop-task-preserved
loop-task-preserved c = map_step_at (killed_by c.args.broker) c.deref_mut-task-items.result.now c.loop-task.task-items c.loop-task.task-index c.task-item.result c.kill.new.self c.loop-task-test.true c.loop-task.invariant c.kill.ensures
