use Rattle.std.proofs.Common.{◌≡◌, ◌++◌, take, drop, map}
use Rattle.exec_terms.specs.Stops.{stopped_by}
use Rattle.executor_core.proofs.change.stop_all.Given as goal

abbrev pub invariant-loop-task : goal.invariant-loop-task
invariant-loop-task l = l.task-items ≡ map (stopped_by l.force) (take l.task-index l.initial.task-items) ++ drop l.task-index l.initial.task-items
