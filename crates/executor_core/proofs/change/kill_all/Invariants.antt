use Rattle.std.proofs.Common.{◌≡◌, ◌++◌, take, drop, map}
use Rattle.exec_terms.specs.Stops.{killed_by}
use Rattle.executor_core.proofs.change.kill_all.Given as goal

abbrev pub invariant-loop-task : goal.invariant-loop-task
invariant-loop-task l = l.task-items ≡ map (killed_by l.broker) (take l.task-index l.initial.task-items) ++ drop l.task-index l.initial.task-items
