use Rattle.std.proofs.Common.{◌≡◌, ◌++◌, take, drop, map}
use Rattle.task_planner.specs.Queue.{ended}
use Rattle.executor_core.specs.Kept.{slot_of}
use Rattle.executor_core.proofs.change.drop_waiting.Given as goal

abbrev pub invariant-loop-i : goal.invariant-loop-i
invariant-loop-i l = l.queue ≡ map (λ t. ended (slot_of t)) (take l.i l.tasks) ++ map slot_of (drop l.i l.tasks)
