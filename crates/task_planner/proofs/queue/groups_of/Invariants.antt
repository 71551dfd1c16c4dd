use Rattle.task_planner.specs.Groups.{AreGroupsTo}
use Rattle.task_planner.proofs.queue.groups_of.Given as goal

abbrev pub invariant-loop-task : goal.invariant-loop-task
invariant-loop-task l = AreGroupsTo l.slots l.task l.groups.items
