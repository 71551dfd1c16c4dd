use Rattle.std.proofs.Common.{sym}
use Rattle.std.proofs.lemmas.List.{get_or_read}
use Rattle.task_planner.specs.Queue.{no_slot}
use Rattle.task_planner.proofs.Grouped.{AreGroupsTo-more, AreGroupsTo-none}
use Rattle.task_planner.proofs.queue.groups_of.Goals as goal

pub loop-task-init : goal.loop-task-init
loop-task-init c = rw c.new-groups.ensures.items (AreGroupsTo-none c.args.slots.now)

pub loop-task-preserved : goal.loop-task-preserved
loop-task-preserved c =
    let here = get_or_read c.args.slots.now c.loop-task.task c.index-slots-task.result c.loop-task-test.true c.index-slots-task.is no_slot in
    AreGroupsTo-more c.args.slots.now c.loop-task.task c.loop-task.groups.items c.file.new.groups.items c.loop-task-test.true c.loop-task.invariant
    (rw (sym here) (rw c.key.ensures at c.in_ok-file.ensures))
