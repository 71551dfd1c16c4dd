use Rattle.std.proofs.Common.{refl}
use Rattle.task_planner.proofs.Grouped.{Files-known, Files-new}
use Rattle.task_planner.proofs.queue.file.Goals as goal

pub returns-in_ok-push-in-Some : goal.returns-in_ok-push-in-Some
returns-in_ok-push-in-Some c =
    Files-known c.args.key c.args.task c.in-Some.place c.args.groups.now.items c.index_mut.result.now c.push.new.self (rw c.as_slice.ensures.value at c.in-Some.ensures.known) c.index_mut.ensures.value
    (rw c.as_slice.ensures.value at c.in-Some.ensures.key) c.in_ok-push-in-Some.ensures

pub returns-in_ok-push-in-None-2 : goal.returns-in_ok-push-in-None-2
returns-in_ok-push-in-None-2 c =
    rw c.in_ok-push-in-None-2.ensures.items
    (Files-new c.args.key c.args.task c.args.groups.now.items _ (rw c.as_slice.ensures.value at (c.in-None.ensures.none refl)) (rw c.new-group.ensures at c.in_ok-push-in-None.ensures))
