use Rattle.executor_tests.proofs.Begun.{can_launch}
use Rattle.executor_tests.proofs.runs.launched.Goals as goal

pub launch-requires : goal.launch-requires
launch-requires c = rw (c.in_ok-exec.ensures.exec, c.deref.ensures.value, c.in_ok-changes.ensures.changes)
    (can_launch c.args.case.now c.args.before.now c.args.after.now c.args.caps c.in_ok-exec.ensures.case c.requires.before c.requires.after c.requires.no_lost)
