use Rattle.executor_tests.proofs.Begun.{can_launch_none}
use Rattle.executor_tests.proofs.runs.launch_none.Goals as goal

pub launch-requires : goal.launch-requires
launch-requires g c = can_launch_none c.args.exec.now
