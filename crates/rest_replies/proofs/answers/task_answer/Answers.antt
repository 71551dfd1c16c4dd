use Rattle.std.proofs.Common.{subst, sym}
use Rattle.rest_replies.specs.Plain.{IsPlain}
use Rattle.rest_replies.proofs.Plain.{done_plain, ended_plain}
use Rattle.rest_replies.proofs.answers.task_answer.Goals as goal

pub task-requires-in-Done : goal.task-requires-in-Done
task-requires-in-Done c = subst IsPlain (sym c.in_ok-body-in-Done.ensures) (done_plain c.args.id c.args.status _)

pub task-requires-in-Ended : goal.task-requires-in-Ended
task-requires-in-Ended c = subst IsPlain (sym c.in_ok-body-in-Ended.ensures) (ended_plain c.args.id c.args.status _ _ _)
