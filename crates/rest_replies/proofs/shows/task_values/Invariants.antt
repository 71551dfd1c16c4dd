use Rattle.std.proofs.Common.{◌≡◌, map, take}
use Rattle.serde_json.specs.View.{view}
use Rattle.rest_replies.specs.Bodies.{task_data}
use Rattle.rest_replies.proofs.shows.task_values.Given as goal

abbrev pub invariant-loop-task : goal.invariant-loop-task
invariant-loop-task l = map view l.list.items ≡ map task_data (take l.task-index l.tasks)
