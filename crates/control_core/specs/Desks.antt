-- What a desk keeps beside its user tasks and their jobs.
use Rattle.std.specs.Prelude.{◌≡◌, ℕ, List, length}
use Rattle.std.specs.List.{filter, range_with_len}
use Rattle.user_tasks.specs.Tasks.{is_open}
use Rattle.user_tasks.specs.declared.table.UserTask.{UserTask}
use Rattle.core_terms.specs.Jobs.{user_task_at}
use Rattle.core_terms.specs.declared.jobs.Job.{Job}

-- the places of the user tasks that are open
abbrev pub open_places : List UserTask → List ℕ
open_places tasks = filter (λ i. is_open (user_task_at tasks i).status) (range_with_len 0 (length tasks))

-- a job for each user task, and the places of the open ones
pub record IsDesk (tasks : List UserTask) (jobs : List Job) (open_ones : List ℕ) : Type 0 where
  pub one_each : length jobs ≡ length tasks
  pub open_are : open_ones ≡ open_places tasks
