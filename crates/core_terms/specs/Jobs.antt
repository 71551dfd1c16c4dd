-- User tasks and their jobs: how far they are, and what a plan makes of them.
use Rattle.std.specs.Prelude.{◌≡◌, ℕ, ◌+◌, Bool, true, false, not, ◌&&◌, List, [], ◌∷◌, ◌++◌, slice_set, get_or, Option, None, if◌then◌else◌}
use Rattle.std.specs.List.{position}
use Rattle.plan_terms.specs.declared.lists.Proposal.{Proposal}
use Rattle.exec_terms.specs.Machine.{any_unfinished, after_launch, first_unfinished}
use Rattle.exec_terms.specs.Runs.{CanLaunch}
use Rattle.user_tasks.specs.Ids.{id_of}
use Rattle.user_tasks.specs.Asks.{AskView}
use Rattle.user_tasks.specs.declared.ask.Op.TheVariants as op
use Rattle.user_tasks.specs.declared.table.Status.{Status}
use Rattle.user_tasks.specs.declared.table.Status.TheVariants as status
use Rattle.user_tasks.specs.declared.table.UserTask.{UserTask}
use Rattle.core_terms.specs.Asked.{is_dry, goals_of}
use Rattle.core_terms.specs.State.{Desk, job_at}
use Rattle.core_terms.specs.declared.jobs.Job.{Job}

-- a reading past the end of the user tasks gives it
abbrev pub no_user_task : UserTask
no_user_task = record { ask = record { op = op.Proposals; brokers = []; goals = []; skip = false; excluded = []; dryrun = true; topics = []; factor = 0 }; status = status.Completed }

-- the user task at place i, which has the number i + 1
abbrev pub user_task_at : List UserTask → ℕ → UserTask
user_task_at tasks i = get_or tasks i no_user_task

-- the id of the user task at place i
abbrev pub id_at : ℕ → List ℕ
id_at i = id_of (i + 1)

-- it waits for its plan
abbrev pub is_active : Status → Bool
is_active status.Active = true
is_active status.InExecution = false
is_active status.Completed = false
is_active status.CompletedWithError = false

-- its plan is carried out
abbrev pub is_in_execution : Status → Bool
is_in_execution status.Active = false
is_in_execution status.InExecution = true
is_in_execution status.Completed = false
is_in_execution status.CompletedWithError = false

-- an executing job: its plan is being made, and is to be carried out
abbrev pub plans_execution : UserTask → Bool
plans_execution t = is_active t.status && not (is_dry t.ask)

-- the place of the user task whose execution is unfinished; where no task is, of the one whose plan is being made to be carried out
abbrev pub executing : Desk → Option ℕ
executing s = if any_unfinished s.exec.tasks then position (λ t. is_in_execution t.status) s.tasks else position plans_execution s.tasks

-- a job that waits for a planner
abbrev pub new_job : AskView → Job
new_job ask = record { goals = goals_of ask; ticket = None; proposals = []; broken = None; aborted = 0; dead = 0 }

-- one user task more, which is active
abbrev pub admitted : Desk → AskView → Desk
admitted s ask = record s { tasks = s.tasks ++ record { ask = ask; status = status.Active } ∷ []; jobs = s.jobs ++ new_job ask ∷ [] }

-- another job at place i
abbrev pub with_job : Desk → ℕ → Job → Desk
with_job s i j = record s { jobs = slice_set s.jobs i j }

-- another status of the user task at place i
abbrev pub with_status : Desk → ℕ → Status → Desk
with_status s i x = record s { tasks = slice_set s.tasks i (record (user_task_at s.tasks i) { status = x }) }

-- the job has its plan
abbrev pub planned_job : Job → List Proposal → Job
planned_job j ps = record j { ticket = None; proposals = ps }

-- a plan without proposals or of a dry run is done
abbrev pub is_done_at_once : UserTask → List Proposal → Bool
is_done_at_once t [] = true
is_done_at_once t (p ∷ ps) = is_dry t.ask

-- how far a user task then is
abbrev pub status_at_once : UserTask → List Proposal → Status
status_at_once t ps = if is_done_at_once t ps then status.Completed else status.InExecution

-- the plan of the job at place i has these proposals: they are launched, where there are any and it is no dry run
abbrev pub with_plan : Desk → ℕ → List Proposal → Desk
with_plan s i ps =
    if is_done_at_once (user_task_at s.tasks i) ps
    then with_status (with_job s i (planned_job (job_at s.jobs i) ps)) i status.Completed
    else record (with_status (with_job s i (planned_job (job_at s.jobs i) ps)) i status.InExecution) { exec = after_launch s.exec ps }

-- where proposals of the job at place i are to be carried out, no task is unfinished and they can be launched
abbrev pub MayLaunch : Desk → ℕ → List Proposal → Type 0
MayLaunch s i ps = is_done_at_once (user_task_at s.tasks i) ps ≡ false → (first_unfinished s.exec ≡ None) × CanLaunch s.exec ps
