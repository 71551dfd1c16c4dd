-- How far the one request of a book is, by the status of its user task.
use Rattle.std.proofs.Common.{◌≡◌, ℕ, Bool, true, false, cond, List, [], ◌∷◌, refl}
use Rattle.std.specs.Prelude.{Option, Some, not}
use Rattle.std.specs.List.{position}
use Rattle.std.proofs.lemmas.Bool.{and_parts, not-true}
use Rattle.plan_terms.specs.Cluster.{Cluster, Lists}
use Rattle.plan_terms.specs.Change.{proposals}
use Rattle.plan_terms.specs.declared.lists.Proposal.{Proposal}
use Rattle.plan_terms.specs.declared.settings.Sample.{Sample}
use Rattle.goal_optimizer.specs.Outcomes.{IsFailureOf, IsPlanOf}
use Rattle.goal_set.specs.Kept.{FailureView, PlanView}
use Rattle.goal_set.specs.declared.kinds.GoalKind.{GoalKind}
use Rattle.exec_terms.specs.Machine.{State, any_unfinished}
use Rattle.exec_terms.specs.declared.brokers.Host.{Host}
use Rattle.user_tasks.specs.Asks.{AskView}
use Rattle.user_tasks.specs.declared.table.Status.{Status}
use Rattle.user_tasks.specs.declared.table.Status.TheVariants as status
use Rattle.core_terms.specs.State.{Core}
use Rattle.core_terms.specs.Jobs.{is_in_execution}
use Rattle.core_terms.specs.Plans.{goal_failed}
use Rattle.core_terms.specs.Step.{with_desk}
use Rattle.core_terms.specs.Works.{ends_execution, execution_ended, moved, with_exec}
use Rattle.core_terms.specs.declared.jobs.Broken.{Broken}
use Rattle.core_terms.specs.declared.jobs.Job.{Job}
use Rattle.core_laws.proofs.Calm.{IsCalm, all_completed}

-- the request has its plan, which is carried out
pub record IsLed (c : Cluster) (lists : Lists) (hosts : List Host) (goals : List GoalKind) (e : State) : Type 0 where
  pub plan : PlanView
  pub planned : IsPlanOf c lists goals plan
  pub calm : IsCalm lists hosts (proposals lists plan.end) e

-- a goal failed it
pub record IsLost (c : Cluster) (lists : Lists) (hosts : List Host) (goals : List GoalKind) (broken : Option Broken) (e : State) : Type 0 where
  pub failure : FailureView
  pub failed : IsFailureOf c lists goals failure
  pub broken_is : broken ≡ Some (record { goal = goal_failed failure; left = failure.left })
  pub calm : IsCalm lists hosts [] e

-- by its status: it waits for its plan; the plan is carried out, or was; a goal failed it
abbrev pub IsStage : Cluster → Lists → List Host → List GoalKind → Job → State → Status → Type 0
IsStage c lists hosts goals j e status.Active = (j.goals ≡ goals) × IsCalm lists hosts [] e
IsStage c lists hosts goals j e status.InExecution = IsLed c lists hosts goals e
IsStage c lists hosts goals j e status.Completed = IsLed c lists hosts goals e
IsStage c lists hosts goals j e status.CompletedWithError = IsLost c lists hosts goals j.broken e

-- the state with one request
abbrev pub core_in : AskView → List Sample → Status → Job → State → ℕ → Core
core_in ask samples st j e n = record {
  desk = record { exec = e; tasks = record { ask = ask; status = st } ∷ []; jobs = j ∷ []; tickets = n; closing = false };
  samples = samples;
  since = [];
}

-- the state has just this request, which is so far
pub record IsUnderWay (c : Cluster) (lists : Lists) (hosts : List Host) (goals : List GoalKind) (ask : AskView) (samples : List Sample) (s : Core) : Type 0 where
  pub status : Status
  pub job : Job
  pub exec : State
  pub tickets : ℕ
  pub core_is : s ≡ core_in ask samples status job exec tickets
  pub stage : IsStage c lists hosts goals job exec status

module _ (c : Cluster) (lists : Lists) (hosts : List Host) (goals : List GoalKind) where
  -- of the job only its goals and what failed it count
  pub other_job : (j k : Job) (e : State) (st : Status) → k.goals ≡ j.goals → k.broken ≡ j.broken → IsStage c lists hosts goals j e st → IsStage c lists hosts goals k e st
  other_job j k e status.Active g b h = rw g h
  other_job j k e status.InExecution g b h = h
  other_job j k e status.Completed g b h = h
  other_job j k e status.CompletedWithError g b h = rw b h

  -- of the executor only that it is calm
  pub other_exec : (j : Job) (e u : State) (st : Status) → ((ps : List Proposal) → IsCalm lists hosts ps e → IsCalm lists hosts ps u)
      → IsStage c lists hosts goals j e st → IsStage c lists hosts goals j u st
  other_exec j e u status.Active f h = (h.0, f [] h.1)
  other_exec j e u status.InExecution f h = record { plan = h.plan; planned = h.planned; calm = f (proposals lists h.plan.end) h.calm }
  other_exec j e u status.Completed f h = record { plan = h.plan; planned = h.planned; calm = f (proposals lists h.plan.end) h.calm }
  other_exec j e u status.CompletedWithError f h = record { failure = h.failure; failed = h.failed; broken_is = h.broken_is; calm = f [] h.calm }

  module _ (ask : AskView) (samples : List Sample) where
    -- where the execution ends, each task has its new list, and so the user task is completed
    ended : (j : Job) (e u : State) (n : ℕ) (st : Status) → any_unfinished u.tasks ≡ false → IsStage c lists hosts goals j u st
        → IsUnderWay c lists hosts goals ask samples
        (with_desk (core_in ask samples st j e n)
        (execution_ended (with_exec (core_in ask samples st j e n).desk u) (position (λ t. is_in_execution t.status) (core_in ask samples st j e n).desk.tasks)))
    ended j e u n status.Active none h = record { status = status.Active; job = j; exec = u; tickets = n; core_is = refl; stage = h }
    ended j e u n status.InExecution none h =
        rw (all_completed u.tasks h.calm.on none) (record { status = status.Completed; job = j; exec = u; tickets = n; core_is = refl; stage = h })
    ended j e u n status.Completed none h = record { status = status.Completed; job = j; exec = u; tickets = n; core_is = refl; stage = h }
    ended j e u n status.CompletedWithError none h = record { status = status.CompletedWithError; job = j; exec = u; tickets = n; core_is = refl; stage = h }

    -- the executor moves on
    pub moved_on : (j : Job) (e u : State) (n : ℕ) (st : Status) → IsStage c lists hosts goals j u st
        → IsUnderWay c lists hosts goals ask samples (with_desk (core_in ask samples st j e n) (moved (core_in ask samples st j e n).desk u))
    moved_on j e u n st h = by (ends_execution e.tasks u.tasks) refl where
      by : (b : Bool) → ends_execution e.tasks u.tasks ≡ b
          → IsUnderWay c lists hosts goals ask samples
          (with_desk (core_in ask samples st j e n)
          (cond b (execution_ended (with_exec (core_in ask samples st j e n).desk u) (position (λ t. is_in_execution t.status) (core_in ask samples st j e n).desk.tasks))
          (with_exec (core_in ask samples st j e n).desk u)))
      by true q = ended j e u n st (not-true (any_unfinished u.tasks) (and_parts (any_unfinished e.tasks) (not (any_unfinished u.tasks)) q).1) h
      by false q = record { status = st; job = j; exec = u; tickets = n; core_is = refl; stage = h }
