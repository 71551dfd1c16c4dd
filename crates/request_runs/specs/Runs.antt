-- One request that the owner of a book carries out alone: what the journal is then, and what came of the request.
use Rattle.std.specs.Prelude.{◌≡◌, List, [], ◌∷◌, ◌++◌, Option, Some, None}
use Rattle.cluster_gate.specs.declared.copier.ChunkCopy.{ChunkCopy}
use Rattle.cluster_gate.specs.declared.memory.MemoryCluster.{MemoryCluster}
use Rattle.cluster_json.specs.File.{Meaning}
use Rattle.control_core.specs.Books.{BookView, state_of}
use Rattle.core_laws.specs.Alone.{IsDone}
use Rattle.core_terms.specs.Asked.{case_of}
use Rattle.core_terms.specs.History.{AreLegal}
use Rattle.core_terms.specs.Input.{accepted, loaded_parts}
use Rattle.core_terms.specs.Jobs.{id_at}
use Rattle.core_terms.specs.Plans.{goal_failed}
use Rattle.core_terms.specs.declared.events.Event.{Event}
use Rattle.core_terms.specs.declared.events.Event.TheVariants as event
use Rattle.core_terms.specs.declared.jobs.Broken.{Broken}
use Rattle.exec_terms.specs.Machine.{State, lists_now}
use Rattle.goal_optimizer.specs.Outcomes.{IsFailureOf, IsPlanOf}
use Rattle.goal_set.specs.Kept.{FailureView, PlanView}
use Rattle.goal_set.specs.declared.kinds.GoalKind.{GoalKind}
use Rattle.mover_rounds.specs.Asked.{core_rules, entries_from}
use Rattle.mover_rounds.specs.Drained.{IsDrained}
use Rattle.mover_rounds.specs.Made.{failures_of}
use Rattle.mover_rounds.specs.declared.drains.DrainEnd.TheVariants as drain
use Rattle.plan_terms.specs.Cluster.{Cluster, Lists}
use Rattle.user_tasks.specs.Asks.{AskView}

-- the file, where no partition needs to have a load
abbrev pub without_share : Meaning → Meaning
without_share m = record m { ratio = record { num = 0; den = 1 } }

-- the cluster that is planned for: the file's, with the loads of its samples, as the request sees it
abbrev pub cluster_asked : AskView → Meaning → Cluster
cluster_asked ask m = case_of ask (record m.cluster { parts = loaded_parts m (accepted m.rules m.samples) })

-- the journal of a book that was opened with the file: the request; the rounds of a drain, in which no copy failed and behind which
-- nothing is unfinished; and the question what came of it
pub record IsRun (m : Meaning) (ask : AskView) (b : BookView MemoryCluster) : Type 0 where
  pub file_is : b.file ≡ m
  pub drained : List Event
  pub copies : List ChunkCopy
  pub journal_is : b.journal ≡ event.Submit ask None ∷ (drained ++ event.Submit ask (Some (id_at 0)) ∷ [])
  pub legal : AreLegal b.journal
  pub rounds : IsDrained (core_rules m) (event.Submit ask None ∷ drained) drain.Drained (entries_from (event.Submit ask None ∷ []) drained) copies
  pub no_failure : failures_of (entries_from (event.Submit ask None ∷ []) drained) ≡ 0
  pub done : IsDone (state_of b).desk

-- the lists are those that a plan for the cluster, the lists and the goals ends with
pub record IsCarriedOut (c : Cluster) (lists : Lists) (goals : List GoalKind) (exec : State) : Type 0 where
  pub plan : PlanView
  pub planned : IsPlanOf c lists goals plan
  pub carried : lists_now exec ≡ plan.end

-- a goal fails for them, and stays broken so far. The lists are as they were
pub record IsGivenUp (c : Cluster) (lists : Lists) (goals : List GoalKind) (broken : Broken) (exec : State) : Type 0 where
  pub failure : FailureView
  pub failed : IsFailureOf c lists goals failure
  pub goal_is : broken.goal ≡ goal_failed failure
  pub left_is : broken.left ≡ failure.left
  pub kept : lists_now exec ≡ lists

-- what came of a request for a plan
abbrev pub CameOf : Cluster → Lists → List GoalKind → Option Broken → State → Type 0
CameOf c lists goals None exec = IsCarriedOut c lists goals exec
CameOf c lists goals (Some broken) exec = IsGivenUp c lists goals broken exec
