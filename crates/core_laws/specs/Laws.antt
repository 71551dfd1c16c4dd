-- Laws of the core.
use Rattle.std.specs.Prelude.{◌≡◌, ℕ, false, List, Some, None}
use Rattle.plan_terms.specs.declared.lists.Proposal.{Proposal}
use Rattle.plan_terms.specs.Belongs.{Belongs}
use Rattle.plan_terms.specs.Cluster.{Cluster}
use Rattle.exec_terms.specs.Machine.{State, first_unfinished}
use Rattle.exec_terms.specs.Settled.{settled_lists}
use Rattle.exec_terms.specs.Valid.{IsValid}
use Rattle.exec_terms.specs.Runs.{Event, IsLaunch, after_event}
use Rattle.cluster_json.specs.File.{Meaning}
use Rattle.core_terms.specs.State.{Desk, Core, moment_of, opening_desk, opening_of}
use Rattle.core_terms.specs.Input.{IsInput}
use Rattle.core_terms.specs.History.{IsLegal, AreLegal, state_after}
use Rattle.core_terms.specs.Jobs.{is_done_at_once, user_task_at}
use Rattle.core_terms.specs.Works.{moved}
use Rattle.core_terms.specs.Submits.{MayChange}
use Rattle.core_terms.specs.Plans.{MayPlan, holder_of}
use Rattle.core_terms.specs.Step.{next}
use Rattle.core_terms.specs.Sound.{AreTasks, AreTickets, IsExecOf, IsSound}
use Rattle.core_terms.specs.declared.events.Event.{Event as CoreEvent}
use Rattle.core_terms.specs.declared.events.Event.TheVariants as event

-- each event of the executor but a launch keeps what holds of the user tasks
abbrev pub MovesKeepTasks : Type 0
MovesKeepTasks = (d : Desk) (e : Event) → (IsLaunch e → ⊥) → IsValid d.exec → AreTasks d → AreTasks (moved d (after_event d.exec e))

-- it holds at the beginning
abbrev pub OpeningHasTasks : Type 0
OpeningHasTasks = (file : Meaning) → AreTasks (opening_desk file)

-- a plan that is taken and is to be carried out can be launched, and so can a change of the replication factor
abbrev pub IsLaunchable : Meaning → Core → CoreEvent → Type 0
IsLaunchable file s (event.Planned ticket plan) = MayPlan (moment_of file s).cluster s.desk ticket plan
IsLaunchable file s (event.Submit ask None) = MayChange (moment_of file s) s.desk ask
IsLaunchable file s (event.Heal cause ask) = MayChange (moment_of file s) s.desk ask
IsLaunchable file s _ = Unit {0}

-- each event keeps what holds of the user tasks
abbrev pub EventsKeepTasks : Type 0
EventsKeepTasks = (file : Meaning) (s : Core) (e : CoreEvent) → IsLaunchable file s e → IsValid s.desk.exec → AreTickets s.desk → AreTasks s.desk → AreTasks (next file s e).desk

-- each event keeps what holds of the executor: phases and lists, caps, leases, deaths and stops
abbrev pub EventsKeepValid : Type 0
EventsKeepValid = (file : Meaning) (s : Core) (e : CoreEvent) → IsLegal e → IsLaunchable file s e → IsValid s.desk.exec → IsValid (next file s e).desk.exec

-- each event keeps what holds of the tickets
abbrev pub EventsKeepTickets : Type 0
EventsKeepTickets = (file : Meaning) (s : Core) (e : CoreEvent) → AreTasks s.desk → AreTickets s.desk → AreTickets (next file s e).desk

-- a plan that is to be carried out never meets an unfinished task
abbrev pub PlansMeetNoExecution : Type 0
PlansMeetNoExecution = (d : Desk) (ticket i : ℕ) (ps : List Proposal) → AreTasks d → AreTickets d → holder_of ticket d.jobs ≡ Some i
    → is_done_at_once (user_task_at d.tasks i) ps ≡ false → first_unfinished d.exec ≡ None

-- the settled lists belong to the cluster, so those that a planner is given do
abbrev pub SettledListsBelong : Type 0
SettledListsBelong = (c : Cluster) (s : State) → IsExecOf c s → Belongs c (settled_lists s)

-- each legal event keeps what is sound, from any state that is sound
abbrev pub EachEventKeeps : Type 0
EachEventKeeps = (file : Meaning) (s : Core) (e : CoreEvent) → IsInput file → IsLegal e → IsSound file s.desk → IsSound file (next file s e).desk

-- the opening state is sound
abbrev pub OpeningIsSound : Type 0
OpeningIsSound = (file : Meaning) → IsInput file → IsSound file (opening_of file).desk

-- so each list of legal events leads from the opening of a cluster file to a sound state
abbrev pub HistoriesAreSound : Type 0
HistoriesAreSound = (file : Meaning) (events : List CoreEvent) → IsInput file → AreLegal events → IsSound file (state_after file events).desk
