-- What one event does: to the executor, to the work that is left, and to the state where it is refused.
use Rattle.std.specs.Prelude.{◌≡◌, ℕ, ◌<◌, ◌≤◌, ◌⊎◌, Bool, true, false, List, [], ◌∷◌, length, None}
use Rattle.std.specs.List.{All, count_by, list_any}
use Rattle.cluster_json.specs.File.{Meaning}
use Rattle.goal_set.specs.Kept.{PlanView, IsPlan}
use Rattle.exec_terms.specs.CapLaws.{starts, StartKeepsCaps, NoCountRises, IsNoLower}
use Rattle.exec_terms.specs.Machine.{State, any_unfinished, list_now, lists_now, task_at}
use Rattle.exec_terms.specs.ListLaws.{is_drained}
use Rattle.exec_terms.specs.Settled.{settled_lists}
use Rattle.exec_terms.specs.Runs.{Event as Move, CapsSet, Take, Copied, CopyFailed, Committed, Cancelled, GivenBack, Stops, Killed, Launched, CanHappen, after_event}
use Rattle.exec_terms.specs.Valid.{AreCapsKept, work_left}
use Rattle.exec_terms.specs.Words.{is_free, list_shown}
use Rattle.exec_terms.specs.declared.replies.Given.{Given}
use Rattle.cluster_gate.specs.Receipts.{ReceiptView}
use Rattle.core_terms.specs.Caps.{CapsAsked}
use Rattle.core_terms.specs.Input.{IsInput}
use Rattle.core_terms.specs.State.{Core, Desk, moment_of, opening_of}
use Rattle.core_terms.specs.Jobs.{executing, plans_execution}
use Rattle.core_terms.specs.Submits.{MayChange}
use Rattle.core_terms.specs.Plans.{MayPlan}
use Rattle.user_tasks.specs.Asks.{AskView, changes_factor}
use Rattle.core_terms.specs.Step.{reply_of, next}
use Rattle.core_terms.specs.History.{AreLegal, IsLegal, is_refusal, state_after}
use Rattle.core_terms.specs.Sound.{AreTasks, IsSound}
use Rattle.core_terms.specs.declared.events.Event.{Event}
use Rattle.core_terms.specs.declared.events.Event.TheVariants as event
use Rattle.core_terms.specs.declared.replies.Reply.{Reply}
use Rattle.core_terms.specs.declared.replies.Reply.TheVariants as reply

-- where a plan is brought for a job as it is now, and is to be carried out, no task is unfinished and it can be launched: so it adds
-- no lost broker
abbrev pub PlansCanBeLaunched : Type 0
PlansCanBeLaunched = (file : Meaning) (s : Core) (ticket : ℕ) (p : PlanView) → IsInput file → IsPlan p → IsSound file s.desk → MayPlan (moment_of file s).cluster s.desk ticket p

-- where a change of the replication factor is taken and is to be carried out, no task is unfinished and it can be launched: so it adds
-- no lost broker
abbrev pub ChangesCanBeLaunched : Type 0
ChangesCanBeLaunched = (file : Meaning) (s : Core) (ask : AskView) → IsInput file → IsSound file s.desk → MayChange (moment_of file s) s.desk ask

-- the events that may launch an execution: a plan, and a request for another replication factor, whoever makes it
abbrev pub may_launch : Event → Bool
may_launch (event.Planned ticket plan) = true
may_launch (event.Submit ask key) = changes_factor ask
may_launch (event.Heal cause ask) = changes_factor ask
may_launch _ = false

-- the event of the executor that goes with an event: the one of its name; a launch goes with those that may launch
abbrev pub Fits : Event → Move → Type 0
Fits e Take = e ≡ event.Take
Fits e (Copied lease) = (receipt : ReceiptView) × (e ≡ event.Copied receipt) × (receipt.lease ≡ lease)
Fits e (CopyFailed lease) = e ≡ event.CopyFailed lease
Fits e (Committed lease) = e ≡ event.Commit lease
Fits e (Cancelled lease) = e ≡ event.Cancel lease
Fits e (GivenBack lease) = e ≡ event.GiveBack lease
Fits e (Stops force) = e ≡ event.Stop force
Fits e (Killed broker) = e ≡ event.Kill broker
Fits e (Launched proposals) = may_launch e ≡ true
Fits e (CapsSet caps) = (asked : CapsAsked) × (e ≡ event.Caps asked)

-- what an event does to the executor: nothing, or what the executor's event does that goes with it
abbrev pub IsMove : Event → State → State → Type 0
IsMove e s u = (u ≡ s) ⊎ ((m : Move) × Fits e m × CanHappen s m × (u ≡ after_event s m))

-- each legal event does no more
abbrev pub EventsMoveExecutor : Type 0
EventsMoveExecutor = (file : Meaning) (s : Core) (e : Event) → IsInput file → IsLegal e → IsSound file s.desk → IsMove e s.desk.exec (next file s e).desk.exec

-- whatever event starts a task leaves the caps in force kept for it
abbrev pub StartsKeepCapsInForce : Type 0
StartsKeepCapsInForce = (file : Meaning) (s : Core) (e : Event) (i : ℕ) → IsInput file → IsLegal e → IsSound file s.desk → i < length s.desk.exec.tasks
    → starts s.desk.exec (next file s e).desk.exec i ≡ true → StartKeepsCaps s.desk.exec (next file s e).desk.exec i

-- an event that starts no task raises no number of tasks in flight
abbrev pub OthersRaiseNone : Type 0
OthersRaiseNone = (file : Meaning) (s : Core) (e : Event) → IsInput file → IsLegal e → IsSound file s.desk
    → ((i : ℕ) → i < length s.desk.exec.tasks → starts s.desk.exec (next file s e).desk.exec i ≡ false) → NoCountRises s.desk.exec (next file s e).desk.exec

-- no event but one that may launch raises the work that is left
abbrev pub OnlyLaunchesRaiseWork : Type 0
OnlyLaunchesRaiseWork = (file : Meaning) (s : Core) (e : Event) → IsInput file → IsLegal e → IsSound file s.desk → may_launch e ≡ false → work_left (next file s e).desk.exec ≤ work_left s.desk.exec

-- the events that end a lease with what came of its work
abbrev pub ends_work : Event → Bool
ends_work (event.Copied receipt) = true
ends_work (event.CopyFailed lease) = true
ends_work (event.Commit lease) = true
ends_work (event.Cancel lease) = true
ends_work _ = false

-- no task holds the lease for this work
abbrev pub is_stale : Reply → Bool
is_stale (reply.Stale last) = true
is_stale _ = false

-- each of them, where it isn't stale, lowers the work that is left
abbrev pub EndedWorkIsLess : Type 0
EndedWorkIsLess = (file : Meaning) (s : Core) (e : Event) → IsSound file s.desk → ends_work e ≡ true → is_stale (reply_of file s e) ≡ false → work_left (next file s e).desk.exec < work_left s.desk.exec

-- where a task is unfinished and no lease is out, there is work to take
abbrev pub WorkIsThere : Type 0
WorkIsThere = (file : Meaning) (s : Core) → IsSound file s.desk → any_unfinished s.desk.exec.tasks ≡ true → All (λ t. is_free t.lease ≡ true) s.desk.exec.tasks
    → (g : Given) × (reply_of file s event.Take ≡ reply.Work g)

-- an event that is refused changes nothing
abbrev pub RefusalsKeepState : Type 0
RefusalsKeepState = (file : Meaning) (s : Core) (e : Event) → is_refusal (reply_of file s e) ≡ true → next file s e ≡ s

-- a request, whoever makes it
abbrev pub is_request : Event → Bool
is_request (event.Submit ask key) = true
is_request (event.Heal cause ask) = true
is_request _ = false

-- another one is in the way
abbrev pub is_executing : Reply → Bool
is_executing (reply.Executing id) = true
is_executing _ = false

-- only a request meets one that is being carried out
abbrev pub OnlyRequestsMeetExecution : Type 0
OnlyRequestsMeetExecution = (file : Meaning) (s : Core) (e : Event) → is_executing (reply_of file s e) ≡ true → is_request e ≡ true

-- where nothing stands in the way of a request, no task is unfinished and no plan is being made that is to be carried out
abbrev pub ExecutingIsExact : Type 0
ExecutingIsExact = (d : Desk) → AreTasks d → executing d ≡ None → (count_by plans_execution d.tasks ≡ 0) × (any_unfinished d.exec.tasks ≡ false)

-- the event is Close
abbrev pub is_close : Event → Bool
is_close event.Close = true
is_close _ = false

-- requests end only after a Close
abbrev pub ClosingWasAsked : Type 0
ClosingWasAsked = (file : Meaning) (events : List Event) → (state_after file events).desk.closing ≡ true → list_any is_close events ≡ true

-- the lists of the partitions: that of a task's partition by its phase, the old one, the new one or both; each with 1 to 16 members;
-- and once no task is in flight, none is of both
pub record AreListsShown (s : State) : Type 0 where
  pub phases : (i : ℕ) → i < length s.tasks → list_now s (task_at s.tasks i).part ≡ list_shown (task_at s.tasks i)
  pub short : (p : ℕ) → p < length s.base → (1 ≤ length (list_now s p)) × (length (list_now s p) ≤ 16)
  pub drained : is_drained s ≡ true → lists_now s ≡ settled_lists s

-- so after each legal history
abbrev pub HistoriesShowLists : Type 0
HistoriesShowLists = (file : Meaning) (events : List Event) → IsInput file → AreLegal events → AreListsShown (state_after file events).desk.exec

-- no event of the list lowers a cap that is in force when it comes
abbrev pub LowersNoCap : Meaning → Core → List Event → Type 0
LowersNoCap file s [] = Unit {0}
LowersNoCap file s (e ∷ es) = IsNoLower s.desk.exec.caps (next file s e).desk.exec.caps × LowersNoCap file (next file s e) es

-- where none lowers a cap, the caps in force are kept after each legal history
abbrev pub HistoriesKeepCaps : Type 0
HistoriesKeepCaps = (file : Meaning) (events : List Event) → IsInput file → AreLegal events → LowersNoCap file (opening_of file) events
    → AreCapsKept (state_after file events).desk.exec.caps (state_after file events).desk.exec.tasks
