-- Lists of events, and what holds of the executor after each.
use Rattle.std.specs.Prelude.{◌≡◌, ℕ, ◌<◌, ◌≤◌, Bool, true, false, ◌==◌, IsOk, Result, Ok, Err, Option, Some, List, [], ◌∷◌, length, map}
use Rattle.std.specs.List.{All, filter, list_all, count_by}
use Rattle.plan_terms.specs.Belongs.{IsReplicaList}
use Rattle.plan_terms.specs.Cluster.{Cluster, Lists, has}
use Rattle.plan_terms.specs.States.{is_dead}
use Rattle.exec_terms.specs.Words.{is_free, needs, list_shown}
use Rattle.exec_terms.specs.Machine.{State, task_at, list_now, task_of, any_unfinished, next_work, after_take, after_launch, after_caps}
use Rattle.exec_terms.specs.Leases.{test_lease, after_copied, after_copy_failed, after_commit, after_cancel, end_lease}
use Rattle.exec_terms.specs.Stops.{is_host, after_stop, after_kill}
use Rattle.exec_terms.specs.Valid.{IsValid, work_left}
use Rattle.plan_terms.specs.declared.settings.Caps.{Caps}
use Rattle.exec_terms.specs.declared.brokers.Host.{Host}
use Rattle.plan_terms.specs.declared.lists.Proposal.{Proposal}
use Rattle.exec_terms.specs.declared.work.WorkKind.TheVariants.{Copy as ForCopy, Commit as ForCommit, Cancel as ForCancel}
use Rattle.exec_terms.specs.declared.replies.LaunchFault.{LaunchFault}
use Rattle.exec_terms.specs.declared.replies.LaunchFault.TheVariants.{Memory, Executing}
use Rattle.exec_terms.specs.declared.replies.LeaseFault.{LeaseFault}
use Rattle.exec_terms.specs.declared.replies.LeaseFault.TheVariants.{Stale, AbortAsked}

-- what may happen to the executor
pub data Event : Type 0 where
  Take : Event
  Copied : (lease : ℕ) → Event
  CopyFailed : (lease : ℕ) → Event
  Committed : (lease : ℕ) → Event
  Cancelled : (lease : ℕ) → Event
  GivenBack : (lease : ℕ) → Event
  Stops : (force : Bool) → Event
  Killed : (broker : ℕ) → Event
  Launched : (proposals : List Proposal) → Event
  CapsSet : (caps : Caps) → Event

-- what a launch asks: at most 10,000 proposals of partitions that differ, each with the list that its partition has now and a
-- replica list of known brokers that it is to have, and no dead broker that is needed
pub record CanLaunch (s : State) (proposals : List Proposal) : Type 0 where
  pub few : length proposals ≤ 10000
  pub known : All (λ p. p.part < length s.base) proposals
  pub before : All (λ p. p.before ≡ list_now s p.part) proposals
  pub lists : All (λ p. IsReplicaList p.after) proposals
  pub brokers : All (λ p. list_all (is_host s.hosts) p.after ≡ true) proposals
  pub distinct : (n : ℕ) → count_by (λ p. p.part == n) proposals ≤ 1
  pub alive : All (λ p. All (λ h. h.dead ≡ true → needs (task_of s.chunks p) h.id ≡ false) s.hosts) proposals

-- a launch has its conditions, and caps that are set are at least 1; every other event may come in every state
abbrev pub CanHappen : State → Event → Type 0
CanHappen s Take = Unit {0}
CanHappen s (Copied lease) = Unit {0}
CanHappen s (CopyFailed lease) = Unit {0}
CanHappen s (Committed lease) = Unit {0}
CanHappen s (Cancelled lease) = Unit {0}
CanHappen s (GivenBack lease) = Unit {0}
CanHappen s (Stops force) = Unit {0}
CanHappen s (Killed broker) = Unit {0}
CanHappen s (Launched proposals) = CanLaunch s proposals
CanHappen s (CapsSet caps) = (1 ≤ caps.broker) × (1 ≤ caps.cluster) × (1 ≤ caps.leader)

-- the state after an event
abbrev pub after_event : State → Event → State
after_event s Take = after_take s
after_event s (Copied lease) = after_copied s lease
after_event s (CopyFailed lease) = after_copy_failed s lease
after_event s (Committed lease) = after_commit s lease
after_event s (Cancelled lease) = after_cancel s lease
after_event s (GivenBack lease) = end_lease s lease
after_event s (Stops force) = after_stop s force
after_event s (Killed broker) = after_kill s broker
after_event s (Launched proposals) = after_launch s proposals
after_event s (CapsSet caps) = after_caps s caps

-- the state after events, one after another
abbrev pub after_events : State → List Event → State
after_events s [] = s
after_events s (e ∷ es) = after_events (after_event s e) es

-- each event may come where it comes
abbrev pub CanAllHappen : State → List Event → Type 0
CanAllHappen s [] = Unit {0}
CanAllHappen s (e ∷ es) = CanHappen s e × CanAllHappen (after_event s e) es

-- the brokers, each with whether it is among the dead ones
abbrev pub hosts_of : List ℕ → List ℕ → List Host
hosts_of brokers dead = map (λ b. record { id = b; dead = has dead b }) brokers

-- a new executor: no task, no lease
abbrev pub new_state : Lists → List ℕ → Caps → List Host → State
new_state lists chunks caps hosts = record { base = lists; chunks = chunks; caps = caps; hosts = hosts; tasks = []; stopped = false; leases = 0 }

-- a new executor of a case and these lists: its lost brokers are dead
abbrev pub opening : Cluster → Lists → Caps → State
opening c lists caps = new_state lists (map (λ p. p.chunks) c.parts) caps (hosts_of (map (λ b. b.id) c.brokers) (map (λ b. b.id) (filter (λ b. is_dead b.state) c.brokers)))

-- each event keeps what is valid, whatever valid state it meets
abbrev pub EachEventKeeps : Type 0
EachEventKeeps = (s : State) (e : Event) → CanHappen s e → IsValid s → IsValid (after_event s e)

-- so every list of events leads from a new executor to a valid state
abbrev pub RunsAreValid : Type 0
RunsAreValid = (lists : Lists) (chunks : List ℕ) (caps : Caps) (hosts : List Host) (events : List Event)
    → All IsReplicaList lists → All (λ n. n ≤ 1000) chunks → 1 ≤ caps.broker → 1 ≤ caps.cluster → 1 ≤ caps.leader
    → CanAllHappen (new_state lists chunks caps hosts) events
    → IsValid (after_events (new_state lists chunks caps hosts) events)

-- an event with a lease that is answered something else than Stale
abbrev pub IsAnswered : {R : Type 0} → Result R LeaseFault → Type 0
IsAnswered (Ok r) = Unit {0}
IsAnswered (Err AbortAsked) = Unit {0}
IsAnswered (Err (Stale n)) = ⊥

-- each of the four kinds of event, where it is answered, lowers the work that is left
abbrev pub EventsLower : Type 0
EventsLower = (s : State) (lease : ℕ) → IsValid s
    → (IsAnswered (test_lease s lease ForCopy) → (work_left (after_copied s lease) < work_left s) × (work_left (after_copy_failed s lease) < work_left s))
    × (IsAnswered (test_lease s lease ForCommit) → work_left (after_commit s lease) < work_left s)
    × (IsAnswered (test_lease s lease ForCancel) → work_left (after_cancel s lease) < work_left s)

-- the event is a launch
abbrev pub IsLaunch : Event → Type 0
IsLaunch Take = ⊥
IsLaunch (Copied lease) = ⊥
IsLaunch (CopyFailed lease) = ⊥
IsLaunch (Committed lease) = ⊥
IsLaunch (Cancelled lease) = ⊥
IsLaunch (GivenBack lease) = ⊥
IsLaunch (Stops force) = ⊥
IsLaunch (Killed broker) = ⊥
IsLaunch (Launched proposals) = Unit {0}
IsLaunch (CapsSet caps) = ⊥

-- no event but a launch raises it
abbrev pub NoEventRaises : Type 0
NoEventRaises = (s : State) (e : Event) → (IsLaunch e → ⊥) → IsValid s → work_left (after_event s e) ≤ work_left s

-- where none is left no task is unfinished
abbrev pub NoneLeftIsDone : Type 0
NoneLeftIsDone = (s : State) → work_left s ≡ 0 → any_unfinished s.tasks ≡ false

-- where a task is unfinished and no lease is out, take gives work
abbrev pub TakeGives : Type 0
TakeGives = (s : State) → IsValid s → any_unfinished s.tasks ≡ true → All (λ t. is_free t.lease ≡ true) s.tasks → IsOk (next_work s)

-- a launch is refused by the first unfinished task; want of memory may come otherwise
abbrev pub IsExecuting : Option ℕ → LaunchFault → Type 0
IsExecuting first Memory = Unit {0}
IsExecuting first (Executing i) = first ≡ Some i

-- the list of a partition with a task is that of the task's phase
abbrev pub ListsShowPhases : Type 0
ListsShowPhases = (s : State) (i : ℕ) → IsValid s → i < length s.tasks → list_now s (task_at s.tasks i).part ≡ list_shown (task_at s.tasks i)

-- a launch changes no list
abbrev pub LaunchKeepsLists : Type 0
LaunchKeepsLists = (s : State) (proposals : List Proposal) (p : ℕ) → CanLaunch s proposals → p < length s.base → list_now (after_launch s proposals) p ≡ list_now s p
