-- What holds of the caps, which may change while tasks are in flight.
use Rattle.std.specs.Prelude.{◌≡◌, ℕ, ◌<◌, ◌≤◌, Bool, true, false, ◌&&◌, List, [], ◌∷◌, length}
use Rattle.std.specs.List.{All}
use Rattle.plan_terms.specs.Belongs.{IsReplicaList}
use Rattle.plan_terms.specs.Cluster.{Lists}
use Rattle.plan_terms.specs.declared.settings.Caps.{Caps}
use Rattle.exec_terms.specs.Words.{is_pending, is_in_progress, adds, removes, is_replica_task}
use Rattle.exec_terms.specs.Machine.{State, task_at, adding, removing, replica_tasks, leader_tasks}
use Rattle.exec_terms.specs.Valid.{AreCapsKept, IsValid}
use Rattle.exec_terms.specs.declared.brokers.Host.{Host}
use Rattle.exec_terms.specs.Runs.{Event, Take, Copied, CopyFailed, Committed, Cancelled, GivenBack, Stops, Killed, Launched, CapsSet, CanHappen, CanAllHappen, after_event, after_events, new_state}

-- the task at place i was pending and is in progress now
abbrev pub starts : State → State → ℕ → Bool
starts s u i = is_pending (task_at s.tasks i).phase && is_in_progress (task_at u.tasks i).phase

-- a start leaves the caps in force kept for what it starts: a replica task those of each broker that it adds or removes and that of
-- the cluster, a leadership task that of the leaders
pub record StartKeepsCaps (s u : State) (i : ℕ) : Type 0 where
  pub adding : is_replica_task (task_at u.tasks i) ≡ true → (b : ℕ) → adds (task_at u.tasks i) b ≡ true → adding u.tasks b ≤ s.caps.broker
  pub removing : is_replica_task (task_at u.tasks i) ≡ true → (b : ℕ) → removes (task_at u.tasks i) b ≡ true → removing u.tasks b ≤ s.caps.broker
  pub replica : is_replica_task (task_at u.tasks i) ≡ true → replica_tasks u.tasks ≤ s.caps.cluster
  pub leader : is_replica_task (task_at u.tasks i) ≡ false → leader_tasks u.tasks ≤ s.caps.leader

-- whatever event starts a task
abbrev pub StartsKeepCaps : Type 0
StartsKeepCaps = (s : State) (e : Event) (i : ℕ) → CanHappen s e → IsValid s → i < length s.tasks → starts s (after_event s e) i ≡ true → StartKeepsCaps s (after_event s e) i

-- no number of tasks in flight is greater
pub record NoCountRises (s u : State) : Type 0 where
  pub adding : (b : ℕ) → adding u.tasks b ≤ adding s.tasks b
  pub removing : (b : ℕ) → removing u.tasks b ≤ removing s.tasks b
  pub replica : replica_tasks u.tasks ≤ replica_tasks s.tasks
  pub leader : leader_tasks u.tasks ≤ leader_tasks s.tasks

-- an event that starts no task raises no number
abbrev pub OnlyStartsRaise : Type 0
OnlyStartsRaise = (s : State) (e : Event) → CanHappen s e → IsValid s → ((i : ℕ) → i < length s.tasks → starts s (after_event s e) i ≡ false) → NoCountRises s (after_event s e)

-- the caps in force after an event
abbrev pub caps_after : Caps → Event → Caps
caps_after caps Take = caps
caps_after caps (Copied lease) = caps
caps_after caps (CopyFailed lease) = caps
caps_after caps (Committed lease) = caps
caps_after caps (Cancelled lease) = caps
caps_after caps (GivenBack lease) = caps
caps_after caps (Stops force) = caps
caps_after caps (Killed broker) = caps
caps_after caps (Launched proposals) = caps
caps_after caps (CapsSet new) = new

-- no cap is lower
pub record IsNoLower (old new : Caps) : Type 0 where
  pub broker : old.broker ≤ new.broker
  pub cluster : old.cluster ≤ new.cluster
  pub leader : old.leader ≤ new.leader

-- no event of the list lowers a cap that is in force when it comes
abbrev pub LowersNone : Caps → List Event → Type 0
LowersNone caps [] = Unit {0}
LowersNone caps (e ∷ es) = IsNoLower caps (caps_after caps e) × LowersNone (caps_after caps e) es

-- where none lowers a cap, the caps in force are kept after every list of events from a new executor
abbrev pub RunsKeepCaps : Type 0
RunsKeepCaps = (lists : Lists) (chunks : List ℕ) (caps : Caps) (hosts : List Host) (events : List Event)
    → All IsReplicaList lists → All (λ n. n ≤ 1000) chunks → 1 ≤ caps.broker → 1 ≤ caps.cluster → 1 ≤ caps.leader
    → CanAllHappen (new_state lists chunks caps hosts) events → LowersNone caps events
    → AreCapsKept (after_events (new_state lists chunks caps hosts) events).caps (after_events (new_state lists chunks caps hosts) events).tasks
