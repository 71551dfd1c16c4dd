-- What holds of the lists of the partitions: in flight, once no task is in flight, and without a task.
use Rattle.std.specs.Prelude.{◌≡◌, ℕ, ◌<◌, ◌≤◌, Bool, true, not, length, None}
use Rattle.std.specs.List.{All, list_any, position}
use Rattle.plan_terms.specs.Belongs.{IsReplicaList}
use Rattle.exec_terms.specs.Words.{in_flight, is_on, union_of}
use Rattle.exec_terms.specs.Machine.{State, list_now, lists_now}
use Rattle.exec_terms.specs.Settled.{settled_lists}
use Rattle.exec_terms.specs.Valid.{IsValid}
use Rattle.exec_terms.specs.Runs.{Event, CanHappen, after_event}

-- the list of a partition that is being moved has at most 16 members
abbrev pub UnionsAreShort : Type 0
UnionsAreShort = (s : State) → IsValid s → All (λ t. length (union_of t) ≤ 16) s.tasks

-- so the list of each partition has 1 to 16 members
abbrev pub ListsAreShort : Type 0
ListsAreShort = (s : State) (p : ℕ) → IsValid s → p < length s.base → (1 ≤ length (list_now s p)) × (length (list_now s p) ≤ 16)

-- no task is in flight
abbrev pub is_drained : State → Bool
is_drained s = not (list_any (λ t. in_flight t.phase) s.tasks)

-- once no task is in flight no list is a union: each is its partition's settled list
abbrev pub DrainedListsAreSettled : Type 0
DrainedListsAreSettled = (s : State) → IsValid s → is_drained s ≡ true → lists_now s ≡ settled_lists s

-- each settled list has 1 to 8 distinct members
abbrev pub SettledListsAreReplicaLists : Type 0
SettledListsAreReplicaLists = (s : State) → IsValid s → All IsReplicaList (settled_lists s)

-- a partition without a task keeps its list over every event
abbrev pub OthersKeepLists : Type 0
OthersKeepLists = (s : State) (e : Event) (p : ℕ) → CanHappen s e → IsValid s → p < length s.base → position (is_on p) s.tasks ≡ None → list_now (after_event s e) p ≡ list_now s p
