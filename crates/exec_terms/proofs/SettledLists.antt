-- The lists of the partitions: settled, and now.
use Rattle.std.proofs.Common.{◌≡◌, ℕ, ◌<◌, ◌≤◌, false, List, [], length, arith, refl, length-append}
use Rattle.std.specs.Prelude.{Option, Some, None}
use Rattle.std.specs.List.{All, position}
use Rattle.std.proofs.lemmas.Bool.{true≢false, or_parts}
use Rattle.std.proofs.lemmas.List.Quantifiers.{position-Some}
use Rattle.plan_terms.specs.Belongs.{IsReplicaList}
use Rattle.plan_terms.specs.Change.{added, union}
use Rattle.exec_terms.specs.declared.phase.Phase.{Phase}
use Rattle.exec_terms.specs.declared.phase.Phase.TheVariants.{Pending, InProgress, Aborting, Aborted, Completed, Dead}
use Rattle.exec_terms.specs.Words.{in_flight, is_unfinished, is_on, list_in}
use Rattle.exec_terms.specs.Machine.{State, no_task, task_at, list_by, list_now, first_unfinished}
use Rattle.exec_terms.specs.Settled.{settled_in, settled_by, settled}
use Rattle.exec_terms.specs.Valid.{IsValid}
use Rattle.exec_terms.proofs.Copies.{added_le}
use Rattle.exec_terms.proofs.WorkLeft.{position-None}

-- a settled list is one of the task's two
settled_in_is : (p : Phase) (before after : List ℕ) → IsReplicaList before → IsReplicaList after → IsReplicaList (settled_in p before after)
settled_in_is Pending before after b a = b
settled_in_is InProgress before after b a = b
settled_in_is Aborting before after b a = b
settled_in_is Aborted before after b a = b
settled_in_is Completed before after b a = a
settled_in_is Dead before after b a = b

-- each settled list is a replica list
pub settled_is : (s : State) (p : ℕ) → IsValid s → p < length s.base → IsReplicaList (settled s p)
settled_is s p v l = by (position (is_on p) s.tasks) refl where
  by : (o : Option ℕ) → position (is_on p) s.tasks ≡ o → IsReplicaList (settled_by s p o)
  by None e = v.base_lists p [] l
  by (Some i) e =
      let t = v.each i no_task (position-Some (is_on p) s.tasks i no_task e).0 in
      settled_in_is (task_at s.tasks i).phase (task_at s.tasks i).before (task_at s.tasks i).after t.before_is t.after_is

-- out of flight a task's list is the settled one
list_in_settled : (p : Phase) (before after : List ℕ) → in_flight p ≡ false → list_in p before after ≡ settled_in p before after
list_in_settled Pending before after f = refl
list_in_settled InProgress before after f = absurd (true≢false f)
list_in_settled Aborting before after f = absurd (true≢false f)
list_in_settled Aborted before after f = refl
list_in_settled Completed before after f = refl
list_in_settled Dead before after f = refl

-- so is each partition's where no task is in flight
pub list_settled : (s : State) → All (λ t. in_flight t.phase ≡ false) s.tasks → (p : ℕ) → list_now s p ≡ settled s p
list_settled s none p = by (position (is_on p) s.tasks) refl where
  by : (o : Option ℕ) → position (is_on p) s.tasks ≡ o → list_by s p o ≡ settled_by s p o
  by None e = refl
  by (Some i) e = list_in_settled (task_at s.tasks i).phase (task_at s.tasks i).before (task_at s.tasks i).after (none i no_task (position-Some (is_on p) s.tasks i no_task e).0)

-- between two executions no task is in flight
pub none_flies : (s : State) → first_unfinished s ≡ None → All (λ t. in_flight t.phase ≡ false) s.tasks
none_flies s none = λ k d l. (or_parts _ _ (position-None (λ t. is_unfinished t.phase) s.tasks k d none l)).1

-- the union of two replica lists
pub union_short : (before after : List ℕ) → IsReplicaList before → IsReplicaList after → (1 ≤ length (union before after)) × (length (union before after) ≤ 16)
union_short before after b a = (
  omega (arith, length-append before (added before after), b.some),
  omega (arith, length-append before (added before after), added_le before after, b.few, a.few),
)

replica_short : (list : List ℕ) → IsReplicaList list → (1 ≤ length list) × (length list ≤ 16)
replica_short list h = (h.some, omega (arith, h.few))

-- the list of a task's partition, in whatever phase
list_in_short : (p : Phase) (before after : List ℕ) → IsReplicaList before → IsReplicaList after → (1 ≤ length (list_in p before after)) × (length (list_in p before after) ≤ 16)
list_in_short Pending before after b a = replica_short before b
list_in_short InProgress before after b a = union_short before after b a
list_in_short Aborting before after b a = union_short before after b a
list_in_short Aborted before after b a = replica_short before b
list_in_short Completed before after b a = replica_short after a
list_in_short Dead before after b a = replica_short before b

pub list_short : (s : State) (p : ℕ) → IsValid s → p < length s.base → (1 ≤ length (list_now s p)) × (length (list_now s p) ≤ 16)
list_short s p v l = by (position (is_on p) s.tasks) refl where
  by : (o : Option ℕ) → position (is_on p) s.tasks ≡ o → (1 ≤ length (list_by s p o)) × (length (list_by s p o) ≤ 16)
  by None e = replica_short _ (v.base_lists p [] l)
  by (Some i) e =
      let t = v.each i no_task (position-Some (is_on p) s.tasks i no_task e).0 in
      list_in_short (task_at s.tasks i).phase (task_at s.tasks i).before (task_at s.tasks i).after t.before_is t.after_is
