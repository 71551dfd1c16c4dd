-- One movement of replicas: its phases, its copies, its lists.
use Rattle.std.specs.Prelude.{ℕ, ◌-◌, Bool, true, false, not, ◌==◌, ◌&&◌, ◌||◌, List, [], ◌∷◌, ◌++◌, length, Option, Some, None, slice_get, zero, suc}
use Rattle.plan_terms.specs.Change.{added, differ, gains, union}
use Rattle.plan_terms.specs.Cluster.{has, leads}
use Rattle.exec_terms.specs.declared.phase.Phase.{Phase}
use Rattle.exec_terms.specs.declared.phase.Phase.TheVariants.{Pending, InProgress, Aborting, Aborted, Completed, Dead}
use Rattle.exec_terms.specs.declared.work.WorkKind.{WorkKind}
use Rattle.exec_terms.specs.declared.work.WorkKind.TheVariants.{Copy as ForCopy, Commit as ForCommit, Cancel as ForCancel}
use Rattle.exec_terms.specs.declared.work.Work.{Work}
use Rattle.exec_terms.specs.declared.work.Work.TheVariants.{Copy, Commit, Cancel}
use Rattle.exec_terms.specs.declared.work.Lease.{Lease}
use Rattle.exec_terms.specs.declared.task.Task.{Task}

-- it has not begun
abbrev pub is_pending : Phase → Bool
is_pending Pending = true
is_pending InProgress = false
is_pending Aborting = false
is_pending Aborted = false
is_pending Completed = false
is_pending Dead = false

-- its replicas are being copied
abbrev pub is_in_progress : Phase → Bool
is_in_progress Pending = false
is_in_progress InProgress = true
is_in_progress Aborting = false
is_in_progress Aborted = false
is_in_progress Completed = false
is_in_progress Dead = false

-- it is to be undone
abbrev pub is_aborting : Phase → Bool
is_aborting Pending = false
is_aborting InProgress = false
is_aborting Aborting = true
is_aborting Aborted = false
is_aborting Completed = false
is_aborting Dead = false

-- it ended with its old list, since the execution was stopped
abbrev pub is_aborted : Phase → Bool
is_aborted Pending = false
is_aborted InProgress = false
is_aborted Aborting = false
is_aborted Aborted = true
is_aborted Completed = false
is_aborted Dead = false

-- it ended with its new list
abbrev pub is_completed : Phase → Bool
is_completed Pending = false
is_completed InProgress = false
is_completed Aborting = false
is_completed Aborted = false
is_completed Completed = true
is_completed Dead = false

-- it ended with its old list, since a broker died or copies failed
abbrev pub has_phase_dead : Phase → Bool
has_phase_dead Pending = false
has_phase_dead InProgress = false
has_phase_dead Aborting = false
has_phase_dead Aborted = false
has_phase_dead Completed = false
has_phase_dead Dead = true

-- a task that is to end as dead is here
abbrev pub may_be_doomed : Phase → Bool
may_be_doomed Pending = false
may_be_doomed InProgress = false
may_be_doomed Aborting = true
may_be_doomed Aborted = false
may_be_doomed Completed = false
may_be_doomed Dead = true

-- the partition is being moved
abbrev pub in_flight : Phase → Bool
in_flight p = is_in_progress p || is_aborting p

-- it has not ended
abbrev pub is_unfinished : Phase → Bool
is_unfinished p = is_pending p || in_flight p

-- the task still goes towards its new list
abbrev pub goes_on : Phase → Bool
goes_on p = is_pending p || is_in_progress p

-- the new list adds the broker
abbrev pub adds : Task → ℕ → Bool
adds t b = gains t.before t.after b

-- the new list leaves the broker out
abbrev pub removes : Task → ℕ → Bool
removes t b = gains t.after t.before b

-- the two lists differ as sets; another task changes the leader or the order alone
abbrev pub is_replica_task : Task → Bool
is_replica_task t = differ t.before t.after

-- the list of the partition, by the phase of its task
abbrev pub list_in : Phase → List ℕ → List ℕ → List ℕ
list_in Pending before after = before
list_in InProgress before after = union before after
list_in Aborting before after = union before after
list_in Aborted before after = before
list_in Completed before after = after
list_in Dead before after = before

-- the list of a partition that is being moved
abbrev pub union_of : Task → List ℕ
union_of t = union t.before t.after

-- the list of its partition
abbrev pub list_shown : Task → List ℕ
list_shown t = list_in t.phase t.before t.after

-- the copies of one broker: its chunks from 0
abbrev pub copies_to : ℕ → ℕ → List Work
copies_to b zero = []
copies_to b (suc n) = copies_to b n ++ Copy b n ∷ []

-- the copies of a task: for each added broker, in order, its chunks
abbrev pub copies_of : List ℕ → ℕ → List Work
copies_of [] chunks = []
copies_of (b ∷ bs) chunks = copies_to b chunks ++ copies_of bs chunks

-- its copies
unfoldable pub copies : Task → List Work
copies t = copies_of (added t.before t.after) t.chunks

-- how many copies are left
unfoldable pub copies_left : Task → ℕ
copies_left t = length (copies t) - t.done

-- the work, or the commit where there is none
abbrev pub or_commit : Option Work → Work
or_commit None = Commit
or_commit (Some w) = w

-- the next copy, or the commit where none is left
unfoldable pub next_step : Task → Work
next_step t = or_commit (slice_get (copies t) t.done)

-- the work is of this kind
abbrev pub is_for : WorkKind → Work → Bool
is_for ForCopy (Copy to chunk) = true
is_for ForCopy Commit = false
is_for ForCopy Cancel = false
is_for ForCommit (Copy to chunk) = false
is_for ForCommit Commit = true
is_for ForCommit Cancel = false
is_for ForCancel (Copy to chunk) = false
is_for ForCancel Commit = false
is_for ForCancel Cancel = true

-- the kind is the cancel
abbrev pub is_cancel : WorkKind → Bool
is_cancel ForCopy = false
is_cancel ForCommit = false
is_cancel ForCancel = true

-- the lease that is out has this number
abbrev pub has_number : ℕ → Option Lease → Bool
has_number n None = false
has_number n (Some l) = l.number == n

-- the lease that is out has this number, and is for this kind of work
abbrev pub has_number_for : ℕ → WorkKind → Option Lease → Bool
has_number_for n kind None = false
has_number_for n kind (Some l) = (l.number == n) && is_for kind l.work

-- no lease is out
abbrev pub is_free : Option Lease → Bool
is_free None = true
is_free (Some l) = false

-- the task holds the lease of this number
abbrev pub holds : ℕ → Task → Bool
holds n t = has_number n t.lease

-- the task holds it for this kind of work
abbrev pub holds_for : ℕ → WorkKind → Task → Bool
holds_for n kind t = has_number_for n kind t.lease

-- it moves this partition
abbrev pub is_on : ℕ → Task → Bool
is_on p t = t.part == p

-- the death of the broker ends the task's way to its new list
abbrev pub needs : Task → ℕ → Bool
needs t b = adds t b || (not (is_replica_task t) && leads t.after b)
