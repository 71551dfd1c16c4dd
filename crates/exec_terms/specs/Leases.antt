-- What a lease is worth, and the events that end one: for each the state afterwards and the reply.
use Rattle.std.specs.Prelude.{ℕ, ◌+◌, true, false, not, ◌&&◌, nat_lt, if◌then◌else◌, Option, Some, None, Result, Ok, Err}
use Rattle.std.specs.Option.{option_map}
use Rattle.std.specs.List.{position}
use Rattle.exec_terms.specs.Words.{is_aborting, copies_left, is_cancel, holds, holds_for}
use Rattle.exec_terms.specs.declared.phase.Phase.{Phase}
use Rattle.exec_terms.specs.declared.phase.Phase.TheVariants.{Aborting, Aborted, Completed, Dead}
use Rattle.exec_terms.specs.declared.work.WorkKind.{WorkKind}
use Rattle.exec_terms.specs.declared.work.WorkKind.TheVariants.{Copy as ForCopy, Commit as ForCommit, Cancel as ForCancel}
use Rattle.exec_terms.specs.declared.work.Lease.{Lease}
use Rattle.exec_terms.specs.declared.task.Task.{Task}
use Rattle.exec_terms.specs.declared.replies.Given.{Given}
use Rattle.exec_terms.specs.declared.replies.LeaseFault.{LeaseFault}
use Rattle.exec_terms.specs.declared.replies.LeaseFault.TheVariants.{Stale, AbortAsked}
use Rattle.exec_terms.specs.declared.replies.Left.{Left}
use Rattle.exec_terms.specs.declared.replies.Faults.{Faults}
use Rattle.exec_terms.specs.Machine.{task_at, State, with_task}

-- what a lease is worth, by the place of the task that holds it
abbrev pub tested : State → WorkKind → Option ℕ → Result ℕ LeaseFault
tested s kind None = Err (Stale s.leases)
tested s kind (Some i) = if is_aborting (task_at s.tasks i).phase && not (is_cancel kind) then Err AbortAsked else Ok i

-- what a lease for a kind of work is worth: its task, or why not
unfoldable pub test_lease : State → ℕ → WorkKind → Result ℕ LeaseFault
test_lease s lease kind = tested s kind (position (holds_for lease kind) s.tasks)

-- the task without its lease
abbrev pub released : Task → Task
released t = record t { lease = None }

-- the lease of the task at this place ends
abbrev pub ended_at : State → Option ℕ → State
ended_at s None = s
ended_at s (Some i) = with_task s i (released (task_at s.tasks i))

-- the lease ends, whatever it was for
unfoldable pub end_lease : State → ℕ → State
end_lease s lease = ended_at s (position (holds lease) s.tasks)

-- an event with a lease that is worth its task changes that task alone; one that is answered AbortAsked ends the lease
abbrev pub ended : (Task → Task) → State → ℕ → Result ℕ LeaseFault → State
ended f s lease (Ok i) = with_task s i (f (task_at s.tasks i))
ended f s lease (Err AbortAsked) = end_lease s lease
ended f s lease (Err (Stale n)) = s

-- one copy more is done
abbrev pub one_copied : Task → Task
one_copied t = record t { done = t.done + 1; lease = None }

-- one copy more has failed; the third dooms the task
abbrev pub one_failed : Task → Task
one_failed t =
    if nat_lt (t.faults + 1) 3
    then record t { faults = t.faults + 1; lease = None }
    else record t { faults = t.faults + 1; phase = Aborting; doomed = true; lease = None }

-- the new list is the list
abbrev pub committed : Task → Task
committed t = record t { phase = Completed; lease = None }

-- what a cancelled task ends as
abbrev pub phase_cancelled : Task → Phase
phase_cancelled t = if t.doomed then Dead else Aborted

-- the old list is the list again
abbrev pub cancelled : Task → Task
cancelled t = record t { phase = phase_cancelled t; lease = None }

-- a copy was made
abbrev pub after_copied : State → ℕ → State
after_copied s lease = ended one_copied s lease (test_lease s lease ForCopy)

-- a copy failed
abbrev pub after_copy_failed : State → ℕ → State
after_copy_failed s lease = ended one_failed s lease (test_lease s lease ForCopy)

-- a commit was made
abbrev pub after_commit : State → ℕ → State
after_commit s lease = ended committed s lease (test_lease s lease ForCommit)

-- a cancel was made
abbrev pub after_cancel : State → ℕ → State
after_cancel s lease = ended cancelled s lease (test_lease s lease ForCancel)

-- the reply of such an event: made of the task, or the fault
abbrev pub reply_by : {R : Type 0} → (Task → R) → State → Result ℕ LeaseFault → Result R LeaseFault
reply_by f s (Ok i) = Ok (f (task_at s.tasks i))
reply_by f s (Err fault) = Err fault

-- how many copies are left
abbrev pub copied_reply : State → ℕ → Result Left LeaseFault
copied_reply s lease = reply_by (λ t. record { 0 = copies_left (one_copied t) }) s (test_lease s lease ForCopy)

-- nothing but that the lease was worth its task
abbrev pub commit_reply : State → ℕ → Result (Unit {0}) LeaseFault
commit_reply s lease = reply_by (λ t. tt) s (test_lease s lease ForCommit)

-- how many copies have failed
abbrev pub copy_failed_reply : State → ℕ → Result Faults LeaseFault
copy_failed_reply s lease = reply_by (λ t. record { 0 = t.faults + 1 }) s (test_lease s lease ForCopy)

-- what the task ended as
abbrev pub cancel_reply : State → ℕ → Result Phase LeaseFault
cancel_reply s lease = reply_by phase_cancelled s (test_lease s lease ForCancel)

-- whether some task holds the lease, by its place
abbrev pub give_back_reply_by : State → Option ℕ → Result (Unit {0}) LeaseFault
give_back_reply_by s None = Err (Stale s.leases)
give_back_reply_by s (Some i) = Ok tt

-- whether a task holds the lease
abbrev pub give_back_reply : State → ℕ → Result (Unit {0}) LeaseFault
give_back_reply s lease = give_back_reply_by s (position (holds lease) s.tasks)

-- the work that a lease is for, by the task that holds it
abbrev pub given_under : ℕ → Task → Lease → Given
given_under i t l = record { lease = l.number; task = i; part = t.part; work = l.work; starts = false }

-- what the lease of the task is for
abbrev pub held_for : ℕ → Task → Option Given
held_for i t = option_map (given_under i t) t.lease

-- what the lease of the task at this place is for
abbrev pub held_by : State → Option ℕ → Option Given
held_by s None = None
held_by s (Some i) = held_for i (task_at s.tasks i)

-- what the lease is for
abbrev pub held : State → ℕ → Option Given
held s lease = held_by s (position (holds lease) s.tasks)
