-- What touches the executor: stops, deaths, caps and the work of the movers; and samples.
use Rattle.std.specs.Prelude.{ℕ, Bool, true, false, not, ◌==◌, ◌&&◌, List, [], ◌∷◌, ◌++◌, bytes_eq, Option, Some, None, Result, Ok, Err, if◌then◌else◌}
use Rattle.std.specs.List.{position, count_by, list_any, list_all}
use Rattle.plan_terms.specs.declared.cluster.Part.{Part}
use Rattle.plan_terms.specs.declared.cluster.Loads.{Loads}
use Rattle.plan_terms.specs.declared.settings.Caps.{Caps}
use Rattle.plan_terms.specs.declared.settings.Sample.{Sample}
use Rattle.metric_windows.specs.Samples.{refusal}
use Rattle.metric_windows.specs.declared.fault.SampleFault.{SampleFault}
use Rattle.metric_windows.specs.declared.fault.SampleFault.TheVariants.{TooOld, WindowFull}
use Rattle.cluster_json.specs.File.{Meaning}
use Rattle.cluster_gate.specs.Receipts.{ReceiptView}
use Rattle.exec_terms.specs.Machine.{State, next_work, after_take, after_caps, any_unfinished}
use Rattle.exec_terms.specs.Words.{is_aborted, has_phase_dead, is_completed}
use Rattle.exec_terms.specs.Leases.{held, end_lease, after_copied, copied_reply, after_copy_failed, copy_failed_reply, after_commit, commit_reply, after_cancel, cancel_reply, give_back_reply}
use Rattle.exec_terms.specs.Stops.{after_stop, stop_reply, after_kill, kill_reply}
use Rattle.exec_terms.specs.declared.phase.Phase.{Phase}
use Rattle.exec_terms.specs.declared.task.Task.{Task}
use Rattle.exec_terms.specs.declared.work.Work.{Work}
use Rattle.exec_terms.specs.declared.work.Work.TheVariants.{Copy, Commit, Cancel}
use Rattle.exec_terms.specs.declared.replies.Given.{Given}
use Rattle.exec_terms.specs.declared.replies.Idle.{Idle}
use Rattle.exec_terms.specs.declared.replies.Idle.TheVariants as idle
use Rattle.exec_terms.specs.declared.replies.LeaseFault.{LeaseFault}
use Rattle.exec_terms.specs.declared.replies.LeaseFault.TheVariants.{Stale, AbortAsked}
use Rattle.exec_terms.specs.declared.replies.Left.{Left}
use Rattle.exec_terms.specs.declared.replies.Faults.{Faults}
use Rattle.exec_terms.specs.declared.replies.Stopped.{Stopped}
use Rattle.exec_terms.specs.declared.replies.NothingToStop.{NothingToStop}
use Rattle.exec_terms.specs.declared.replies.Killed.{Killed}
use Rattle.exec_terms.specs.declared.replies.KillFault.{KillFault}
use Rattle.exec_terms.specs.declared.replies.KillFault.TheVariants.{NoSuchBroker, AlreadyDead}
use Rattle.user_tasks.specs.declared.table.Status.TheVariants as status
use Rattle.core_terms.specs.Caps.{CapsAsked, caps_changed}
use Rattle.core_terms.specs.State.{Desk, job_at}
use Rattle.core_terms.specs.Jobs.{is_in_execution, plans_execution, with_job, with_status}
use Rattle.core_terms.specs.declared.jobs.Job.{Job}
use Rattle.core_terms.specs.declared.replies.Reason.{Reason}
use Rattle.core_terms.specs.declared.replies.Reason.TheVariants as reason
use Rattle.core_terms.specs.declared.replies.Reply.{Reply}
use Rattle.core_terms.specs.declared.replies.Reply.TheVariants as reply

-- how many tasks were aborted
abbrev pub aborted_count : List Task → ℕ
aborted_count tasks = count_by (λ t. is_aborted t.phase) tasks

-- how many are dead
abbrev pub dead_count : List Task → ℕ
dead_count tasks = count_by (λ t. has_phase_dead t.phase) tasks

-- another state of the executor
abbrev pub with_exec : Desk → State → Desk
with_exec s e = record s { exec = e }

-- the job at place i, with the numbers of the tasks of its execution that were aborted or are dead
abbrev pub ended_job : Desk → ℕ → Job
ended_job s i = record (job_at s.jobs i) { aborted = aborted_count s.exec.tasks; dead = dead_count s.exec.tasks }

-- the user task at this place ends with its execution: completed where all tasks are, else with the numbers of the others
abbrev pub execution_ended : Desk → Option ℕ → Desk
execution_ended s None = s
execution_ended s (Some i) =
    if list_all (λ t. is_completed t.phase) s.exec.tasks
    then with_status s i status.Completed
    else with_status (with_job s i (ended_job s i)) i status.CompletedWithError

-- the last unfinished task ends
abbrev pub ends_execution : List Task → List Task → Bool
ends_execution old new = any_unfinished old && not (any_unfinished new)

-- the executor moves on; where its last unfinished task ends, so does the user task in execution
abbrev pub moved : Desk → State → Desk
moved s e =
    if ends_execution s.exec.tasks e.tasks
    then execution_ended (with_exec s e) (position (λ t. is_in_execution t.status) s.tasks)
    else with_exec s e

-- a stop
abbrev pub stop_told : Result Stopped NothingToStop → Reply
stop_told (Ok stopped) = reply.Stopped stopped
stop_told (Err nothing) = reply.NothingToStop

abbrev pub reply_stop : Desk → Bool → Reply
reply_stop s force = if s.closing then reply.Closing else stop_told (stop_reply s.exec force)

abbrev pub stopped : Desk → Bool → Desk
stopped s force = if s.closing then s else moved s (after_stop s.exec force)

-- a death
abbrev pub kill_told : ℕ → Result Killed KillFault → Reply
kill_told b (Ok killed) = reply.Killed killed
kill_told b (Err NoSuchBroker) = reply.NoSuchBroker b
kill_told b (Err AlreadyDead) = reply.AlreadyDead b

abbrev pub reply_kill : Desk → ℕ → Reply
reply_kill s b = if s.closing then reply.Closing else kill_told b (kill_reply s.exec b)

abbrev pub killed : Desk → ℕ → Desk
killed s b = if s.closing then s else moved s (after_kill s.exec b)

-- the place of the partition of a topic and number
abbrev pub part_place : List Part → List ℕ → ℕ → Option ℕ
part_place parts topic number = position (λ p. bytes_eq p.topic topic && (p.number == number)) parts

-- a sample: it is added, or left out
abbrev pub sample_told : Option SampleFault → Reply
sample_told None = reply.Sampled
sample_told (Some (TooOld window)) = reply.TooOld window
sample_told (Some WindowFull) = reply.WindowFull

abbrev pub with_sample : List Sample → Sample → Option SampleFault → List Sample
with_sample samples sample None = samples ++ sample ∷ []
with_sample samples sample (Some fault) = samples

abbrev pub sample_at : ℕ → ℕ → Loads → Sample
sample_at p time loads = record { part = p; time = time; loads = loads }

-- why the sample of partition p is left out, if it is
abbrev pub sample_refusal : Meaning → List Sample → ℕ → ℕ → Loads → Option SampleFault
sample_refusal file samples p time loads = refusal file.rules samples (sample_at p time loads)

abbrev pub sampled_reply : Meaning → List Sample → ℕ → Loads → Option ℕ → Reply
sampled_reply file samples time loads None = reply.NoSuchPartition
sampled_reply file samples time loads (Some p) = sample_told (sample_refusal file samples p time loads)

abbrev pub sampled_at : Meaning → List Sample → ℕ → Loads → Option ℕ → List Sample
sampled_at file samples time loads None = samples
sampled_at file samples time loads (Some p) = with_sample samples (sample_at p time loads) (sample_refusal file samples p time loads)

abbrev pub reply_sample : Meaning → Bool → List Sample → List ℕ → ℕ → ℕ → Loads → Reply
reply_sample file closing samples topic number time loads = if closing then reply.Closing else sampled_reply file samples time loads (part_place file.cluster.parts topic number)

abbrev pub sampled : Meaning → Bool → List Sample → List ℕ → ℕ → ℕ → Loads → List Sample
sampled file closing samples topic number time loads = if closing then samples else sampled_at file samples time loads (part_place file.cluster.parts topic number)

-- other caps
abbrev pub caps_of : Desk → CapsAsked → Caps
caps_of s asked = caps_changed s.exec.caps asked

abbrev pub reply_caps : Desk → CapsAsked → Reply
reply_caps s asked = if s.closing then reply.Closing else reply.CapsSet (caps_of s asked)

-- they are in force, and nothing else changes: no task ends
abbrev pub with_caps : Desk → CapsAsked → Desk
with_caps s asked = if s.closing then s else with_exec s (after_caps s.exec (caps_of s asked))

-- why there is no work: where no task is unfinished, a plan may be being made that is to be carried out
abbrev pub reason_of : Bool → Idle → Reason
reason_of planning idle.CapsFull = reason.CapsFull
reason_of planning idle.AllLeased = reason.AllLeased
reason_of planning idle.NoExecution = if planning then reason.Planning else reason.NoExecution

-- a mover takes work
abbrev pub take_told : Bool → Bool → Result Given Idle → Reply
take_told planning closing (Ok given) = reply.Work given
take_told planning closing (Err why) = reply.Idle (reason_of planning why) closing

abbrev pub reply_take : Desk → Reply
reply_take s = take_told (list_any plans_execution s.tasks) s.closing (next_work s.exec)

abbrev pub taken_by : Desk → Desk
taken_by s = moved s (after_take s.exec)

-- the work is this copy
abbrev pub is_copy : Work → ℕ → ℕ → Bool
is_copy (Copy b n) to chunk = (b == to) && (n == chunk)
is_copy Commit to chunk = false
is_copy Cancel to chunk = false

-- the receipt is of the work that its lease is for
abbrev pub is_receipt_of : ReceiptView → Option Given → Bool
is_receipt_of r None = false
is_receipt_of r (Some g) = (g.part == r.part) && is_copy g.work r.to r.chunk

abbrev pub is_receipt : State → ReceiptView → Bool
is_receipt s r = is_receipt_of r (held s r.lease)

-- the fault of a lease
abbrev pub lease_told : LeaseFault → Reply
lease_told (Stale last) = reply.Stale last
lease_told AbortAsked = reply.AbortAsked

-- a copy was made
abbrev pub copied_told : Result Left LeaseFault → Reply
copied_told (Ok left) = reply.Left left.0
copied_told (Err fault) = lease_told fault

abbrev pub reply_copied : Desk → ReceiptView → Reply
reply_copied s r = if is_receipt s.exec r then copied_told (copied_reply s.exec r.lease) else reply.Stale s.exec.leases

abbrev pub copied : Desk → ReceiptView → Desk
copied s r = if is_receipt s.exec r then moved s (after_copied s.exec r.lease) else s

-- a copy failed
abbrev pub failed_told : Result Faults LeaseFault → Reply
failed_told (Ok faults) = reply.Faults faults.0
failed_told (Err fault) = lease_told fault

abbrev pub reply_copy_failed : Desk → ℕ → Reply
reply_copy_failed s lease = failed_told (copy_failed_reply s.exec lease)

abbrev pub copy_failed : Desk → ℕ → Desk
copy_failed s lease = moved s (after_copy_failed s.exec lease)

-- the new list is the list
abbrev pub commit_told : Result (Unit {0}) LeaseFault → Reply
commit_told (Ok done) = reply.Committed
commit_told (Err fault) = lease_told fault

abbrev pub reply_commit : Desk → ℕ → Reply
reply_commit s lease = commit_told (commit_reply s.exec lease)

abbrev pub committed_by : Desk → ℕ → Desk
committed_by s lease = moved s (after_commit s.exec lease)

-- the old list is the list again
abbrev pub cancel_told : Result Phase LeaseFault → Reply
cancel_told (Ok phase) = reply.Cancelled phase
cancel_told (Err fault) = lease_told fault

abbrev pub reply_cancel : Desk → ℕ → Reply
reply_cancel s lease = cancel_told (cancel_reply s.exec lease)

abbrev pub cancelled_by : Desk → ℕ → Desk
cancelled_by s lease = moved s (after_cancel s.exec lease)

-- a lease is given back
abbrev pub give_back_told : Result (Unit {0}) LeaseFault → Reply
give_back_told (Ok done) = reply.Given
give_back_told (Err fault) = lease_told fault

abbrev pub reply_give_back : Desk → ℕ → Reply
reply_give_back s lease = give_back_told (give_back_reply s.exec lease)

abbrev pub given_back : Desk → ℕ → Desk
given_back s lease = moved s (end_lease s.exec lease)

-- no more requests are taken
abbrev pub closed : Desk → Desk
closed s = record s { closing = true }
