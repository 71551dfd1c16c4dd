-- What one who works alone meets: no other actor's event stands between his.
use Rattle.std.specs.Prelude.{◌≡◌, ℕ, ◌<◌, ◌≤◌, Bool, true, false, is_some}
use Rattle.std.specs.List.{count_by}
use Rattle.cluster_json.specs.File.{Meaning}
use Rattle.exec_terms.specs.Machine.{any_unfinished}
use Rattle.exec_terms.specs.Tally.{leases_out}
use Rattle.exec_terms.specs.Valid.{work_left}
use Rattle.exec_terms.specs.declared.replies.Given.{Given}
use Rattle.core_terms.specs.Input.{IsInput}
use Rattle.core_terms.specs.State.{Core, Desk}
use Rattle.core_terms.specs.Jobs.{is_active}
use Rattle.core_terms.specs.Problem.{ProblemView}
use Rattle.core_terms.specs.Ends.{Ends, Works}
use Rattle.core_terms.specs.Step.{reply_of, next}
use Rattle.core_terms.specs.History.{is_sure}
use Rattle.core_terms.specs.Sound.{IsSound}
use Rattle.core_terms.specs.declared.events.Event.{Event}
use Rattle.core_terms.specs.declared.events.Event.TheVariants as event
use Rattle.core_terms.specs.declared.replies.Reply.{Reply}
use Rattle.core_terms.specs.declared.replies.Reply.TheVariants as reply
use Rattle.core_laws.specs.Events.{is_stale}

-- how many jobs wait for their plans
abbrev pub active_jobs : Desk → ℕ
active_jobs d = count_by (λ t. is_active t.status) d.tasks

-- how many tickets are out
abbrev pub tickets_out : Desk → ℕ
tickets_out d = count_by (λ j. is_some j.ticket) d.jobs

-- no lease and no ticket is out
pub record IsQuiet (d : Desk) : Type 0 where
  pub leases : leases_out d.exec.tasks ≡ 0
  pub tickets : tickets_out d ≡ 0

-- no task and no job is unfinished
pub record IsDone (d : Desk) : Type 0 where
  pub tasks : any_unfinished d.exec.tasks ≡ false
  pub jobs : active_jobs d ≡ 0

-- work that was just taken is ended by the event that reports it, which takes no memory
pub record IsOut (file : Meaning) (s : Core) (e : Event) : Type 0 where
  pub sure : is_sure s.desk e ≡ true
  pub fresh : is_stale (reply_of file s e) ≡ false

abbrev pub TakenWorkIsOut : Type 0
TakenWorkIsOut = (file : Meaning) (s : Core) (g : Given) (e : Event) → IsInput file → IsSound file s.desk → reply_of file s event.Take ≡ reply.Work g → Works g e → IsOut file (next file s event.Take) e

-- so less work is left behind it, no job more waits, and nothing more is out
pub record IsLess (d u : Desk) : Type 0 where
  pub work : work_left u.exec < work_left d.exec
  pub jobs : active_jobs u ≤ active_jobs d
  pub leases : leases_out u.exec.tasks ≤ leases_out d.exec.tasks
  pub tickets : tickets_out u ≤ tickets_out d

abbrev pub WorkedIsLess : Type 0
WorkedIsLess = (file : Meaning) (s : Core) (g : Given) (e : Event) → IsInput file → IsSound file s.desk → reply_of file s event.Take ≡ reply.Work g → Works g e → IsLess s.desk (next file (next file s event.Take) e).desk

-- a job that was just taken is ended by its plan or failure: it isn't sent back, and waits no more
pub record IsPlanned (d u : Desk) : Type 0 where
  pub jobs : active_jobs u < active_jobs d
  pub leases : leases_out u.exec.tasks ≤ leases_out d.exec.tasks
  pub tickets : tickets_out u ≤ tickets_out d

abbrev pub PlannedIsLess : Type 0
PlannedIsLess = (file : Meaning) (s : Core) (ticket : ℕ) (problem : ProblemView) (e : Event) → IsInput file → IsSound file s.desk → reply_of file s event.PlanTake ≡ reply.Job ticket problem → Ends (reply.Job ticket problem) e
    → IsPlanned s.desk (next file (next file s event.PlanTake) e).desk

-- there is no job, and no work
abbrev pub is_no_job : Reply → Bool
is_no_job (reply.NoJob closing) = true
is_no_job _ = false

abbrev pub is_idle : Reply → Bool
is_idle (reply.Idle why closing) = true
is_idle _ = false

-- where nothing is out, neither comes but where no job and no task is unfinished
abbrev pub IdleIsDone : Type 0
IdleIsDone = (file : Meaning) (s : Core) → IsSound file s.desk → IsQuiet s.desk → is_no_job (reply_of file s event.PlanTake) ≡ true → is_idle (reply_of file s event.Take) ≡ true → IsDone s.desk
