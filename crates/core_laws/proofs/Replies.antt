-- Only a request is answered that another one is in the way.
use Rattle.std.proofs.Common.{◌≡◌, ◌∙◌, ℕ, Bool, true, false, cond, refl, sym}
use Rattle.std.specs.Prelude.{Option, Some, None, Result, Ok, Err}
use Rattle.std.specs.List.{list_any}
use Rattle.std.proofs.lemmas.Bool.{false≢true}
use Rattle.plan_terms.specs.declared.cluster.Loads.{Loads}
use Rattle.goal_set.specs.Kept.{PlanView, FailureView}
use Rattle.cluster_json.specs.File.{Meaning}
use Rattle.metric_windows.specs.declared.fault.SampleFault.{SampleFault}
use Rattle.metric_windows.specs.declared.fault.SampleFault.TheVariants.{TooOld, WindowFull}
use Rattle.exec_terms.specs.Machine.{next_work}
use Rattle.exec_terms.specs.Leases.{copied_reply, copy_failed_reply, commit_reply, cancel_reply, give_back_reply}
use Rattle.exec_terms.specs.Stops.{stop_reply, kill_reply}
use Rattle.exec_terms.specs.declared.replies.Given.{Given}
use Rattle.exec_terms.specs.declared.replies.Idle.{Idle}
use Rattle.exec_terms.specs.declared.replies.Killed.{Killed}
use Rattle.exec_terms.specs.declared.replies.KillFault.{KillFault}
use Rattle.exec_terms.specs.declared.replies.KillFault.TheVariants.{NoSuchBroker, AlreadyDead}
use Rattle.exec_terms.specs.declared.replies.LeaseFault.{LeaseFault}
use Rattle.exec_terms.specs.declared.replies.LeaseFault.TheVariants.{Stale, AbortAsked}
use Rattle.exec_terms.specs.declared.replies.NothingToStop.{NothingToStop}
use Rattle.exec_terms.specs.declared.replies.Stopped.{Stopped}
use Rattle.core_terms.specs.State.{Desk, Moment, moment_of}
use Rattle.core_terms.specs.Jobs.{plans_execution}
use Rattle.core_terms.specs.Looks.{looked}
use Rattle.exec_terms.specs.Settled.{settled_lists}
use Rattle.core_terms.specs.Plans.{first_waiting, holder_of, reply_take_job, reply_planned, reply_plan_back, reply_refused, is_plan_for, is_failure_for}
use Rattle.core_terms.specs.Works.{caps_of, stop_told, kill_told, sample_told, sample_refusal, sampled_reply, part_place, take_told, lease_told, copied_told, failed_told, commit_told, cancel_told, give_back_told, is_receipt}
use Rattle.core_terms.specs.declared.events.Event.TheVariants as event
use Rattle.core_terms.specs.declared.replies.Reply.{Reply}
use Rattle.core_terms.specs.declared.replies.Reply.TheVariants as reply
use Rattle.core_laws.specs.Events.{OnlyRequestsMeetExecution, is_executing}

either : (b : Bool) (x y : Reply) → is_executing x ≡ false → is_executing y ≡ false → is_executing (cond b x y) ≡ false
either true x y h k = h
either false x y h k = k

taken_job : (now : Moment) (d : Desk) (o : Option ℕ) → is_executing (reply_take_job now d o) ≡ false
taken_job now d None = refl
taken_job now d (Some i) = refl

brought : (now : Moment) (d : Desk) (p : PlanView) (o : Option ℕ) → is_executing (reply_planned now d p o) ≡ false
brought now d p None = refl
brought now d p (Some i) = either (is_plan_for now.cluster d i p) reply.PlanDone reply.SentBack refl refl

failed : (now : Moment) (d : Desk) (f : FailureView) (o : Option ℕ) → is_executing (reply_refused now d f o) ≡ false
failed now d f None = refl
failed now d f (Some i) = either (is_failure_for now.cluster d i f) reply.PlanFailed reply.SentBack refl refl

back : (d : Desk) (o : Option ℕ) → is_executing (reply_plan_back d o) ≡ false
back d None = refl
back d (Some i) = refl

stopped : (r : Result Stopped NothingToStop) → is_executing (stop_told r) ≡ false
stopped (Ok x) = refl
stopped (Err y) = refl

killed : (b : ℕ) (r : Result Killed KillFault) → is_executing (kill_told b r) ≡ false
killed b (Ok x) = refl
killed b (Err NoSuchBroker) = refl
killed b (Err AlreadyDead) = refl

sampled : (o : Option SampleFault) → is_executing (sample_told o) ≡ false
sampled None = refl
sampled (Some (TooOld w)) = refl
sampled (Some WindowFull) = refl

sampled_in : (file : Meaning) (samples : _) (time : ℕ) (loads : Loads) (o : Option ℕ) → is_executing (sampled_reply file samples time loads o) ≡ false
sampled_in file samples time loads None = refl
sampled_in file samples time loads (Some p) = sampled (sample_refusal file samples p time loads)

taken : (planning closing : Bool) (r : Result Given Idle) → is_executing (take_told planning closing r) ≡ false
taken planning closing (Ok g) = refl
taken planning closing (Err why) = refl

faulty : (f : LeaseFault) → is_executing (lease_told f) ≡ false
faulty (Stale n) = refl
faulty AbortAsked = refl

told : {R : Type 0} (tell : Result R LeaseFault → Reply) → ((x : R) → is_executing (tell (Ok x)) ≡ false) → ((f : LeaseFault) → is_executing (tell (Err f)) ≡ false) → (r : Result R LeaseFault) → is_executing (tell r) ≡ false
told tell good bad (Ok x) = good x
told tell good bad (Err f) = bad f

pub only_requests_meet_execution : OnlyRequestsMeetExecution
only_requests_meet_execution file s (event.Submit ask key) h = refl
only_requests_meet_execution file s event.PlanTake h = absurd (false≢true (sym (taken_job (moment_of file s) s.desk (first_waiting s.desk)) ∙ h))
only_requests_meet_execution file s (event.Planned ticket plan) h = absurd (false≢true (sym (brought (moment_of file s) s.desk plan (holder_of ticket s.desk.jobs)) ∙ h))
only_requests_meet_execution file s (event.Refused ticket failure) h = absurd (false≢true (sym (failed (moment_of file s) s.desk failure (holder_of ticket s.desk.jobs)) ∙ h))
only_requests_meet_execution file s (event.PlanBack ticket) h = absurd (false≢true (sym (back s.desk (holder_of ticket s.desk.jobs)) ∙ h))
only_requests_meet_execution file s (event.Stop force) h = absurd (false≢true (sym (either s.desk.closing reply.Closing (stop_told (stop_reply s.desk.exec force)) refl (stopped (stop_reply s.desk.exec force))) ∙ h))
only_requests_meet_execution file s (event.Kill broker) h = absurd (false≢true (sym (either s.desk.closing reply.Closing (kill_told broker (kill_reply s.desk.exec broker)) refl (killed broker (kill_reply s.desk.exec broker))) ∙ h))
only_requests_meet_execution file s (event.Sample topic number time loads) h = absurd (false≢true (sym (either s.desk.closing reply.Closing (sampled_reply file s.samples time loads (part_place file.cluster.parts topic number)) refl
    (sampled_in file s.samples time loads (part_place file.cluster.parts topic number))) ∙ h))
only_requests_meet_execution file s (event.Caps asked) h = absurd (false≢true (sym (either s.desk.closing reply.Closing (reply.CapsSet (caps_of s.desk asked)) refl refl) ∙ h))
only_requests_meet_execution file s (event.Show query) h = absurd (false≢true h)
only_requests_meet_execution file s (event.Look now) h = absurd (false≢true (sym (either s.desk.closing reply.Closing (reply.Looked (record { since = looked file s now; case = (moment_of file s).cluster; lists = settled_lists s.desk.exec })) refl refl) ∙ h))
only_requests_meet_execution file s (event.Heal cause ask) h = refl
only_requests_meet_execution file s event.Take h = absurd (false≢true (sym (taken (list_any plans_execution s.desk.tasks) s.desk.closing (next_work s.desk.exec)) ∙ h))
only_requests_meet_execution file s (event.Copied receipt) h = absurd (false≢true (sym (either (is_receipt s.desk.exec receipt) (copied_told (copied_reply s.desk.exec receipt.lease)) (reply.Stale s.desk.exec.leases)
    (told copied_told (λ x. refl) faulty (copied_reply s.desk.exec receipt.lease)) refl) ∙ h))
only_requests_meet_execution file s (event.CopyFailed lease) h = absurd (false≢true (sym (told failed_told (λ x. refl) faulty (copy_failed_reply s.desk.exec lease)) ∙ h))
only_requests_meet_execution file s (event.Commit lease) h = absurd (false≢true (sym (told commit_told (λ x. refl) faulty (commit_reply s.desk.exec lease)) ∙ h))
only_requests_meet_execution file s (event.Cancel lease) h = absurd (false≢true (sym (told cancel_told (λ x. refl) faulty (cancel_reply s.desk.exec lease)) ∙ h))
only_requests_meet_execution file s (event.GiveBack lease) h = absurd (false≢true (sym (told give_back_told (λ x. refl) faulty (give_back_reply s.desk.exec lease)) ∙ h))
only_requests_meet_execution file s event.Close h = absurd (false≢true h)
