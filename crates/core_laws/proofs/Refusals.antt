-- An event that is refused changes nothing.
use Rattle.std.proofs.Common.{◌≡◌, ◌∙◌, ℕ, ◌+◌, Bool, true, false, not, ◌&&◌, cond, List, refl, sym}
use Rattle.std.specs.Prelude.{Option, Some, None, Result, Ok, Err}
use Rattle.std.specs.List.{list_any, position}
use Rattle.std.proofs.lemmas.Bool.{false≢true}
use Rattle.plan_terms.specs.declared.cluster.Loads.{Loads}
use Rattle.plan_terms.specs.declared.settings.Sample.{Sample}
use Rattle.goal_set.specs.Kept.{PlanView, FailureView}
use Rattle.cluster_json.specs.File.{Meaning}
use Rattle.metric_windows.specs.declared.fault.SampleFault.{SampleFault}
use Rattle.exec_terms.specs.Machine.{State, after_caps, any_unfinished, next_work, task_at, taken}
use Rattle.exec_terms.specs.Words.{copies_left, holds}
use Rattle.exec_terms.specs.Leases.{test_lease, ended, ended_at, end_lease, reply_by, after_copied, copied_reply, give_back_reply_by, phase_cancelled, one_copied, one_failed, committed, cancelled}
use Rattle.exec_terms.specs.Stops.{is_host, has_died, after_stop, after_kill, kill_reply, stop_reply}
use Rattle.exec_terms.specs.declared.replies.Given.{Given}
use Rattle.exec_terms.specs.declared.replies.Idle.{Idle}
use Rattle.exec_terms.specs.declared.replies.Killed.{Killed}
use Rattle.exec_terms.specs.declared.replies.KillFault.TheVariants.{NoSuchBroker, AlreadyDead}
use Rattle.exec_terms.specs.declared.replies.LeaseFault.{LeaseFault}
use Rattle.exec_terms.specs.declared.replies.LeaseFault.TheVariants.{Stale, AbortAsked}
use Rattle.exec_terms.specs.declared.replies.Stopped.{Stopped}
use Rattle.exec_terms.specs.declared.task.Task.{Task}
use Rattle.exec_terms.specs.declared.work.WorkKind.TheVariants.{Copy as ForCopy, Commit as ForCommit, Cancel as ForCancel}
use Rattle.plan_terms.specs.declared.cluster.Part.{Part}
use Rattle.plan_terms.specs.declared.lists.Proposal.{Proposal}
use Rattle.user_tasks.specs.Asks.{AskView, changes_factor}
use Rattle.core_terms.specs.State.{Desk, Core, Moment, moment_of}
use Rattle.core_terms.specs.Jobs.{is_in_execution, plans_execution}
use Rattle.core_terms.specs.Submits.{after_new, change_refusal, changes_asked, or_accepted, or_changed, reply_new, unless_refused, unless_unchanged, refusal_of}
use Rattle.core_terms.specs.Looks.{looked}
use Rattle.core_terms.specs.Plans.{first_waiting, holder_of, ticketed, planned, planned_back, refused, reply_take_job, reply_planned, reply_plan_back, reply_refused, is_plan_for, is_failure_for}
use Rattle.core_terms.specs.Works.{caps_of, execution_ended, with_exec, moved, stop_told, kill_told, sample_told, with_sample, sample_at, sample_refusal, sampled_reply, sampled_at, part_place, take_told, copied_told, failed_told, commit_told, cancel_told, give_back_told, is_receipt}
use Rattle.core_terms.specs.History.{is_refusal}
use Rattle.core_terms.specs.declared.events.Event.TheVariants as event
use Rattle.core_terms.specs.declared.replies.Reply.{Reply}
use Rattle.core_terms.specs.declared.replies.Reply.TheVariants as reply
use Rattle.core_laws.specs.Events.{RefusalsKeepState}

-- an executor that stays as it is
still : (d : Desk) → moved d d.exec ≡ d
still d = by (any_unfinished d.exec.tasks) where
  by : (b : Bool) → cond (b && not b) (execution_ended (with_exec d d.exec) (position (λ t. is_in_execution t.status) d.tasks)) (with_exec d d.exec) ≡ d
  by true = refl
  by false = refl

submitted : (d : Desk) (ask : AskView) (o : Option Reply) → is_refusal (or_accepted d o) ≡ true → unless_refused d ask o ≡ d
submitted d ask (Some r) h = refl
submitted d ask None h = absurd (false≢true h)

-- a reply of a user task is no refusal
changed : (parts : List Part) (d : Desk) (ask : AskView) (ps : List Proposal) (o : Option Reply) → is_refusal (or_changed parts d ask ps o) ≡ true → unless_unchanged d ask ps o ≡ d
changed parts d ask ps (Some r) h = refl
changed parts d ask ps None h = absurd (false≢true h)

asked : (file : Meaning) (now : Moment) (d : Desk) (ask : AskView) (b : Bool) → is_refusal (reply_new file now d ask b) ≡ true → after_new file now d ask b ≡ d
asked file now d ask true h = changed file.cluster.parts d ask (changes_asked now d ask) (change_refusal now d ask) h
asked file now d ask false h = submitted d ask (refusal_of file now d ask) h

taken_job : (now : Moment) (d : Desk) (o : Option ℕ) → is_refusal (reply_take_job now d o) ≡ true → ticketed d o ≡ d
taken_job now d None h = refl
taken_job now d (Some i) h = absurd (false≢true h)

done_or_back : (b : Bool) (done : Reply) → is_refusal done ≡ false → is_refusal (cond b done reply.SentBack) ≡ true → ⊥
done_or_back true done off h = false≢true (sym off ∙ h)
done_or_back false done off h = false≢true h

brought : (now : Moment) (d : Desk) (p : PlanView) (o : Option ℕ) → is_refusal (reply_planned now d p o) ≡ true → planned now d p o ≡ d
brought now d p None h = refl
brought now d p (Some i) h = absurd (done_or_back (is_plan_for now.cluster d i p) reply.PlanDone refl h)

failed : (now : Moment) (d : Desk) (f : FailureView) (o : Option ℕ) → is_refusal (reply_refused now d f o) ≡ true → refused now d f o ≡ d
failed now d f None h = refl
failed now d f (Some i) h = absurd (done_or_back (is_failure_for now.cluster d i f) reply.PlanFailed refl h)

back : (d : Desk) (o : Option ℕ) → is_refusal (reply_plan_back d o) ≡ true → planned_back d o ≡ d
back d None h = refl
back d (Some i) h = absurd (false≢true h)

-- a stop of nothing, by whether a task is unfinished
stopped_none : (d : Desk) (b : Bool) (x : Stopped) (u : State) → is_refusal (stop_told (cond b (Ok x) (Err (record {})))) ≡ true → moved d (cond b u d.exec) ≡ d
stopped_none d true x u h = absurd (false≢true h)
stopped_none d false x u h = still d

-- a death of nobody, by whether the broker is known, and is lost
killed_none : (d : Desk) (n : ℕ) (h k : Bool) (x : Killed) (u : State) → is_refusal (kill_told n (cond (not h) (Err NoSuchBroker) (cond k (Err AlreadyDead) (Ok x)))) ≡ true → moved d (cond (h && not k) u d.exec) ≡ d
killed_none d n true true x u r = still d
killed_none d n true false x u r = absurd (false≢true r)
killed_none d n false k x u r = still d

left_out : (samples : List Sample) (sample : Sample) (o : Option SampleFault) → is_refusal (sample_told o) ≡ true → with_sample samples sample o ≡ samples
left_out samples sample None h = absurd (false≢true h)
left_out samples sample (Some fault) h = refl

not_sampled : (file : Meaning) (samples : List Sample) (time : ℕ) (loads : Loads) (o : Option ℕ) → is_refusal (sampled_reply file samples time loads o) ≡ true → sampled_at file samples time loads o ≡ samples
not_sampled file samples time loads None h = refl
not_sampled file samples time loads (Some p) h = left_out samples (sample_at p time loads) (sample_refusal file samples p time loads) h

idle_takes : (d : Desk) (planning closing : Bool) (r : Result Given Idle) → is_refusal (take_told planning closing r) ≡ true → moved d (taken d.exec r) ≡ d
idle_takes d planning closing (Ok g) h = absurd (false≢true h)
idle_takes d planning closing (Err why) h = still d

module _ {R : Type 0} (told : Result R LeaseFault → Reply) (good : (x : R) → is_refusal (told (Ok x)) ≡ false) (bad : is_refusal (told (Err AbortAsked)) ≡ false)
    (g : Task → R) (f : Task → Task) (d : Desk) (lease : ℕ) where
  -- an event with a lease that nobody holds for this work
  stale : (r : Result ℕ LeaseFault) → is_refusal (told (reply_by g d.exec r)) ≡ true → moved d (ended f d.exec lease r) ≡ d
  stale (Ok i) h = absurd (false≢true (sym (good (g (task_at d.exec.tasks i))) ∙ h))
  stale (Err AbortAsked) h = absurd (false≢true (sym bad ∙ h))
  stale (Err (Stale n)) h = still d

where_receipt : (d e : Desk) (n : ℕ) (b : Bool) (r : Reply) → (is_refusal r ≡ true → e ≡ d) → is_refusal (cond b r (reply.Stale n)) ≡ true → cond b e d ≡ d
where_receipt d e n true r h k = h k
where_receipt d e n false r h k = refl

unless_closing : (d e : Desk) (b : Bool) (r : Reply) → (is_refusal r ≡ true → e ≡ d) → is_refusal (cond b reply.Closing r) ≡ true → cond b d e ≡ d
unless_closing d e true r h k = refl
unless_closing d e false r h k = h k

given_none : (d : Desk) (o : Option ℕ) → is_refusal (give_back_told (give_back_reply_by d.exec o)) ≡ true → moved d (ended_at d.exec o) ≡ d
given_none d None h = still d
given_none d (Some i) h = absurd (false≢true h)

closed_samples : (old new : List Sample) (b : Bool) (r : Reply) → (is_refusal r ≡ true → new ≡ old) → is_refusal (cond b reply.Closing r) ≡ true → cond b old new ≡ old
closed_samples old new true r h k = refl
closed_samples old new false r h k = h k

in_core : (s : Core) (d : Desk) → d ≡ s.desk → record s { desk = d } ≡ s
in_core s d e = rw e refl

in_samples : (s : Core) (xs : List Sample) → xs ≡ s.samples → record s { samples = xs } ≡ s
in_samples s xs e = rw e refl

closed_moments : (old new : List (ℕ × ℕ)) (b : Bool) (r : Reply) → (is_refusal r ≡ true → new ≡ old) → is_refusal (cond b reply.Closing r) ≡ true → cond b old new ≡ old
closed_moments old new true r h k = refl
closed_moments old new false r h k = h k

in_since : (s : Core) (xs : List (ℕ × ℕ)) → xs ≡ s.since → record s { since = xs } ≡ s
in_since s xs e = rw e refl

pub refusals_keep_state : RefusalsKeepState
unfolding end_lease
refusals_keep_state file s (event.Submit ask None) h = in_core s _ (asked file (moment_of file s) s.desk ask (changes_factor ask) h)
refusals_keep_state file s (event.Submit ask (Some id)) h = refl
refusals_keep_state file s event.PlanTake h = in_core s _ (taken_job (moment_of file s) s.desk (first_waiting s.desk) h)
refusals_keep_state file s (event.Planned ticket plan) h = in_core s _ (brought (moment_of file s) s.desk plan (holder_of ticket s.desk.jobs) h)
refusals_keep_state file s (event.Refused ticket failure) h = in_core s _ (failed (moment_of file s) s.desk failure (holder_of ticket s.desk.jobs) h)
refusals_keep_state file s (event.PlanBack ticket) h = in_core s _ (back s.desk (holder_of ticket s.desk.jobs) h)
refusals_keep_state file s (event.Stop force) h = in_core s _ (unless_closing s.desk (moved s.desk (after_stop s.desk.exec force)) s.desk.closing (stop_told (stop_reply s.desk.exec force))
    (stopped_none s.desk (any_unfinished s.desk.exec.tasks) _ _) h)
refusals_keep_state file s (event.Kill broker) h = in_core s _ (unless_closing s.desk (moved s.desk (after_kill s.desk.exec broker)) s.desk.closing (kill_told broker (kill_reply s.desk.exec broker))
    (killed_none s.desk broker (is_host s.desk.exec.hosts broker) (has_died s.desk.exec.hosts broker) _ _) h)
refusals_keep_state file s (event.Sample topic number time loads) h = in_samples s _ (closed_samples s.samples (sampled_at file s.samples time loads (part_place file.cluster.parts topic number)) s.desk.closing
    (sampled_reply file s.samples time loads (part_place file.cluster.parts topic number)) (not_sampled file s.samples time loads (part_place file.cluster.parts topic number)) h)
refusals_keep_state file s (event.Caps asked) h = in_core s _ (unless_closing s.desk (with_exec s.desk (after_caps s.desk.exec (caps_of s.desk asked))) s.desk.closing (reply.CapsSet (caps_of s.desk asked)) (λ r. absurd (false≢true r)) h)
refusals_keep_state file s (event.Show query) h = refl
refusals_keep_state file s (event.Look now) h = in_since s _ (closed_moments s.since (looked file s now) s.desk.closing _ (λ r. absurd (false≢true r)) h)
refusals_keep_state file s (event.Heal cause ask) h = in_core s _ (asked file (moment_of file s) s.desk ask (changes_factor ask) h)
refusals_keep_state file s event.Take h = in_core s _ (idle_takes s.desk (list_any plans_execution s.desk.tasks) s.desk.closing (next_work s.desk.exec) h)
refusals_keep_state file s (event.Copied receipt) h = in_core s _ (where_receipt s.desk (moved s.desk (after_copied s.desk.exec receipt.lease)) s.desk.exec.leases (is_receipt s.desk.exec receipt) (copied_told (copied_reply s.desk.exec receipt.lease))
    (stale copied_told (λ x. refl) refl (λ t. record { 0 = copies_left (one_copied t) }) one_copied s.desk receipt.lease (test_lease s.desk.exec receipt.lease ForCopy)) h)
refusals_keep_state file s (event.CopyFailed lease) h = in_core s _ (stale failed_told (λ x. refl) refl (λ t. record { 0 = t.faults + 1 }) one_failed s.desk lease (test_lease s.desk.exec lease ForCopy) h)
refusals_keep_state file s (event.Commit lease) h = in_core s _ (stale commit_told (λ x. refl) refl (λ t. tt) committed s.desk lease (test_lease s.desk.exec lease ForCommit) h)
refusals_keep_state file s (event.Cancel lease) h = in_core s _ (stale cancel_told (λ x. refl) refl phase_cancelled cancelled s.desk lease (test_lease s.desk.exec lease ForCancel) h)
refusals_keep_state file s (event.GiveBack lease) h = in_core s _ (given_none s.desk (position (holds lease) s.desk.exec.tasks) h)
refusals_keep_state file s event.Close h = absurd (false≢true h)
