-- What each event of the core does to the executor, and so to its caps and its work.
use Rattle.std.proofs.Common.{◌≡◌, ◌∙◌, ℕ, ◌+◌, ◌<◌, ◌≤◌, Bool, true, false, ◌&&◌, cond, inl, inr, List, length, refl, sym, ap, arith}
use Rattle.std.specs.Prelude.{Option, Some, None, Result, Ok, Err, IsOk}
use Rattle.std.specs.List.{list_any}
use Rattle.std.proofs.lemmas.Bool.{true≢false, false≢true}
use Rattle.plan_terms.specs.Change.{proposals}
use Rattle.goal_set.specs.Kept.{PlanView, FailureView, IsPlan}
use Rattle.cluster_json.specs.File.{Meaning}
use Rattle.exec_terms.specs.CapLaws.{starts, StartKeepsCaps, NoCountRises}
use Rattle.exec_terms.specs.Machine.{State, next_work, task_at}
use Rattle.exec_terms.specs.Leases.{test_lease, reply_by, one_copied, phase_cancelled, after_copied, copied_reply, after_copy_failed, after_commit, after_cancel}
use Rattle.exec_terms.specs.Runs.{Event as Move, CapsSet, Take, Copied, CopyFailed, Committed, Cancelled, GivenBack, Stops, Killed, Launched, IsAnswered, IsLaunch, CanHappen, after_event}
use Rattle.exec_terms.specs.Valid.{IsValid, work_left}
use Rattle.exec_terms.specs.Words.{copies_left, is_pending, is_in_progress}
use Rattle.exec_terms.specs.declared.phase.Phase.{Phase}
use Rattle.exec_terms.specs.declared.phase.Phase.TheVariants.{Pending, InProgress, Aborting, Aborted, Completed, Dead}
use Rattle.exec_terms.specs.declared.replies.Given.{Given}
use Rattle.exec_terms.specs.declared.replies.Idle.{Idle}
use Rattle.exec_terms.specs.declared.replies.LeaseFault.{LeaseFault}
use Rattle.exec_terms.specs.declared.replies.LeaseFault.TheVariants.{Stale, AbortAsked}
use Rattle.exec_terms.specs.declared.task.Task.{Task}
use Rattle.exec_terms.specs.declared.work.WorkKind.TheVariants.{Copy as ForCopy, Commit as ForCommit, Cancel as ForCancel}
use Rattle.exec_terms.proofs.CapLaws.{starts_keep_caps, only_starts_raise}
use Rattle.exec_terms.proofs.Gives.{no_event_raises, take_gives}
use Rattle.exec_terms.proofs.WorkLeft.{events_lower}
use Rattle.plan_terms.specs.declared.lists.Proposal.{Proposal}
use Rattle.user_tasks.specs.Asks.{AskView, changes_factor}
use Rattle.core_terms.specs.Input.{IsInput}
use Rattle.core_terms.specs.State.{Desk, Core, Moment, moment_of}
use Rattle.core_terms.specs.Jobs.{admitted, user_task_at, is_done_at_once, plans_execution, with_plan}
use Rattle.core_terms.specs.Submits.{after_new, change_refusal, changed_by, changes_asked, refusal_of, unless_refused, unless_unchanged}
use Rattle.core_terms.specs.Plans.{first_waiting, holder_of, ticketed, unticketed, planned, planned_back, refused, with_failure, is_plan_for, is_failure_for}
use Rattle.core_terms.specs.Works.{caps_of, is_receipt, moved, with_exec, take_told, copied_told, failed_told, commit_told, cancel_told}
use Rattle.core_terms.specs.Step.{next}
use Rattle.core_terms.specs.Sound.{IsSound}
use Rattle.core_terms.specs.declared.events.Event.{Event}
use Rattle.core_terms.specs.declared.events.Event.TheVariants as event
use Rattle.core_terms.specs.declared.replies.Reply.{Reply}
use Rattle.core_terms.specs.declared.replies.Reply.TheVariants as reply
use Rattle.core_laws.specs.Events.{Fits, IsMove, EventsMoveExecutor, StartsKeepCapsInForce, OthersRaiseNone, OnlyLaunchesRaiseWork, ChangesCanBeLaunched, EndedWorkIsLess, WorkIsThere, PlansCanBeLaunched, may_launch, is_stale}
use Rattle.core_laws.proofs.Sound.{change_launches, planned_launches}
use Rattle.core_laws.proofs.Valid.{exec_moved, some_caps}

pub changes_can_be_launched : ChangesCanBeLaunched
changes_can_be_launched file s ask input sound = change_launches file s ask input sound

pub plans_can_be_launched : PlansCanBeLaunched
plans_can_be_launched file s ticket p input plan sound = planned_launches file s ticket p input plan sound

module _ (e : Event) (d : Desk) where
  same : IsMove e d.exec d.exec
  same = inl refl

  after_submit : (ask : AskView) (o : Option Reply) → IsMove e d.exec (unless_refused d ask o).exec
  after_submit ask None = same
  after_submit ask (Some r) = same

  after_taken : (o : Option ℕ) → IsMove e d.exec (ticketed d o).exec
  after_taken None = same
  after_taken (Some i) = same

  after_back : (o : Option ℕ) → IsMove e d.exec (planned_back d o).exec
  after_back None = same
  after_back (Some i) = same

  after_refused : (now : Moment) (f : FailureView) (o : Option ℕ) → IsMove e d.exec (refused now d f o).exec
  after_refused now f None = same
  after_refused now f (Some i) = by (is_failure_for now.cluster d i f) where
    by : (b : Bool) → IsMove e d.exec (cond b (with_failure d i f) (unticketed d i)).exec
    by true = same
    by false = same

  one : (m : Move) → Fits e m → CanHappen d.exec m → IsMove e d.exec (moved d (after_event d.exec m)).exec
  one m fits can = inr (m, fits, can, exec_moved d (after_event d.exec m))

  unless_closing : (m : Move) → Fits e m → CanHappen d.exec m → (b : Bool) → IsMove e d.exec (cond b d (moved d (after_event d.exec m))).exec
  unless_closing m fits can true = same
  unless_closing m fits can false = one m fits can

  unless_closed : (m : Move) → Fits e m → CanHappen d.exec m → (b : Bool) → IsMove e d.exec (cond b d (with_exec d (after_event d.exec m))).exec
  unless_closed m fits can true = same
  unless_closed m fits can false = inr (m, fits, can, refl)

  where_receipt : (m : Move) → Fits e m → CanHappen d.exec m → (b : Bool) → IsMove e d.exec (cond b (moved d (after_event d.exec m)) d).exec
  where_receipt m fits can true = one m fits can
  where_receipt m fits can false = same

after_plan : (file : Meaning) (s : Core) (n : ℕ) (p : PlanView) → IsInput file → IsPlan p → IsSound file s.desk → (o : Option ℕ) → holder_of n s.desk.jobs ≡ o
    → IsMove (event.Planned n p) s.desk.exec (planned (moment_of file s) s.desk p o).exec
after_plan file s n p input plan sound None q = inl refl
after_plan file s n p input plan sound (Some i) q = by (is_plan_for (moment_of file s).cluster s.desk i p) refl where
  by : (b : Bool) → is_plan_for (moment_of file s).cluster s.desk i p ≡ b → IsMove (event.Planned n p) s.desk.exec (cond b (with_plan s.desk i (proposals p.start p.end)) (unticketed s.desk i)).exec
  by false is = inl refl
  by true is = chosen (is_done_at_once (user_task_at s.desk.tasks i) (proposals p.start p.end)) refl
    where
      chosen : (b : Bool) → is_done_at_once (user_task_at s.desk.tasks i) (proposals p.start p.end) ≡ b → IsMove (event.Planned n p) s.desk.exec (with_plan s.desk i (proposals p.start p.end)).exec
      chosen true d = rw d (inl refl)
      chosen false d = rw d (inr (Launched (proposals p.start p.end), refl, (planned_launches file s n p input plan sound i q is d).1, refl))

-- a request without an id: it launches only where the replication factor is to change
after_asked : (e : Event) (file : Meaning) (s : Core) (ask : AskView) → (changes_factor ask ≡ true → may_launch e ≡ true) → IsInput file → IsSound file s.desk → (b : Bool) → changes_factor ask ≡ b
    → IsMove e s.desk.exec (after_new file (moment_of file s) s.desk ask b).exec
after_asked e file s ask may input sound false q = after_submit e s.desk ask (refusal_of file (moment_of file s) s.desk ask)
after_asked e file s ask may input sound true q = by (change_refusal (moment_of file s) s.desk ask) refl where
  ps : List Proposal
  ps = changes_asked (moment_of file s) s.desk ask

  by : (o : Option Reply) → change_refusal (moment_of file s) s.desk ask ≡ o → IsMove e s.desk.exec (unless_unchanged s.desk ask ps o).exec
  by (Some r) w = inl refl
  by None w = chosen (is_done_at_once (user_task_at (admitted s.desk ask).tasks (length s.desk.tasks)) ps) refl
    where
      chosen : (c : Bool) → is_done_at_once (user_task_at (admitted s.desk ask).tasks (length s.desk.tasks)) ps ≡ c → IsMove e s.desk.exec (changed_by s.desk ask ps).exec
      chosen true d = rw d (inl refl)
      chosen false d = rw d (inr (Launched ps, may q, (change_launches file s ask input sound q w d).1, refl))

pub events_move_executor : EventsMoveExecutor
events_move_executor file s (event.Submit ask None) input legal h = after_asked (event.Submit ask None) file s ask (λ z. z) input h (changes_factor ask) refl
events_move_executor file s event.PlanTake input legal h = after_taken event.PlanTake s.desk (first_waiting s.desk)
events_move_executor file s (event.Planned ticket plan) input legal h = after_plan file s ticket plan input legal h (holder_of ticket s.desk.jobs) refl
events_move_executor file s (event.Refused ticket failure) input legal h = after_refused (event.Refused ticket failure) s.desk (moment_of file s) failure (holder_of ticket s.desk.jobs)
events_move_executor file s (event.PlanBack ticket) input legal h = after_back (event.PlanBack ticket) s.desk (holder_of ticket s.desk.jobs)
events_move_executor file s (event.Stop force) input legal h = unless_closing (event.Stop force) s.desk (Stops force) refl tt s.desk.closing
events_move_executor file s (event.Kill broker) input legal h = unless_closing (event.Kill broker) s.desk (Killed broker) refl tt s.desk.closing
events_move_executor file s (event.Caps asked) input legal h = unless_closed (event.Caps asked) s.desk (CapsSet (caps_of s.desk asked)) (asked, refl)
    (some_caps s.desk.exec.caps asked (h.exec.valid.broker_cap, h.exec.valid.cluster_cap, h.exec.valid.leader_cap) legal) s.desk.closing
events_move_executor file s (event.Heal cause ask) input legal h = after_asked (event.Heal cause ask) file s ask (λ z. z) input h (changes_factor ask) refl
events_move_executor file s event.Take input legal h = one event.Take s.desk Take refl tt
events_move_executor file s (event.Copied receipt) input legal h = where_receipt (event.Copied receipt) s.desk (Copied receipt.lease) (receipt, refl, refl) tt (is_receipt s.desk.exec receipt)
events_move_executor file s (event.CopyFailed lease) input legal h = one (event.CopyFailed lease) s.desk (CopyFailed lease) refl tt
events_move_executor file s (event.Commit lease) input legal h = one (event.Commit lease) s.desk (Committed lease) refl tt
events_move_executor file s (event.Cancel lease) input legal h = one (event.Cancel lease) s.desk (Cancelled lease) refl tt
events_move_executor file s (event.GiveBack lease) input legal h = one (event.GiveBack lease) s.desk (GivenBack lease) refl tt
events_move_executor file s _ input legal h = inl refl

-- a launch goes with an event that may launch
fits_launch : (e : Event) (m : Move) → Fits e m → IsLaunch m → may_launch e ≡ true
fits_launch e (Launched proposals) fits is = fits
fits_launch e _ fits is = absurd is

-- a task that is pending isn't in progress
both_never : (p : Phase) → (is_pending p && is_in_progress p) ≡ true → ⊥
both_never Pending h = false≢true h
both_never InProgress h = false≢true h
both_never Aborting h = false≢true h
both_never Aborted h = false≢true h
both_never Completed h = false≢true h
both_never Dead h = false≢true h

starts_lifted : (e : Event) (s u : State) (i : ℕ) → IsValid s → IsMove e s u → i < length s.tasks → starts s u i ≡ true → StartKeepsCaps s u i
starts_lifted e s u i v (inl is) l h = absurd (both_never (task_at s.tasks i).phase (rw is at h))
starts_lifted e s u i v (inr (m, fits, can, is)) l h = rw is (starts_keep_caps s m i can v l (rw is at h))

pub starts_keep_caps_in_force : StartsKeepCapsInForce
starts_keep_caps_in_force file s e i input legal sound l h = starts_lifted e s.desk.exec (next file s e).desk.exec i sound.exec.valid (events_move_executor file s e input legal sound) l h

same_counts : (s : State) → NoCountRises s s
same_counts s = record { adding = λ b. omega arith; removing = λ b. omega arith; replica = omega arith; leader = omega arith }

raise_lifted : (e : Event) (s u : State) → IsValid s → IsMove e s u → ((i : ℕ) → i < length s.tasks → starts s u i ≡ false) → NoCountRises s u
raise_lifted e s u v (inl is) h = rw is (same_counts s)
raise_lifted e s u v (inr (m, fits, can, is)) h = rw is (only_starts_raise s m can v (λ i l. ap (λ (x : State). starts s x i) (sym is) ∙ h i l))

pub others_raise_none : OthersRaiseNone
others_raise_none file s e input legal sound h = raise_lifted e s.desk.exec (next file s e).desk.exec sound.exec.valid (events_move_executor file s e input legal sound) h

work_lifted : (e : Event) (s u : State) → IsValid s → IsMove e s u → may_launch e ≡ false → work_left u ≤ work_left s
work_lifted e s u v (inl is) h = rw is (omega arith)
work_lifted e s u v (inr (m, fits, can, is)) h = rw is (no_event_raises s m (λ z. true≢false (sym (fits_launch e m fits z) ∙ h)) v)

pub only_launches_raise_work : OnlyLaunchesRaiseWork
only_launches_raise_work file s e input legal sound h = work_lifted e s.desk.exec (next file s e).desk.exec sound.exec.valid (events_move_executor file s e input legal sound) h

taken_work : (planning closing : Bool) (r : Result Given Idle) → IsOk r → (g : Given) × (take_told planning closing r ≡ reply.Work g)
taken_work planning closing (Ok g) h = (g, refl)
taken_work planning closing (Err why) h = absurd (false≢true h)

pub work_is_there : WorkIsThere
work_is_there file s sound some none = taken_work (list_any plans_execution s.desk.tasks) s.desk.closing (next_work s.desk.exec) (take_gives s.desk.exec sound.exec.valid some none)

module _ {R : Type 0} (told : Result R LeaseFault → Reply) (bad : (n : ℕ) → is_stale (told (Err (Stale n))) ≡ true) (g : Task → R) (s : State) where
  answered : (r : Result ℕ LeaseFault) → is_stale (told (reply_by g s r)) ≡ false → IsAnswered r
  answered (Ok i) h = tt
  answered (Err AbortAsked) h = tt
  answered (Err (Stale n)) h = absurd (true≢false (sym (bad n) ∙ h))

lower : (d : Desk) (u : State) (n : ℕ) → work_left u < n → work_left (moved d u).exec < n
lower d u n h = rw (exec_moved d u) h

copied_less : (d : Desk) (u : State) (last n : ℕ) (b : Bool) (r : Reply) → (is_stale r ≡ false → work_left u < n) → is_stale (cond b r (reply.Stale last)) ≡ false → work_left (cond b (moved d u) d).exec < n
copied_less d u last n true r h k = lower d u n (h k)
copied_less d u last n false r h k = absurd (true≢false k)

pub ended_work_is_less : EndedWorkIsLess
ended_work_is_less file s (event.Copied receipt) sound is h = copied_less s.desk (after_copied s.desk.exec receipt.lease) s.desk.exec.leases (work_left s.desk.exec) (is_receipt s.desk.exec receipt) (copied_told (copied_reply s.desk.exec receipt.lease))
    (λ k. ((events_lower s.desk.exec receipt.lease sound.exec.valid).0 (answered copied_told (λ n. refl) (λ t. record { 0 = copies_left (one_copied t) }) s.desk.exec (test_lease s.desk.exec receipt.lease ForCopy) k)).0) h
ended_work_is_less file s (event.CopyFailed lease) sound is h = lower s.desk (after_copy_failed s.desk.exec lease) (work_left s.desk.exec)
    ((events_lower s.desk.exec lease sound.exec.valid).0 (answered failed_told (λ n. refl) (λ t. record { 0 = t.faults + 1 }) s.desk.exec (test_lease s.desk.exec lease ForCopy) h)).1
ended_work_is_less file s (event.Commit lease) sound is h = lower s.desk (after_commit s.desk.exec lease) (work_left s.desk.exec)
    ((events_lower s.desk.exec lease sound.exec.valid).1 (answered commit_told (λ n. refl) (λ t. tt) s.desk.exec (test_lease s.desk.exec lease ForCommit) h))
ended_work_is_less file s (event.Cancel lease) sound is h = lower s.desk (after_cancel s.desk.exec lease) (work_left s.desk.exec)
    ((events_lower s.desk.exec lease sound.exec.valid).2 (answered cancel_told (λ n. refl) phase_cancelled s.desk.exec (test_lease s.desk.exec lease ForCancel) h))
ended_work_is_less file s _ sound is h = absurd (false≢true is)
