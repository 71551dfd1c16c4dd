-- What is known of work that is given, and how many leases and tickets were given after a journal.
use Rattle.std.proofs.Common.{◌≡◌, ℕ, ◌+◌, ◌<◌, ◌≤◌, Bool, true, false, ◌&&◌, cond, inl, inr, List, [], ◌∷◌, map, length, refl, arith}
use Rattle.std.specs.Prelude.{Option, Some, None, Result, Ok, Err, fold}
use Rattle.std.specs.List.{list_all, position}
use Rattle.std.proofs.lemmas.Bool.{true≢false, false≢true}
use Rattle.std.proofs.lemmas.List.Folds.{list_any_at}
use Rattle.std.proofs.lemmas.List.Quantifiers.{position-Some}
use Rattle.plan_terms.specs.Change.{proposals}
use Rattle.plan_terms.specs.declared.lists.Proposal.{Proposal}
use Rattle.goal_set.specs.Kept.{PlanView, FailureView}
use Rattle.cluster_json.specs.File.{Meaning}
use Rattle.exec_terms.specs.declared.phase.Phase.{Phase}
use Rattle.exec_terms.specs.declared.phase.Phase.TheVariants.{Pending, InProgress, Aborting, Aborted, Completed, Dead}
use Rattle.exec_terms.specs.declared.replies.Given.{Given}
use Rattle.exec_terms.specs.declared.replies.Idle.{Idle}
use Rattle.exec_terms.specs.declared.replies.LeaseFault.{LeaseFault}
use Rattle.exec_terms.specs.declared.replies.LeaseFault.TheVariants.{Stale, AbortAsked}
use Rattle.exec_terms.specs.declared.task.Task.{Task}
use Rattle.exec_terms.specs.declared.work.Work.{Work}
use Rattle.exec_terms.specs.declared.work.Work.TheVariants.{Cancel}
use Rattle.exec_terms.specs.declared.work.WorkKind.TheVariants.{Copy as ForCopy, Commit as ForCommit, Cancel as ForCancel}
use Rattle.exec_terms.specs.Words.{is_completed, is_unfinished, in_flight, is_pending, is_in_progress, is_aborting, is_free, holds, next_step}
use Rattle.exec_terms.specs.Machine.{State, no_task, task_at, any_unfinished, next_work, taken, or_cancel, or_step, or_start, may_start, given, first_unfinished, launched}
use Rattle.exec_terms.specs.Leases.{ended_at, end_lease, ended, test_lease, one_copied, one_failed, committed, cancelled}
use Rattle.exec_terms.specs.Stops.{stopped_by, killed_by, marked, can_die, after_stop, after_kill}
use Rattle.exec_terms.specs.Runs.{Event as Move, CapsSet, Take, Copied, CopyFailed, Committed, Cancelled, GivenBack, Stops, Killed, Launched, after_event}
use Rattle.user_tasks.specs.Asks.{AskView, changes_factor}
use Rattle.user_tasks.specs.declared.table.Status.TheVariants as status
use Rattle.core_terms.specs.Input.{IsInput}
use Rattle.core_terms.specs.State.{Desk, Core, Moment, moment_of, opening_desk, opening_of}
use Rattle.core_terms.specs.Jobs.{admitted, is_done_at_once, is_in_execution, user_task_at, with_job, with_plan, with_status}
use Rattle.core_terms.specs.Submits.{after_new, change_refusal, changes_asked, refusal_of, unless_refused, unless_unchanged}
use Rattle.core_terms.specs.Plans.{first_waiting, holder_of, ticketed, unticketed, planned, planned_back, refused, with_failure, is_plan_for, is_failure_for}
use Rattle.core_terms.specs.Works.{caps_of, ended_job, ends_execution, execution_ended, is_receipt, moved, with_exec}
use Rattle.core_terms.specs.Step.{next}
use Rattle.core_terms.specs.History.{AreLegal, state_after}
use Rattle.core_terms.specs.Sound.{IsSound}
use Rattle.core_terms.specs.declared.events.Event.{Event}
use Rattle.core_terms.specs.declared.events.Event.TheVariants as event
use Rattle.core_terms.specs.declared.replies.Reply.{Reply}
use Rattle.core_laws.specs.Books.{AreGiven, EntriesGiveOneEach}
use Rattle.core_laws.specs.Events.{IsMove}
use Rattle.core_laws.proofs.Histories.{opening_is_sound}
use Rattle.core_laws.proofs.Lifts.{events_move_executor}
use Rattle.core_laws.proofs.Sound.{each_event_keeps_sound}

-- work that is given: its task is unfinished and on its partition, and waits where the work starts it, else is in flight
pub record IsGiven (s : State) (g : Given) : Type 0 where
  pub there : g.task < length s.tasks
  pub part_is : g.part ≡ (task_at s.tasks g.task).part
  pub lease_is : g.lease ≡ s.leases + 1
  pub busy : any_unfinished s.tasks ≡ true
  pub waits : g.starts ≡ true → is_pending (task_at s.tasks g.task).phase ≡ true
  pub flies : g.starts ≡ false → in_flight (task_at s.tasks g.task).phase ≡ true

both : (a b : Bool) → (a && b) ≡ true → a ≡ true
both true b h = refl
both false b h = h

aborting_flies : (p : Phase) → is_aborting p ≡ true → in_flight p ≡ true
aborting_flies Pending h = h
aborting_flies InProgress h = refl
aborting_flies Aborting h = refl
aborting_flies Aborted h = h
aborting_flies Completed h = h
aborting_flies Dead h = h

progress_flies : (p : Phase) → is_in_progress p ≡ true → in_flight p ≡ true
progress_flies Pending h = h
progress_flies InProgress h = refl
progress_flies Aborting h = refl
progress_flies Aborted h = h
progress_flies Completed h = h
progress_flies Dead h = h

pub flying : (p : Phase) → in_flight p ≡ true → is_unfinished p ≡ true
flying Pending h = refl
flying InProgress h = refl
flying Aborting h = refl
flying Aborted h = h
flying Completed h = h
flying Dead h = h

waiting : (p : Phase) → is_pending p ≡ true → is_unfinished p ≡ true
waiting Pending h = refl
waiting InProgress h = refl
waiting Aborting h = refl
waiting Aborted h = h
waiting Completed h = h
waiting Dead h = h

pub is_given : (s : State) (g : Given) → ◌≡◌ {A = Result Given Idle} (Ok g) (next_work s) → IsGiven s g
unfolding next_work
is_given s g e = cancel (position (λ t. is_aborting t.phase && is_free t.lease) s.tasks) refl e where
  busy : (i : ℕ) → i < length s.tasks → is_unfinished (task_at s.tasks i).phase ≡ true → any_unfinished s.tasks ≡ true
  busy i l h = list_any_at (λ t. is_unfinished t.phase) s.tasks i no_task l h

  goes : (i : ℕ) (w : Work) → i < length s.tasks → in_flight (task_at s.tasks i).phase ≡ true → g ≡ given s i w false → IsGiven s g
  goes i w l h same = rw same (record { there = l; part_is = refl; lease_is = refl; busy = busy i l (flying (task_at s.tasks i).phase h); waits = λ q. absurd (false≢true q); flies = λ q. h })

  starts : (i : ℕ) (w : Work) → i < length s.tasks → is_pending (task_at s.tasks i).phase ≡ true → g ≡ given s i w true → IsGiven s g
  starts i w l h same = rw same (record { there = l; part_is = refl; lease_is = refl; busy = busy i l (waiting (task_at s.tasks i).phase h); waits = λ q. h; flies = λ q. absurd (true≢false q) })

  start : (o : Option ℕ) → position (may_start s.caps s.tasks) s.tasks ≡ o → ◌≡◌ {A = Result Given Idle} (Ok g) (or_start s o) → IsGiven s g
  start None q r = cc
  start (Some i) q r =
      let f = position-Some (may_start s.caps s.tasks) s.tasks i no_task q in
      starts i (next_step (task_at s.tasks i)) f.0 (both (is_pending (task_at s.tasks i).phase) _ f.1) (cc)

  step : (o : Option ℕ) → position (λ t. is_in_progress t.phase && is_free t.lease) s.tasks ≡ o → ◌≡◌ {A = Result Given Idle} (Ok g) (or_step s o) → IsGiven s g
  step None q r = start (position (may_start s.caps s.tasks) s.tasks) refl r
  step (Some i) q r =
      let f = position-Some (λ t. is_in_progress t.phase && is_free t.lease) s.tasks i no_task q in
      goes i (next_step (task_at s.tasks i)) f.0 (progress_flies (task_at s.tasks i).phase (both (is_in_progress (task_at s.tasks i).phase) (is_free (task_at s.tasks i).lease) f.1)) (cc)

  cancel : (o : Option ℕ) → position (λ t. is_aborting t.phase && is_free t.lease) s.tasks ≡ o → ◌≡◌ {A = Result Given Idle} (Ok g) (or_cancel s o) → IsGiven s g
  cancel None q r = step (position (λ t. is_in_progress t.phase && is_free t.lease) s.tasks) refl r
  cancel (Some i) q r =
      let f = position-Some (λ t. is_aborting t.phase && is_free t.lease) s.tasks i no_task q in
      goes i Cancel f.0 (aborting_flies (task_at s.tasks i).phase (both (is_aborting (task_at s.tasks i).phase) (is_free (task_at s.tasks i).lease) f.1)) (cc)

-- the executor's leases
taken_gives : (s : State) (r : Result Given Idle) → r ≡ next_work s → (taken s r).leases ≤ s.leases + 1
taken_gives s (Ok g) e = omega (arith, (is_given s g e).lease_is)
taken_gives s (Err reason) e = omega arith

end_gives : (s : State) (lease : ℕ) → (end_lease s lease).leases ≡ s.leases
unfolding end_lease
end_gives s lease = by (position (holds lease) s.tasks) where
  by : (o : Option ℕ) → (ended_at s o).leases ≡ s.leases
  by None = refl
  by (Some i) = refl

ended_gives : (f : Task → Task) (s : State) (lease : ℕ) (r : Result ℕ LeaseFault) → (ended f s lease r).leases ≤ s.leases + 1
ended_gives f s lease (Ok i) = omega arith
ended_gives f s lease (Err (Stale n)) = omega arith
ended_gives f s lease (Err AbortAsked) = omega (arith, end_gives s lease)

stop_gives : (s : State) (force : Bool) → (after_stop s force).leases ≤ s.leases + 1
stop_gives s force = by (any_unfinished s.tasks) where
  by : (c : Bool) → (cond c (record s { tasks = map (stopped_by force) s.tasks; stopped = true }) s).leases ≤ s.leases + 1
  by true = omega arith
  by false = omega arith

kill_gives : (s : State) (b : ℕ) → (after_kill s b).leases ≤ s.leases + 1
kill_gives s b = by (can_die s b) where
  by : (c : Bool) → (cond c (record s { tasks = map (killed_by b) s.tasks; hosts = map (marked b) s.hosts }) s).leases ≤ s.leases + 1
  by true = omega arith
  by false = omega arith

launch_gives : (s : State) (ps : List Proposal) (o : Option ℕ) → (launched s ps o).leases ≤ s.leases + 1
launch_gives s ps None = omega arith
launch_gives s ps (Some i) = omega arith

move_gives : (s : State) (m : Move) → (after_event s m).leases ≤ s.leases + 1
move_gives s Take = taken_gives s (next_work s) refl
move_gives s (Copied lease) = ended_gives one_copied s lease (test_lease s lease ForCopy)
move_gives s (CopyFailed lease) = ended_gives one_failed s lease (test_lease s lease ForCopy)
move_gives s (Committed lease) = ended_gives committed s lease (test_lease s lease ForCommit)
move_gives s (Cancelled lease) = ended_gives cancelled s lease (test_lease s lease ForCancel)
move_gives s (GivenBack lease) = omega (arith, end_gives s lease)
move_gives s (Stops force) = stop_gives s force
move_gives s (Killed broker) = kill_gives s broker
move_gives s (Launched proposals) = launch_gives s proposals (first_unfinished s)
move_gives s (CapsSet caps) = omega arith

lifted : (e : Event) (s u : State) → IsMove e s u → u.leases ≤ s.leases + 1
lifted e s u (inl is) = rw is (omega arith)
lifted e s u (inr (m, fits, can, is)) = rw is (move_gives s m)

-- the tickets
moved_tickets : (d : Desk) (u : State) → (moved d u).tickets ≡ d.tickets
moved_tickets d u = by (ends_execution d.exec.tasks u.tasks) where
  found : (o : Option ℕ) → (execution_ended (with_exec d u) o).tickets ≡ d.tickets
  found None = refl
  found (Some i) = ending (list_all (λ t. is_completed t.phase) u.tasks)
    where
      ending : (b : Bool) → (cond b (with_status (with_exec d u) i status.Completed) (with_status (with_job (with_exec d u) i (ended_job (with_exec d u) i)) i status.CompletedWithError)).tickets ≡ d.tickets
      ending true = refl
      ending false = refl

  by : (b : Bool) → (cond b (execution_ended (with_exec d u) (position (λ t. is_in_execution t.status) d.tasks)) (with_exec d u)).tickets ≡ d.tickets
  by true = found (position (λ t. is_in_execution t.status) d.tasks)
  by false = refl

module _ (d : Desk) where
  submit_gives : (ask : AskView) (o : Option Reply) → (unless_refused d ask o).tickets ≤ d.tickets + 1
  submit_gives ask None = omega arith
  submit_gives ask (Some r) = omega arith

  planned_gives : (i : ℕ) (ps : List Proposal) → (with_plan d i ps).tickets ≤ d.tickets + 1
  planned_gives i ps = by (is_done_at_once (user_task_at d.tasks i) ps) refl where
    by : (c : Bool) → is_done_at_once (user_task_at d.tasks i) ps ≡ c → (with_plan d i ps).tickets ≤ d.tickets + 1
    by true e = rw e (omega arith)
    by false e = rw e (omega arith)

  take_gives : (o : Option ℕ) → (ticketed d o).tickets ≤ d.tickets + 1
  take_gives None = omega arith
  take_gives (Some i) = omega arith

  back_gives : (o : Option ℕ) → (planned_back d o).tickets ≤ d.tickets + 1
  back_gives None = omega arith
  back_gives (Some i) = omega arith

  plan_gives : (now : Moment) (p : PlanView) (o : Option ℕ) → (planned now d p o).tickets ≤ d.tickets + 1
  plan_gives now p None = omega arith
  plan_gives now p (Some i) = by (is_plan_for now.cluster d i p) (is_done_at_once (user_task_at d.tasks i) (proposals p.start p.end)) refl where
    by : (b c : Bool) → is_done_at_once (user_task_at d.tasks i) (proposals p.start p.end) ≡ c → (cond b (with_plan d i (proposals p.start p.end)) (unticketed d i)).tickets ≤ d.tickets + 1
    by true true e = rw e (omega arith)
    by true false e = rw e (omega arith)
    by false c e = omega arith

  failure_gives : (now : Moment) (f : FailureView) (o : Option ℕ) → (refused now d f o).tickets ≤ d.tickets + 1
  failure_gives now f None = omega arith
  failure_gives now f (Some i) = by (is_failure_for now.cluster d i f) where
    by : (b : Bool) → (cond b (with_failure d i f) (unticketed d i)).tickets ≤ d.tickets + 1
    by true = omega arith
    by false = omega arith

  move_keeps : (u : State) → (moved d u).tickets ≤ d.tickets + 1
  move_keeps u = omega (arith, moved_tickets d u)

  unless : (u : State) (b : Bool) → (cond b d (moved d u)).tickets ≤ d.tickets + 1
  unless u true = omega arith
  unless u false = move_keeps u

  where_so : (u : State) (b : Bool) → (cond b (moved d u) d).tickets ≤ d.tickets + 1
  where_so u true = move_keeps u
  where_so u false = omega arith

  unless_set : (u : State) (b : Bool) → (cond b d (with_exec d u)).tickets ≤ d.tickets + 1
  unless_set u true = omega arith
  unless_set u false = omega arith

change_gives : (d : Desk) (ask : AskView) (ps : List Proposal) (o : Option Reply) → (unless_unchanged d ask ps o).tickets ≤ d.tickets + 1
change_gives d ask ps (Some r) = omega arith
change_gives d ask ps None = planned_gives (admitted d ask) (length d.tasks) ps

asked_gives : (file : Meaning) (now : Moment) (d : Desk) (ask : AskView) (b : Bool) → (after_new file now d ask b).tickets ≤ d.tickets + 1
asked_gives file now d ask true = change_gives d ask (changes_asked now d ask) (change_refusal now d ask)
asked_gives file now d ask false = submit_gives d ask (refusal_of file now d ask)

event_gives : (file : Meaning) (s : Core) (e : Event) → (next file s e).desk.tickets ≤ s.desk.tickets + 1
event_gives file s (event.Submit ask None) = asked_gives file (moment_of file s) s.desk ask (changes_factor ask)
event_gives file s event.PlanTake = take_gives s.desk (first_waiting s.desk)
event_gives file s (event.Planned ticket plan) = plan_gives s.desk (moment_of file s) plan (holder_of ticket s.desk.jobs)
event_gives file s (event.Refused ticket failure) = failure_gives s.desk (moment_of file s) failure (holder_of ticket s.desk.jobs)
event_gives file s (event.PlanBack ticket) = back_gives s.desk (holder_of ticket s.desk.jobs)
event_gives file s (event.Stop force) = unless s.desk (after_event s.desk.exec (Stops force)) s.desk.closing
event_gives file s (event.Kill broker) = unless s.desk (after_event s.desk.exec (Killed broker)) s.desk.closing
event_gives file s (event.Caps asked) = unless_set s.desk (after_event s.desk.exec (CapsSet (caps_of s.desk asked))) s.desk.closing
event_gives file s (event.Heal cause ask) = asked_gives file (moment_of file s) s.desk ask (changes_factor ask)
event_gives file s event.Take = move_keeps s.desk (after_event s.desk.exec Take)
event_gives file s (event.Copied receipt) = where_so s.desk (after_event s.desk.exec (Copied receipt.lease)) (is_receipt s.desk.exec receipt)
event_gives file s (event.CopyFailed lease) = move_keeps s.desk (after_event s.desk.exec (CopyFailed lease))
event_gives file s (event.Commit lease) = move_keeps s.desk (after_event s.desk.exec (Committed lease))
event_gives file s (event.Cancel lease) = move_keeps s.desk (after_event s.desk.exec (Cancelled lease))
event_gives file s (event.GiveBack lease) = move_keeps s.desk (after_event s.desk.exec (GivenBack lease))
event_gives file s _ = omega arith

-- over all events from a sound state
more_given : (file : Meaning) (s : Core) (events : List Event) (n : ℕ) → IsInput file → AreLegal events → IsSound file s.desk → AreGiven s.desk n → AreGiven (fold (next file) s events).desk (n + length events)
more_given file s [] n input legal sound g = record { leases = omega (arith, g.leases); tickets = omega (arith, g.tickets) }
more_given file s (e ∷ es) n input legal sound g =
    let moved : (next file s e).desk.exec.leases ≤ s.desk.exec.leases + 1 = lifted e s.desk.exec (next file s e).desk.exec (events_move_executor file s e input legal.0 sound) in
    let one : AreGiven (next file s e).desk (n + 1) = record { leases = omega (arith, g.leases, moved); tickets = omega (arith, g.tickets, event_gives file s e) } in
    let all = more_given file (next file s e) es (n + 1) input legal.1 (each_event_keeps_sound file s e input legal.0 sound) one in
    record { leases = omega (arith, all.leases); tickets = omega (arith, all.tickets) }

none_given : (file : Meaning) → AreGiven (opening_of file).desk 0
unfolding opening_desk
none_given file = record { leases = omega arith; tickets = omega arith }

pub entries_give_one_each : EntriesGiveOneEach
unfolding state_after
entries_give_one_each file events input legal =
    let all = more_given file (opening_of file) events 0 input legal (opening_is_sound file input) (none_given file) in
    record { leases = omega (arith, all.leases); tickets = omega (arith, all.tickets) }
