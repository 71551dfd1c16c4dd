-- The room that the journal keeps: for each lease and ticket that is out, and for the first Close.
use Rattle.std.proofs.Common.{◌≡◌, ◌∙◌, ℕ, ◌+◌, ◌<◌, ◌≤◌, Bool, true, false, not, ◌&&◌, cond, List, [], ◌∷◌, ◌++◌, map, set, length, refl, sym, ap, arith, zero, suc}
use Rattle.std.specs.Prelude.{Option, Some, None, Result, Ok, Err, is_some, option_map, nat_lt, ◌==◌, ◌||◌}
use Rattle.std.specs.List.{count_by, list_all, list_any, position, zip}
use Rattle.std.proofs.lemmas.Bool.{true≢false, false≢true}
use Rattle.std.proofs.lemmas.List.Folds.{list_any_at}
use Rattle.std.proofs.lemmas.List.Quantifiers.{position-Some}
use Rattle.std.proofs.lemmas.List.Sums.{sum_by-cons, sum_by-append}
use Rattle.plan_terms.specs.Change.{proposals}
use Rattle.plan_terms.specs.declared.lists.Proposal.{Proposal}
use Rattle.goal_set.specs.Kept.{PlanView, FailureView}
use Rattle.cluster_gate.specs.Receipts.{ReceiptView}
use Rattle.exec_terms.specs.declared.replies.Given.{Given}
use Rattle.exec_terms.specs.declared.replies.Idle.{Idle}
use Rattle.exec_terms.specs.declared.replies.LeaseFault.{LeaseFault}
use Rattle.exec_terms.specs.declared.replies.LeaseFault.TheVariants.{Stale, AbortAsked}
use Rattle.exec_terms.specs.declared.task.Task.{Task}
use Rattle.exec_terms.specs.declared.work.Lease.{Lease}
use Rattle.exec_terms.specs.declared.work.Work.{Work}
use Rattle.exec_terms.specs.declared.work.Work.TheVariants.{Copy, Commit, Cancel}
use Rattle.exec_terms.specs.declared.phase.Phase.TheVariants.{Aborting}
use Rattle.exec_terms.specs.declared.work.WorkKind.{WorkKind}
use Rattle.exec_terms.specs.declared.work.WorkKind.TheVariants.{Copy as ForCopy, Commit as ForCommit, Cancel as ForCancel}
use Rattle.exec_terms.specs.Words.{has_number, has_number_for, holds, holds_for, in_flight, is_aborting, is_cancel, is_completed, is_for, is_free, needs}
use Rattle.exec_terms.specs.Machine.{State, no_task, task_at, any_unfinished, first_unfinished, launched, next_work, taken, with_lease, after_take, after_launch, after_caps}
use Rattle.exec_terms.specs.Leases.{ended_at, end_lease, ended, given_under, held_by, released, test_lease, tested, one_copied, one_failed, committed, cancelled, after_copied, after_copy_failed, after_commit, after_cancel}
use Rattle.exec_terms.specs.Stops.{stopped_by, killed_by, phase_killed, marked, can_die, after_stop, after_kill}
use Rattle.exec_terms.specs.Tally.{leases_out}
use Rattle.exec_terms.proofs.Calls.{worth}
use Rattle.exec_terms.proofs.Counts.{count_by-map, count_by-set, count_by-set_one}
use Rattle.exec_terms.proofs.Launch.{all_pending}
use Rattle.exec_terms.proofs.WorkLeft.{holds_too, position-None}
use Rattle.user_tasks.specs.Asks.{AskView, changes_factor}
use Rattle.user_tasks.specs.declared.table.UserTask.{UserTask}
use Rattle.cluster_json.specs.File.{Meaning}
use Rattle.std.proofs.lemmas.List.{length-append}
use Rattle.user_tasks.specs.declared.table.Status.TheVariants as status
use Rattle.core_terms.specs.State.{Desk, Moment, moment_of, no_job, job_at}
use Rattle.core_terms.specs.Jobs.{admitted, is_done_at_once, is_in_execution, new_job, no_user_task, planned_job, user_task_at, with_job, with_plan, with_status}
use Rattle.core_terms.specs.Submits.{after_new, change_refusal, changes_asked, refusal_of, unless_refused, unless_unchanged}
use Rattle.core_terms.specs.Plans.{first_waiting, goal_failed, has_ticket, holder_of, is_ticket, is_failure_for, is_plan_for, planned, planned_back, refused, ticketed, unticketed, waits, with_failure}
use Rattle.core_terms.specs.Works.{caps_of, closed, ended_job, ends_execution, execution_ended, is_copy, is_receipt, is_receipt_of, moved, with_exec}
use Rattle.core_terms.specs.History.{kept_for}
use Rattle.core_terms.specs.declared.events.Event.TheVariants as event
use Rattle.core_terms.specs.declared.jobs.Job.{Job}
use Rattle.core_terms.specs.declared.replies.Reply.{Reply}
use Rattle.core_laws.specs.Books.{RoomIsKept}
use Rattle.core_laws.proofs.Counts.{count_by-drop, count_by-same}
use Rattle.core_laws.proofs.Given.{is_given}
use Rattle.core_laws.proofs.Jobs.{absent}

abbrev is_out : Task → Bool
is_out t = not (is_free t.lease)

-- a task that holds a lease has one out
holding_out : (n : ℕ) (o : Option Lease) → has_number n o ≡ true → not (is_free o) ≡ true
holding_out n None h = absurd (false≢true h)
holding_out n (Some l) h = refl

free_in : (t : Task) → t.lease ≡ None → is_out t ≡ false
free_in t e = rw e refl

-- where some pass, there is a first one
pub some_place : (p : Task → Bool) (xs : List Task) → list_any p xs ≡ true → position p xs ≡ None → ⊥
some_place p xs h e = true≢false (sym h ∙ absent p xs (λ i d l. position-None p xs i d e l))

-- a lease that is out ends
end_less : (s : State) (lease : ℕ) → list_any (holds lease) s.tasks ≡ true → leases_out (end_lease s lease).tasks + 1 ≤ leases_out s.tasks
unfolding end_lease
end_less s lease h = by (position (holds lease) s.tasks) refl where
  by : (o : Option ℕ) → position (holds lease) s.tasks ≡ o → leases_out (ended_at s o).tasks + 1 ≤ leases_out s.tasks
  by None e = absurd (some_place (holds lease) s.tasks h e)
  by (Some i) e =
      let f = position-Some (holds lease) s.tasks i no_task e in
      omega (arith, count_by-drop is_out s.tasks i (released (task_at s.tasks i)) no_task f.0 (holding_out lease (task_at s.tasks i).lease f.1) refl)

end_most : (s : State) (lease : ℕ) → leases_out (end_lease s lease).tasks ≤ leases_out s.tasks
unfolding end_lease
end_most s lease = by (position (holds lease) s.tasks) refl where
  by : (o : Option ℕ) → position (holds lease) s.tasks ≡ o → leases_out (ended_at s o).tasks ≤ leases_out s.tasks
  by None e = omega arith
  by (Some i) e = count_by-set is_out s.tasks i (released (task_at s.tasks i)) no_task (position-Some (holds lease) s.tasks i no_task e).0 (λ q. absurd (false≢true q))

-- a task that holds it for a kind of work holds it
held_so : (lease : ℕ) (kind : WorkKind) (xs : List Task) → list_any (holds_for lease kind) xs ≡ true → list_any (holds lease) xs ≡ true
held_so lease kind xs h = by (list_any (holds lease) xs) refl where
  by : (b : Bool) → list_any (holds lease) xs ≡ b → b ≡ true
  by true e = refl
  by false e = absurd (some_place (holds_for lease kind) xs h (none (position (holds_for lease kind) xs) refl)) where
    none : (o : Option ℕ) → position (holds_for lease kind) xs ≡ o → position (holds_for lease kind) xs ≡ None
    none None q = q
    none (Some i) q =
        let f = position-Some (holds_for lease kind) xs i no_task q in
        absurd (true≢false (sym (list_any_at (holds lease) xs i no_task f.0 (holds_too lease kind (task_at xs i).lease f.1)) ∙ e))

-- an event with a lease that is out for its kind of work ends the lease
pub ended_less : (f : Task → Task) → ((t : Task) → (f t).lease ≡ None) → (s : State) (lease : ℕ) (kind : WorkKind) → list_any (holds_for lease kind) s.tasks ≡ true
    → leases_out (ended f s lease (test_lease s lease kind)).tasks + 1 ≤ leases_out s.tasks
unfolding test_lease
ended_less f free s lease kind h = by (position (holds_for lease kind) s.tasks) refl where
  by : (o : Option ℕ) → position (holds_for lease kind) s.tasks ≡ o → leases_out (ended f s lease (tested s kind o)).tasks + 1 ≤ leases_out s.tasks
  by None e = absurd (some_place (holds_for lease kind) s.tasks h e)
  by (Some i) e = asked (is_aborting (task_at s.tasks i).phase && not (is_cancel kind)) where
    asked : (b : Bool) → leases_out (ended f s lease (cond b (Err AbortAsked) (Ok i))).tasks + 1 ≤ leases_out s.tasks
    asked true = end_less s lease (held_so lease kind s.tasks h)
    asked false =
        let p = position-Some (holds_for lease kind) s.tasks i no_task e in
        omega (arith, count_by-drop is_out s.tasks i (f (task_at s.tasks i)) no_task p.0 (holding_out lease (task_at s.tasks i).lease (holds_too lease kind (task_at s.tasks i).lease p.1)) (free_in (f (task_at s.tasks i)) (free (task_at s.tasks i))))

-- no event with a lease gives one
ended_most : (f : Task → Task) → ((t : Task) → (f t).lease ≡ None) → (s : State) (lease : ℕ) (kind : WorkKind) → leases_out (ended f s lease (test_lease s lease kind)).tasks ≤ leases_out s.tasks
ended_most f free s lease kind = by (test_lease s lease kind) refl where
  by : (r : Result ℕ LeaseFault) → r ≡ test_lease s lease kind → leases_out (ended f s lease r).tasks ≤ leases_out s.tasks
  by (Ok i) e = count_by-set is_out s.tasks i (f (task_at s.tasks i)) no_task (worth s lease kind i e).known (λ q. absurd (true≢false (sym q ∙ free_in (f (task_at s.tasks i)) (free (task_at s.tasks i)))))
  by (Err (Stale n)) e = omega arith
  by (Err AbortAsked) e = end_most s lease

pub failed_free : (t : Task) → (one_failed t).lease ≡ None
failed_free t = by (nat_lt (t.faults + 1) 3) where
  by : (c : Bool) → (cond c (record t { faults = t.faults + 1; lease = None }) (record t { faults = t.faults + 1; phase = Aborting; doomed = true; lease = None })).lease ≡ None
  by true = refl
  by false = refl

-- a take gives at most one
pub take_one : (s : State) → leases_out (after_take s).tasks ≤ leases_out s.tasks + 1
take_one s = by (next_work s) refl where
  by : (r : Result Given Idle) → r ≡ next_work s → leases_out (taken s r).tasks ≤ leases_out s.tasks + 1
  by (Ok g) e = count_by-set_one is_out s.tasks g.task (with_lease g.lease g.work (task_at s.tasks g.task)) no_task (is_given s g e).there
  by (Err why) e = omega arith

stop_most : (s : State) (force : Bool) → leases_out (after_stop s force).tasks ≤ leases_out s.tasks
stop_most s force = by (any_unfinished s.tasks) where
  by : (c : Bool) → leases_out (cond c (record s { tasks = map (stopped_by force) s.tasks; stopped = true }) s).tasks ≤ leases_out s.tasks
  by true = count_by-map is_out (stopped_by force) (λ t q. q) s.tasks
  by false = omega arith

killed_out : (b : ℕ) (t : Task) → is_out (killed_by b t) ≡ true → is_out t ≡ true
killed_out b t = by (needs t b) where
  by : (c : Bool) → is_out (cond c (record t { phase = phase_killed t.phase; doomed = t.doomed || in_flight t.phase }) t) ≡ true → is_out t ≡ true
  by true q = q
  by false q = q

kill_most : (s : State) (b : ℕ) → leases_out (after_kill s b).tasks ≤ leases_out s.tasks
kill_most s b = by (can_die s b) where
  by : (c : Bool) → leases_out (cond c (record s { tasks = map (killed_by b) s.tasks; hosts = map (marked b) s.hosts }) s).tasks ≤ leases_out s.tasks
  by true = count_by-map is_out (killed_by b) (killed_out b) s.tasks
  by false = omega arith

pub launch_most : (s : State) (ps : List Proposal) → leases_out (after_launch s ps).tasks ≤ leases_out s.tasks
launch_most s ps = by (first_unfinished s) where
  by : (o : Option ℕ) → leases_out (launched s ps o).tasks ≤ leases_out s.tasks
  by (Some i) = omega arith
  by None = omega (arith, all_pending is_out s.chunks ps (λ q. refl))

-- a place of two lists beside one another is one of the second
zip_within : {X Y : Type 0} (xs : List X) (ys : List Y) (i : ℕ) → i < length (zip xs ys) → i < length ys
zip_within [] ys i l = absurd (omega arith)
zip_within (x ∷ xs) [] i l = absurd (omega arith)
zip_within (x ∷ xs) (y ∷ ys) zero l = omega arith
zip_within (x ∷ xs) (y ∷ ys) (suc i) l = let h = zip_within xs ys i (omega arith) in omega (arith, h)

-- the tickets that are out
abbrev is_given_out : Job → Bool
is_given_out j = is_some j.ticket

abbrev tickets_out : Desk → ℕ
tickets_out d = count_by (λ j. is_some j.ticket) d.jobs

abbrev for_close : Desk → ℕ
for_close d = cond d.closing 0 1

-- the desk, where its executor has moved on, keeps its tickets
module _ (d : Desk) (one : length d.jobs ≡ length d.tasks) where
  pub ended_tickets : (u : State) (i : ℕ) → i < length d.tasks → count_by is_given_out (set d.jobs i (ended_job (with_exec d u) i)) ≡ tickets_out d
  ended_tickets u i l = count_by-same is_given_out d.jobs i (ended_job (with_exec d u) i) no_job (omega (arith, l, one)) refl

  pub moved_kept : (u : State) → kept_for (moved d u) ≡ leases_out u.tasks + tickets_out d + for_close d
  moved_kept u = by (ends_execution d.exec.tasks u.tasks) where
    found : (o : Option ℕ) → position (λ t. is_in_execution t.status) d.tasks ≡ o → kept_for (execution_ended (with_exec d u) o) ≡ leases_out u.tasks + tickets_out d + for_close d
    found None e = refl
    found (Some i) e = ending (list_all (λ t. is_completed t.phase) u.tasks)
      where
        ending : (b : Bool) → kept_for (cond b (with_status (with_exec d u) i status.Completed) (with_status (with_job (with_exec d u) i (ended_job (with_exec d u) i)) i status.CompletedWithError)) ≡ leases_out u.tasks + tickets_out d + for_close d
        ending true = refl
        ending false = ap (λ (n : ℕ). leases_out u.tasks + n + for_close d) (ended_tickets u i (position-Some (λ t. is_in_execution t.status) d.tasks i no_user_task e).0)

    by : (b : Bool) → kept_for (cond b (execution_ended (with_exec d u) (position (λ t. is_in_execution t.status) d.tasks)) (with_exec d u)) ≡ leases_out u.tasks + tickets_out d + for_close d
    by true = found (position (λ t. is_in_execution t.status) d.tasks) refl
    by false = refl

  -- where the move gives no lease, and where it ends one
  pub move_most : (u : State) → leases_out u.tasks ≤ leases_out d.exec.tasks → kept_for (moved d u) + 1 ≤ kept_for d + 2
  move_most u h = omega (arith, moved_kept u, h)

  pub move_less : (u : State) → leases_out u.tasks + 1 ≤ leases_out d.exec.tasks → kept_for (moved d u) + 1 ≤ kept_for d
  move_less u h = omega (arith, moved_kept u, h)

  pub move_one : (u : State) → leases_out u.tasks ≤ leases_out d.exec.tasks + 1 → kept_for (moved d u) + 1 ≤ kept_for d + 2
  move_one u h = omega (arith, moved_kept u, h)

  -- an event with a lease, sure or not
  pub lease_move : (u : State) → (b : Bool) → (b ≡ true → leases_out u.tasks + 1 ≤ leases_out d.exec.tasks) → leases_out u.tasks ≤ leases_out d.exec.tasks
      → kept_for (moved d u) + 1 ≤ cond b (kept_for d) (kept_for d + 2)
  lease_move u true less most = move_less u (less refl)
  lease_move u false less most = move_most u most

  unless_closing : (u : State) → leases_out u.tasks ≤ leases_out d.exec.tasks → (b : Bool) → kept_for (cond b d (moved d u)) + 1 ≤ kept_for d + 2
  unless_closing u h true = omega arith
  unless_closing u h false = move_most u h

  unless_closed : (u : State) → leases_out u.tasks ≤ leases_out d.exec.tasks → (b : Bool) → kept_for (cond b d (with_exec d u)) + 1 ≤ kept_for d + 2
  unless_closed u h true = omega arith
  unless_closed u h false = omega (arith, h)

  -- a new job has no ticket
  submitted : (ask : AskView) (o : Option Reply) → kept_for (unless_refused d ask o) + 1 ≤ kept_for d + 2
  submitted ask (Some r) = omega arith
  submitted ask None =
      let jobs : count_by is_given_out (d.jobs ++ new_job ask ∷ []) ≡ tickets_out d = sum_by-append (λ j. cond (is_given_out j) 1 0) d.jobs (new_job ask ∷ []) ∙ omega (arith, sum_by-cons (λ j. cond (is_given_out j) 1 0) (new_job ask) []) in
      omega (arith, jobs)

  -- the plan of a user task
  planned_at : (i : ℕ) (ps : List Proposal) → i < length d.jobs → kept_for (with_plan d i ps) + 1 ≤ kept_for d + 1
  planned_at i ps l = chosen (is_done_at_once (user_task_at d.tasks i) ps) refl where
    fewer : count_by is_given_out (set d.jobs i (planned_job (job_at d.jobs i) ps)) ≤ tickets_out d
    fewer = count_by-set is_given_out d.jobs i (planned_job (job_at d.jobs i) ps) no_job l (λ q. absurd (false≢true q))

    chosen : (b : Bool) → is_done_at_once (user_task_at d.tasks i) ps ≡ b → kept_for (with_plan d i ps) + 1 ≤ kept_for d + 1
    chosen true q = rw q (omega (arith, fewer))
    chosen false q = rw q (omega (arith, fewer, launch_most d.exec ps))

  waiting_there : (i : ℕ) → first_waiting d ≡ Some i → i < length d.jobs
  waiting_there i e = zip_within d.tasks d.jobs i (position-Some waits (zip d.tasks d.jobs) i (no_user_task, no_job) e).0

  taken_out : (o : Option ℕ) → first_waiting d ≡ o → kept_for (ticketed d o) + 1 ≤ kept_for d + 2
  taken_out None e = omega arith
  taken_out (Some i) e = omega (arith, count_by-set_one is_given_out d.jobs i (record (job_at d.jobs i) { ticket = Some (d.tickets + 1) }) no_job (waiting_there i e))

  -- a job gives its ticket up
  given_up : (i : ℕ) (j : Job) → i < length d.jobs → j.ticket ≡ None → count_by is_given_out (set d.jobs i j) ≤ tickets_out d
  given_up i j l e = count_by-set is_given_out d.jobs i j no_job l (λ q. absurd (true≢false (sym q ∙ ap is_some e)))

  holder_there : (n i : ℕ) → holder_of n d.jobs ≡ Some i → (i < length d.jobs) × (is_given_out (job_at d.jobs i) ≡ true)
  holder_there n i e =
      let f = position-Some (has_ticket n) d.jobs i no_job e in
      (f.0, has (job_at d.jobs i).ticket f.1)
    where
      has : (o : Option ℕ) → is_ticket n o ≡ true → is_some o ≡ true
      has None h = absurd (false≢true h)
      has (Some m) h = refl

  back : (n : ℕ) (o : Option ℕ) → holder_of n d.jobs ≡ o → (b : Bool) → list_any (has_ticket n) d.jobs ≡ b → kept_for (planned_back d o) + 1 ≤ cond b (kept_for d) (kept_for d + 2)
  back n None e true h = absurd (no_place h e)
    where
      no_place : list_any (has_ticket n) d.jobs ≡ true → holder_of n d.jobs ≡ None → ⊥
      no_place h e = true≢false (sym h ∙ absent (has_ticket n) d.jobs (λ i x l. position-None (has_ticket n) d.jobs i x e l))
  back n None e false h = omega arith
  back n (Some i) e true h =
      let f = holder_there n i e in
      omega (arith, count_by-drop is_given_out d.jobs i (record (job_at d.jobs i) { ticket = None }) no_job f.0 f.1 refl)
  back n (Some i) e false h = omega (arith, given_up i (record (job_at d.jobs i) { ticket = None }) (holder_there n i e).0 refl)

  refuses : (now : Moment) (f : FailureView) (n : ℕ) (o : Option ℕ) → holder_of n d.jobs ≡ o → kept_for (refused now d f o) + 1 ≤ kept_for d + 2
  refuses now f n None e = omega arith
  refuses now f n (Some i) e = by (is_failure_for now.cluster d i f) where
    by : (b : Bool) → kept_for (cond b (with_failure d i f) (unticketed d i)) + 1 ≤ kept_for d + 2
    by true = omega (arith, given_up i (record (job_at d.jobs i) { ticket = None; broken = Some (record { goal = goal_failed f; left = f.left }) }) (holder_there n i e).0 refl)
    by false = omega (arith, given_up i (record (job_at d.jobs i) { ticket = None }) (holder_there n i e).0 refl)

  plans : (now : Moment) (p : PlanView) (n : ℕ) (o : Option ℕ) → holder_of n d.jobs ≡ o → kept_for (planned now d p o) + 1 ≤ kept_for d + 2
  plans now p n None e = omega arith
  plans now p n (Some i) e = by (is_plan_for now.cluster d i p) where
    by : (b : Bool) → kept_for (cond b (with_plan d i (proposals p.start p.end)) (unticketed d i)) + 1 ≤ kept_for d + 2
    by false = omega (arith, given_up i (record (job_at d.jobs i) { ticket = None }) (holder_there n i e).0 refl)
    by true = chosen (is_done_at_once (user_task_at d.tasks i) (proposals p.start p.end)) refl
      where
        chosen : (b : Bool) → is_done_at_once (user_task_at d.tasks i) (proposals p.start p.end) ≡ b → kept_for (with_plan d i (proposals p.start p.end)) + 1 ≤ kept_for d + 2
        chosen true q = rw q (omega (arith, given_up i (planned_job (job_at d.jobs i) (proposals p.start p.end)) (holder_there n i e).0 refl))
        chosen false q = rw q (omega (arith, given_up i (planned_job (job_at d.jobs i) (proposals p.start p.end)) (holder_there n i e).0 refl, launch_most d.exec (proposals p.start p.end)))

  closes : (b : Bool) → d.closing ≡ b → kept_for (closed d) + 1 ≤ cond (not b) (kept_for d) (kept_for d + 2)
  closes true e = omega arith
  closes false e = rw e (omega arith)

-- a receipt that fits is of a lease that is out for a copy
pub fitting : (s : State) (r : ReceiptView) → is_receipt s r ≡ true → list_any (holds_for r.lease ForCopy) s.tasks ≡ true
fitting s r h = by (position (holds r.lease) s.tasks) refl h where
  copying : (i : ℕ) (o : Option Lease) → (task_at s.tasks i).lease ≡ o → has_number r.lease o ≡ true → is_receipt_of r (option_map (given_under i (task_at s.tasks i)) o) ≡ true
      → has_number_for r.lease ForCopy o ≡ true
  copying i None e n q = absurd (false≢true n)
  copying i (Some l) e n q = rw n (for l.work (and_right ((task_at s.tasks i).part == r.part) _ q)) where
    for : (w : Work) → is_copy w r.to r.chunk ≡ true → is_for ForCopy w ≡ true
    for (Copy b k) q = refl
    for Commit q = absurd (false≢true q)
    for Cancel q = absurd (false≢true q)

    and_right : (a b : Bool) → (a && b) ≡ true → b ≡ true
    and_right true b q = q
    and_right false b q = absurd (false≢true q)

  by : (o : Option ℕ) → position (holds r.lease) s.tasks ≡ o → is_receipt_of r (held_by s o) ≡ true → list_any (holds_for r.lease ForCopy) s.tasks ≡ true
  by None e q = absurd (false≢true q)
  by (Some i) e q =
      let f = position-Some (holds r.lease) s.tasks i no_task e in
      list_any_at (holds_for r.lease ForCopy) s.tasks i no_task f.0 (copying i (task_at s.tasks i).lease refl f.1 q)

receipt_kept : (d : Desk) → length d.jobs ≡ length d.tasks → (u : State) (b : Bool) → (b ≡ true → leases_out u.tasks + 1 ≤ leases_out d.exec.tasks) → kept_for (cond b (moved d u) d) + 1 ≤ cond b (kept_for d) (kept_for d + 2)
receipt_kept d one u true less = move_less d one u (less refl)
receipt_kept d one u false less = omega arith

-- a change of the replication factor
changed : (d : Desk) → length d.jobs ≡ length d.tasks → (ask : AskView) (ps : List Proposal) (o : Option Reply) → kept_for (unless_unchanged d ask ps o) + 1 ≤ kept_for d + 2
changed d one ask ps (Some r) = omega arith
changed d one ask ps None =
    let new : UserTask = record { ask = ask; status = status.Active } in
    let both : length (d.jobs ++ new_job ask ∷ []) ≡ length (d.tasks ++ new ∷ []) = length-append d.jobs (new_job ask ∷ []) ∙ ap (λ (n : ℕ). n + 1) one ∙ sym (length-append d.tasks (new ∷ [])) in
    omega (arith, planned_at (admitted d ask) both (length d.tasks) ps (omega (arith, length-append d.jobs (new_job ask ∷ []), one)), submitted d one ask None)

asked : (file : Meaning) (now : Moment) (d : Desk) → length d.jobs ≡ length d.tasks → (ask : AskView) (b : Bool) → kept_for (after_new file now d ask b) + 1 ≤ kept_for d + 2
asked file now d one ask true = changed d one ask (changes_asked now d ask) (change_refusal now d ask)
asked file now d one ask false = submitted d one ask (refusal_of file now d ask)

pub room_is_kept : RoomIsKept
room_is_kept file s (event.Submit ask None) input legal h = asked file (moment_of file s) s.desk h.tasks.one_each ask (changes_factor ask)
room_is_kept file s event.PlanTake input legal h = taken_out s.desk h.tasks.one_each (first_waiting s.desk) refl
room_is_kept file s (event.Planned ticket plan) input legal h = plans s.desk h.tasks.one_each (moment_of file s) plan ticket (holder_of ticket s.desk.jobs) refl
room_is_kept file s (event.Refused ticket failure) input legal h = refuses s.desk h.tasks.one_each (moment_of file s) failure ticket (holder_of ticket s.desk.jobs) refl
room_is_kept file s (event.PlanBack ticket) input legal h = back s.desk h.tasks.one_each ticket (holder_of ticket s.desk.jobs) refl (list_any (has_ticket ticket) s.desk.jobs) refl
room_is_kept file s (event.Stop force) input legal h = unless_closing s.desk h.tasks.one_each (after_stop s.desk.exec force) (stop_most s.desk.exec force) s.desk.closing
room_is_kept file s (event.Kill broker) input legal h = unless_closing s.desk h.tasks.one_each (after_kill s.desk.exec broker) (kill_most s.desk.exec broker) s.desk.closing
room_is_kept file s (event.Caps asked) input legal h = unless_closed s.desk h.tasks.one_each (after_caps s.desk.exec (caps_of s.desk asked)) (omega arith) s.desk.closing
room_is_kept file s (event.Heal cause ask) input legal h = asked file (moment_of file s) s.desk h.tasks.one_each ask (changes_factor ask)
room_is_kept file s event.Take input legal h = move_one s.desk h.tasks.one_each (after_take s.desk.exec) (take_one s.desk.exec)
room_is_kept file s (event.Copied receipt) input legal h =
    receipt_kept s.desk h.tasks.one_each (after_copied s.desk.exec receipt.lease) (is_receipt s.desk.exec receipt)
    (λ q. ended_less one_copied (λ t. refl) s.desk.exec receipt.lease ForCopy (fitting s.desk.exec receipt q))
room_is_kept file s (event.CopyFailed lease) input legal h =
    lease_move s.desk h.tasks.one_each (after_copy_failed s.desk.exec lease) (list_any (holds_for lease ForCopy) s.desk.exec.tasks)
    (λ q. ended_less one_failed failed_free s.desk.exec lease ForCopy q) (ended_most one_failed failed_free s.desk.exec lease ForCopy)
room_is_kept file s (event.Commit lease) input legal h =
    lease_move s.desk h.tasks.one_each (after_commit s.desk.exec lease) (list_any (holds_for lease ForCommit) s.desk.exec.tasks)
    (λ q. ended_less committed (λ t. refl) s.desk.exec lease ForCommit q) (ended_most committed (λ t. refl) s.desk.exec lease ForCommit)
room_is_kept file s (event.Cancel lease) input legal h =
    lease_move s.desk h.tasks.one_each (after_cancel s.desk.exec lease) (list_any (holds_for lease ForCancel) s.desk.exec.tasks)
    (λ q. ended_less cancelled (λ t. refl) s.desk.exec lease ForCancel q) (ended_most cancelled (λ t. refl) s.desk.exec lease ForCancel)
room_is_kept file s (event.GiveBack lease) input legal h =
    lease_move s.desk h.tasks.one_each (end_lease s.desk.exec lease) (list_any (holds lease) s.desk.exec.tasks)
    (λ q. end_less s.desk.exec lease q) (end_most s.desk.exec lease)
room_is_kept file s event.Close input legal h = closes s.desk h.tasks.one_each s.desk.closing refl
room_is_kept file s _ input legal h = omega arith
