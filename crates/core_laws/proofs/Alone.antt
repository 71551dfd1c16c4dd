-- What one who works alone meets.
use Rattle.std.proofs.Common.{◌≡◌, ◌∙◌, ℕ, ◌+◌, ◌<◌, ◌≤◌, Bool, true, false, not, ◌&&◌, cond, List, [], ◌∷◌, set, length, get_or, zero, suc, refl, sym, ap, subst, arith}
use Rattle.std.specs.Prelude.{Option, Some, None, Result, Ok, Err, is_some, is_none, ◌==◌}
use Rattle.std.specs.List.{count_by, list_all, list_any, position, zip}
use Rattle.std.proofs.lemmas.Bool.{and_from, eq-eqb, true≢false, false≢true}
use Rattle.std.proofs.lemmas.List.{get_or-set_same, length-set}
use Rattle.std.proofs.lemmas.Slice.Zip.{get_or-zip}
use Rattle.std.proofs.lemmas.List.Folds.{list_any_at}
use Rattle.std.proofs.lemmas.List.Quantifiers.{position-Some}
use Rattle.plan_terms.specs.Change.{proposals}
use Rattle.goal_set.specs.Kept.{PlanView, FailureView}
use Rattle.cluster_json.specs.File.{Meaning}
use Rattle.cluster_gate.specs.Receipts.{ReceiptView}
use Rattle.exec_terms.specs.declared.replies.Given.{Given}
use Rattle.exec_terms.specs.declared.replies.Idle.{Idle}
use Rattle.exec_terms.specs.declared.replies.LeaseFault.{LeaseFault}
use Rattle.exec_terms.specs.declared.replies.LeaseFault.TheVariants.{Stale, AbortAsked}
use Rattle.exec_terms.specs.declared.task.Task.{Task}
use Rattle.exec_terms.specs.declared.work.Work.TheVariants.{Copy}
use Rattle.exec_terms.specs.declared.work.WorkKind.{WorkKind}
use Rattle.exec_terms.specs.declared.work.WorkKind.TheVariants.{Copy as ForCopy, Commit as ForCommit, Cancel as ForCancel}
use Rattle.exec_terms.specs.Words.{copies_left, holds, holds_for, is_aborting, is_cancel, is_completed, is_for, is_free}
use Rattle.exec_terms.specs.Machine.{State, no_task, task_at, any_unfinished, next_work, taken, with_lease, after_take}
use Rattle.exec_terms.specs.Leases.{held, held_by, test_lease, tested, one_copied, one_failed, committed, cancelled, phase_cancelled, reply_by, after_copied, after_copy_failed, after_commit, after_cancel}
use Rattle.exec_terms.specs.Tally.{leases_out}
use Rattle.exec_terms.specs.Valid.{IsValid}
use Rattle.exec_terms.proofs.Counts.{count_by-set, count_by-set_one}
use Rattle.exec_terms.proofs.Take.{IsValid-take}
use Rattle.exec_terms.proofs.WorkLeft.{position-None, same_place}
use Rattle.user_tasks.specs.declared.table.UserTask.{UserTask}
use Rattle.user_tasks.specs.declared.table.Status.{Status}
use Rattle.user_tasks.specs.declared.table.Status.TheVariants as status
use Rattle.core_terms.specs.Ends.{Ends, IsFailureFor, IsPlanFor, Works}
use Rattle.core_terms.specs.State.{Core, Desk, Moment, moment_of, no_job, job_at}
use Rattle.core_terms.specs.Jobs.{is_active, is_done_at_once, is_in_execution, no_user_task, plans_execution, planned_job, user_task_at, with_job, with_plan, with_status}
use Rattle.core_terms.specs.Plans.{first_waiting, goal_failed, has_ticket, holder_of, is_failure_for, is_plan_for, planned, problem_at, problem_of_failure, problem_of_plan, refused, reply_take_job, ticketed, waits}
use Rattle.core_terms.specs.Problem.{ProblemView}
use Rattle.core_terms.specs.Works.{copied_told, commit_told, cancel_told, failed_told, ended_job, ends_execution, execution_ended, is_copy, is_receipt, moved, take_told, with_exec}
use Rattle.core_terms.specs.Step.{reply_of, next}
use Rattle.core_terms.specs.Sound.{AreTasks, AreTickets, IsSound}
use Rattle.core_terms.specs.declared.events.Event.{Event}
use Rattle.core_terms.specs.declared.events.Event.TheVariants as event
use Rattle.core_terms.specs.declared.jobs.Job.{Job}
use Rattle.core_terms.specs.declared.replies.Reply.{Reply}
use Rattle.core_terms.specs.declared.replies.Reply.TheVariants as reply
use Rattle.core_terms.proofs.Sameness.{sameness_is_equality}
use Rattle.core_laws.specs.Alone.{IsOut, IsPlanned, IdleIsDone, PlannedIsLess, TakenWorkIsOut, WorkedIsLess, active_jobs, is_idle, is_no_job, tickets_out}
use Rattle.core_laws.specs.Events.{ends_work, is_stale}
use Rattle.core_laws.proofs.Counts.{count_by-absent, count_by-drop}
use Rattle.core_laws.proofs.Evacuated.{none_of}
use Rattle.core_laws.proofs.Given.{is_given}
use Rattle.core_laws.proofs.Jobs.{holder_active}
use Rattle.core_laws.proofs.Lifts.{ended_work_is_less, only_launches_raise_work, work_is_there}
use Rattle.core_laws.proofs.Room.{ended_less, failed_free, ended_tickets, launch_most, some_place, take_one}
use Rattle.core_laws.proofs.Sound.{each_event_keeps_sound}
use Rattle.core_laws.proofs.Tickets.{place_waiting}
use Rattle.core_laws.proofs.Valid.{exec_moved}

work_given : (p b : Bool) (r : Result Given Idle) (g : Given) → take_told p b r ≡ reply.Work g → r ≡ Ok g
work_given p b (Ok h) g e = cc
work_given p b (Err why) g e = cc

-- the task with the lease that is given
abbrev lent : State → Given → Task
lent s g = with_lease g.lease g.work (task_at s.tasks g.task)

-- the executor behind the take
abbrev out : State → Given → State
out s g = record s { tasks = set s.tasks g.task (lent s g); leases = g.lease }

-- the lease stands at the task's place, and no other has it
record IsLent (s : State) (g : Given) : Type 0 where
  there : g.task < length s.tasks
  part : (task_at s.tasks g.task).part ≡ g.part
  lease : (task_at s.tasks g.task).lease ≡ Some (record { number = g.lease; work = g.work })
  one : count_by (holds g.lease) s.tasks ≤ 1

is_lent : (s : State) (g : Given) → IsValid s → next_work s ≡ Ok g → IsLent (after_take s) g
is_lent s g v e = rw e (by (is_given s g (sym e)).there) where
  valid : IsValid (out s g)
  valid = subst (λ r. IsValid (taken s r)) e (IsValid-take s v)

  by : g.task < length s.tasks → IsLent (out s g) g
  by l =
      let here : task_at (set s.tasks g.task (lent s g)) g.task ≡ lent s g = get_or-set_same s.tasks g.task (lent s g) no_task l in
      record { there = rw length-set l; part = rw here (sym (is_given s g (sym e)).part_is); lease = rw here refl; one = valid.one_holder g.lease }

module _ (s : State) (g : Given) (h : IsLent s g) where
  held_here : (kind : WorkKind) → is_for kind g.work ≡ true → list_any (holds_for g.lease kind) s.tasks ≡ true
  held_here kind k = list_any_at (holds_for g.lease kind) s.tasks g.task no_task h.there (rw h.lease (and_from (g.lease == g.lease) (is_for kind g.work) (eq-eqb g.lease g.lease refl) k))

  held_is : held s g.lease ≡ Some (record { lease = g.lease; task = g.task; part = g.part; work = g.work; starts = false })
  held_is = by (position (holds g.lease) s.tasks) refl where
    here : holds g.lease (task_at s.tasks g.task) ≡ true
    here = rw h.lease (eq-eqb g.lease g.lease refl)

    by : (o : Option ℕ) → position (holds g.lease) s.tasks ≡ o → held_by s o ≡ Some (record { lease = g.lease; task = g.task; part = g.part; work = g.work; starts = false })
    by None q = absurd (true≢false (sym here ∙ position-None (holds g.lease) s.tasks g.task no_task q h.there))
    by (Some j) q =
        let f = position-Some (holds g.lease) s.tasks j no_task q in
        let same : j ≡ g.task = same_place (holds g.lease) s.tasks j g.task no_task f.0 h.there f.1 here h.one in
        rw (same, h.lease, h.part) refl

-- a lease that a task holds for a kind of work isn't stale for it
not_stale : (s : State) (lease : ℕ) (kind : WorkKind) (n : ℕ) → list_any (holds_for lease kind) s.tasks ≡ true → test_lease s lease kind ≡ Err (Stale n) → ⊥
unfolding test_lease
not_stale s lease kind n h = by (position (holds_for lease kind) s.tasks) refl where
  by : (o : Option ℕ) → position (holds_for lease kind) s.tasks ≡ o → tested s kind o ≡ Err (Stale n) → ⊥
  by None q e = some_place (holds_for lease kind) s.tasks h q
  by (Some i) q e = asked (is_aborting (task_at s.tasks i).phase && not (is_cancel kind)) e where
    asked : (b : Bool) → cond b (Err AbortAsked) (Ok i) ≡ Err (Stale n) → ⊥
    asked true e = cc
    asked false e = cc

-- so what it is answered isn't that no task holds it
module _ {R : Type 0} (told : Result R LeaseFault → Reply) (good : (x : R) → is_stale (told (Ok x)) ≡ false) (asked : is_stale (told (Err AbortAsked)) ≡ false) (f : Task → R) where
  fresh : (s : State) (lease : ℕ) (kind : WorkKind) → list_any (holds_for lease kind) s.tasks ≡ true → is_stale (told (reply_by f s (test_lease s lease kind))) ≡ false
  fresh s lease kind h = by (test_lease s lease kind) refl where
    by : (r : Result ℕ LeaseFault) → test_lease s lease kind ≡ r → is_stale (told (reply_by f s r)) ≡ false
    by (Ok i) e = good (f (task_at s.tasks i))
    by (Err (Stale n)) e = absurd (not_stale s lease kind n h e)
    by (Err AbortAsked) e = asked

-- the receipt of the copy fits
fits_receipt : (s : State) (g : Given) (r : ReceiptView) → IsLent s g → Works g (event.Copied r) → is_receipt s r ≡ true
fits_receipt s g r h w =
    let copy : is_copy g.work r.to r.chunk ≡ true = rw w.0 (and_from (r.to == r.to) (r.chunk == r.chunk) (eq-eqb r.to r.to refl) (eq-eqb r.chunk r.chunk refl)) in
    rw (w.1, held_is s g h) (and_from (g.part == r.part) (is_copy g.work r.to r.chunk) (eq-eqb g.part r.part (sym w.2)) copy)

is_for_copy : (g : Given) (to chunk : ℕ) → g.work ≡ Copy to chunk → is_for ForCopy g.work ≡ true
is_for_copy g to chunk e = rw e refl

-- the event that reports the work is sure, and isn't stale
reports : (file : Meaning) (u : Core) (g : Given) (e : Event) → IsLent u.desk.exec g → Works g e → IsOut file u e
reports file u g (event.Copied r) h w =
    let x = u.desk.exec in
    let receipt : is_receipt x r ≡ true = fits_receipt x g r h w in
    let out : list_any (holds_for r.lease ForCopy) x.tasks ≡ true = rw w.1 (held_here x g h ForCopy (is_for_copy g r.to r.chunk w.0)) in
    record { sure = receipt; fresh = rw receipt (fresh copied_told (λ n. refl) refl (λ t. record { 0 = copies_left (one_copied t) }) x r.lease ForCopy out) }
reports file u g (event.CopyFailed lease) h w =
    let out : list_any (holds_for lease ForCopy) u.desk.exec.tasks ≡ true = rw w.1 (held_here u.desk.exec g h ForCopy w.0) in
    record { sure = out; fresh = fresh failed_told (λ n. refl) refl (λ t. record { 0 = t.faults + 1 }) u.desk.exec lease ForCopy out }
reports file u g (event.Commit lease) h w =
    let out : list_any (holds_for lease ForCommit) u.desk.exec.tasks ≡ true = rw w.1 (held_here u.desk.exec g h ForCommit (rw w.0 refl)) in
    record { sure = out; fresh = fresh commit_told (λ n. refl) refl (λ t. tt) u.desk.exec lease ForCommit out }
reports file u g (event.Cancel lease) h w =
    let out : list_any (holds_for lease ForCancel) u.desk.exec.tasks ≡ true = rw w.1 (held_here u.desk.exec g h ForCancel (rw w.0 refl)) in
    record { sure = out; fresh = fresh cancel_told (λ n. refl) refl phase_cancelled u.desk.exec lease ForCancel out }
reports file u g _ h w = absurd w

lent_behind : (file : Meaning) (s : Core) (g : Given) → IsSound file s.desk → reply_of file s event.Take ≡ reply.Work g → IsLent (next file s event.Take).desk.exec g
lent_behind file s g h e = rw (exec_moved s.desk (after_take s.desk.exec)) (is_lent s.desk.exec g h.exec.valid (work_given (list_any plans_execution s.desk.tasks) s.desk.closing (next_work s.desk.exec) g e))

pub taken_work_is_out : TakenWorkIsOut
taken_work_is_out file s g e input h t w = reports file (next file s event.Take) g e (lent_behind file s g h t) w

-- the executor moves on: no job becomes active, and no ticket is given
module _ (d : Desk) (one : length d.jobs ≡ length d.tasks) (u : State) where
  active_moved : active_jobs (moved d u) ≤ active_jobs d
  active_moved = by (ends_execution d.exec.tasks u.tasks) where
    over : (i : ℕ) (x : Status) → i < length d.tasks → is_active x ≡ false → count_by (λ t. is_active t.status) (set d.tasks i (record (user_task_at d.tasks i) { status = x })) ≤ active_jobs d
    over i x l q = count_by-set (λ t. is_active t.status) d.tasks i (record (user_task_at d.tasks i) { status = x }) no_user_task l (λ r. absurd (false≢true (sym q ∙ r)))

    found : (o : Option ℕ) → position (λ t. is_in_execution t.status) d.tasks ≡ o → active_jobs (execution_ended (with_exec d u) o) ≤ active_jobs d
    found None e = omega arith
    found (Some i) e = ending (list_all (λ t. is_completed t.phase) u.tasks)
      where
        there : i < length d.tasks
        there = (position-Some (λ t. is_in_execution t.status) d.tasks i no_user_task e).0

        ending : (b : Bool) → active_jobs (cond b (with_status (with_exec d u) i status.Completed) (with_status (with_job (with_exec d u) i (ended_job (with_exec d u) i)) i status.CompletedWithError)) ≤ active_jobs d
        ending true = over i status.Completed there refl
        ending false = over i status.CompletedWithError there refl

    by : (b : Bool) → active_jobs (cond b (execution_ended (with_exec d u) (position (λ t. is_in_execution t.status) d.tasks)) (with_exec d u)) ≤ active_jobs d
    by true = found (position (λ t. is_in_execution t.status) d.tasks) refl
    by false = omega arith

  tickets_moved : tickets_out (moved d u) ≤ tickets_out d
  tickets_moved = by (ends_execution d.exec.tasks u.tasks) where
    found : (o : Option ℕ) → position (λ t. is_in_execution t.status) d.tasks ≡ o → tickets_out (execution_ended (with_exec d u) o) ≤ tickets_out d
    found None e = omega arith
    found (Some i) e = ending (list_all (λ t. is_completed t.phase) u.tasks)
      where
        ending : (b : Bool) → tickets_out (cond b (with_status (with_exec d u) i status.Completed) (with_status (with_job (with_exec d u) i (ended_job (with_exec d u) i)) i status.CompletedWithError)) ≤ tickets_out d
        ending true = omega arith
        ending false = omega (arith, ended_tickets d one u i (position-Some (λ t. is_in_execution t.status) d.tasks i no_user_task e).0)

    by : (b : Bool) → tickets_out (cond b (execution_ended (with_exec d u) (position (λ t. is_in_execution t.status) d.tasks)) (with_exec d u)) ≤ tickets_out d
    by true = found (position (λ t. is_in_execution t.status) d.tasks) refl
    by false = omega arith

-- less is out, by a lease
record Falls (d u : Desk) : Type 0 where
  jobs : active_jobs u ≤ active_jobs d
  leases : leases_out u.exec.tasks + 1 ≤ leases_out d.exec.tasks
  tickets : tickets_out u ≤ tickets_out d

moved_falls : (d : Desk) → length d.jobs ≡ length d.tasks → (u : State) → leases_out u.tasks + 1 ≤ leases_out d.exec.tasks → Falls d (moved d u)
moved_falls d one u h = record { jobs = active_moved d one u; leases = rw (exec_moved d u) h; tickets = tickets_moved d one u }

reported_falls : (file : Meaning) (u : Core) (g : Given) (e : Event) → length u.desk.jobs ≡ length u.desk.tasks → IsLent u.desk.exec g → Works g e → Falls u.desk (next file u e).desk
reported_falls file u g (event.Copied r) one h w =
    let x = u.desk.exec in
    let out : list_any (holds_for r.lease ForCopy) x.tasks ≡ true = rw w.1 (held_here x g h ForCopy (is_for_copy g r.to r.chunk w.0)) in
    rw (fits_receipt x g r h w) (moved_falls u.desk one (after_copied x r.lease) (ended_less one_copied (λ t. refl) x r.lease ForCopy out))
reported_falls file u g (event.CopyFailed lease) one h w =
    let out : list_any (holds_for lease ForCopy) u.desk.exec.tasks ≡ true = rw w.1 (held_here u.desk.exec g h ForCopy w.0) in
    moved_falls u.desk one (after_copy_failed u.desk.exec lease) (ended_less one_failed failed_free u.desk.exec lease ForCopy out)
reported_falls file u g (event.Commit lease) one h w =
    let out : list_any (holds_for lease ForCommit) u.desk.exec.tasks ≡ true = rw w.1 (held_here u.desk.exec g h ForCommit (rw w.0 refl)) in
    moved_falls u.desk one (after_commit u.desk.exec lease) (ended_less committed (λ t. refl) u.desk.exec lease ForCommit out)
reported_falls file u g (event.Cancel lease) one h w =
    let out : list_any (holds_for lease ForCancel) u.desk.exec.tasks ≡ true = rw w.1 (held_here u.desk.exec g h ForCancel (rw w.0 refl)) in
    moved_falls u.desk one (after_cancel u.desk.exec lease) (ended_less cancelled (λ t. refl) u.desk.exec lease ForCancel out)
reported_falls file u g _ one h w = absurd w

works_ends : (g : Given) (e : Event) → Works g e → ends_work e ≡ true
works_ends g (event.Copied r) w = refl
works_ends g (event.CopyFailed lease) w = refl
works_ends g (event.Commit lease) w = refl
works_ends g (event.Cancel lease) w = refl
works_ends g _ w = absurd w

pub worked_is_less : WorkedIsLess
worked_is_less file s g e input h t w =
    let u = next file s event.Take in
    let sound : IsSound file u.desk = each_event_keeps_sound file s event.Take input tt h in
    let lent : IsLent u.desk.exec g = lent_behind file s g h t in
    let falls : Falls u.desk (next file u e).desk = reported_falls file u g e sound.tasks.one_each lent w in
    let less = ended_work_is_less file u e sound (works_ends g e w) (reports file u g e lent w).fresh in
    let no_more = only_launches_raise_work file s event.Take input tt h refl in
    let one : leases_out u.desk.exec.tasks ≤ leases_out s.desk.exec.tasks + 1 = rw (exec_moved s.desk (after_take s.desk.exec)) (take_one s.desk.exec) in
    let jobs : active_jobs u.desk ≤ active_jobs s.desk = active_moved s.desk h.tasks.one_each (after_take s.desk.exec) in
    let tickets : tickets_out u.desk ≤ tickets_out s.desk = tickets_moved s.desk h.tasks.one_each (after_take s.desk.exec) in
    record {
      work = omega (arith, less, no_more);
      jobs = omega (arith, falls.jobs, jobs);
      leases = omega (arith, falls.leases, one);
      tickets = omega (arith, falls.tickets, tickets);
    }

-- the job that was taken: the first one that waits, under the next ticket
record IsJobOf (c : Moment) (d : Desk) (ticket : ℕ) (problem : ProblemView) (i : ℕ) : Type 0 where
  first : first_waiting d ≡ Some i
  ticket_is : ticket ≡ d.tickets + 1
  problem_is : problem ≡ problem_at c.cluster d i

job_given : (c : Moment) (d : Desk) (ticket : ℕ) (problem : ProblemView) (o : Option ℕ) → first_waiting d ≡ o → reply_take_job c d o ≡ reply.Job ticket problem → (i : ℕ) × IsJobOf c d ticket problem i
job_given c d ticket problem None q e = absurd cc
job_given c d ticket problem (Some i) q e = (i, record { first = q; ticket_is = cc; problem_is = cc })

-- the desk behind it, where the job stands with its ticket, and no other has that
abbrev asked : Desk → ℕ → Job
asked d i = record (job_at d.jobs i) { ticket = Some (d.tickets + 1) }

module _ (c : Moment) (d : Desk) (ticket : ℕ) (problem : ProblemView) (i : ℕ) (is : IsJobOf c d ticket problem i) (tasks : AreTasks (ticketed d (Some i))) (tickets : AreTickets (ticketed d (Some i))) where
  there : i < length d.jobs
  there = place_waiting d i is.first

  there_too : i < length (set d.jobs i (asked d i))
  there_too = rw length-set there

  here : job_at (set d.jobs i (asked d i)) i ≡ asked d i
  here = get_or-set_same d.jobs i (asked d i) no_job there

  holder : holder_of ticket (set d.jobs i (asked d i)) ≡ Some i
  holder = by (holder_of ticket (set d.jobs i (asked d i))) refl where
    has : has_ticket ticket (job_at (set d.jobs i (asked d i)) i) ≡ true
    has = rw here (eq-eqb (d.tickets + 1) ticket (sym is.ticket_is))

    by : (o : Option ℕ) → holder_of ticket (set d.jobs i (asked d i)) ≡ o → o ≡ Some i
    by None q = absurd (true≢false (sym has ∙ position-None (has_ticket ticket) (set d.jobs i (asked d i)) i no_job q there_too))
    by (Some k) q =
        let f = position-Some (has_ticket ticket) (set d.jobs i (asked d i)) k no_job q in
        ap Some (same_place (has_ticket ticket) (set d.jobs i (asked d i)) k i no_job f.0 there_too f.1 has (tickets.one_holder ticket))

  same_job : problem_at c.cluster (ticketed d (Some i)) i ≡ problem
  unfolding problem_at
  same_job = rw here (sym is.problem_is)

  plan_fits : (p : PlanView) → IsPlanFor problem p → is_plan_for c.cluster (ticketed d (Some i)) i p ≡ true
  plan_fits p w = (sameness_is_equality.problems (problem_of_plan p) (problem_at c.cluster (ticketed d (Some i)) i)).1 (rw (same_job, w.0, w.1, w.2) refl)

  failure_fits : (f : FailureView) → IsFailureFor problem f → is_failure_for c.cluster (ticketed d (Some i)) i f ≡ true
  failure_fits f w = (sameness_is_equality.problems (problem_of_failure f) (problem_at c.cluster (ticketed d (Some i)) i)).1 (rw (same_job, w.0, w.1, w.2) refl)

  -- its ticket ends, and its user task is active no more
  one_ticket : (j : Job) → j.ticket ≡ None → count_by (λ y. is_some y.ticket) (set (set d.jobs i (asked d i)) i j) ≤ tickets_out d
  one_ticket j none =
      let up = count_by-set_one (λ y. is_some y.ticket) d.jobs i (asked d i) no_job there in
      let down = count_by-drop (λ y. is_some y.ticket) (set d.jobs i (asked d i)) i j no_job there_too (rw here refl) (rw none refl) in
      omega (arith, up, down)

  one_job : (x : Status) → is_active x ≡ false → count_by (λ t. is_active t.status) (set d.tasks i (record (user_task_at d.tasks i) { status = x })) < active_jobs d
  one_job x over =
      let a = holder_active (ticketed d (Some i)) ticket i tasks tickets holder in
      omega (arith, count_by-drop (λ t. is_active t.status) d.tasks i (record (user_task_at d.tasks i) { status = x }) no_user_task a.1 a.2 over)

  planned_less : (p : PlanView) → IsPlanFor problem p → IsPlanned d (planned c (ticketed d (Some i)) p (holder_of ticket (set d.jobs i (asked d i))))
  planned_less p w = rw (holder, plan_fits p w) (chosen (is_done_at_once (user_task_at d.tasks i) (proposals p.start p.end)) refl) where
    job : Job
    job = planned_job (job_at (set d.jobs i (asked d i)) i) (proposals p.start p.end)

    chosen : (b : Bool) → is_done_at_once (user_task_at d.tasks i) (proposals p.start p.end) ≡ b → IsPlanned d (with_plan (ticketed d (Some i)) i (proposals p.start p.end))
    chosen true q = rw q (record { jobs = one_job status.Completed refl; leases = omega arith; tickets = one_ticket job refl })
    chosen false q = rw q (record { jobs = one_job status.InExecution refl; leases = launch_most d.exec (proposals p.start p.end); tickets = one_ticket job refl })

  failed_less : (f : FailureView) → IsFailureFor problem f → IsPlanned d (refused c (ticketed d (Some i)) f (holder_of ticket (set d.jobs i (asked d i))))
  failed_less f w = rw (holder, failure_fits f w) (record {
    jobs = one_job status.CompletedWithError refl;
    leases = omega arith;
    tickets = one_ticket (record (job_at (set d.jobs i (asked d i)) i) { ticket = None; broken = Some (record { goal = goal_failed f; left = f.left }) }) refl;
  })

pub planned_is_less : PlannedIsLess
planned_is_less file s ticket problem e input h t w = by e w where
  j : (i : ℕ) × IsJobOf (moment_of file s) s.desk ticket problem i
  j = job_given (moment_of file s) s.desk ticket problem (first_waiting s.desk) refl t

  sound : IsSound file (ticketed s.desk (Some j.0))
  sound = subst (λ o. IsSound file (ticketed s.desk o)) j.1.first (each_event_keeps_sound file s event.PlanTake input tt h)

  by : (e : Event) → Ends (reply.Job ticket problem) e → IsPlanned s.desk (next file (next file s event.PlanTake) e).desk
  by (event.Planned n p) w = rw (j.1.first, w.0) (planned_less (moment_of file s) s.desk ticket problem j.0 j.1 sound.tasks sound.tickets p w.1)
  by (event.Refused n f) w = rw (j.1.first, w.0) (failed_less (moment_of file s) s.desk ticket problem j.0 j.1 sound.tasks sound.tickets f w.1)
  by _ w = absurd w

-- where none is counted, none passes
none_at : {X : Type 0} (p : X → Bool) (xs : List X) (i : ℕ) (x : X) → count_by p xs ≡ 0 → i < length xs → p (get_or xs i x) ≡ false
none_at p xs i x h l = by (p (get_or xs i x)) refl where
  by : (b : Bool) → p (get_or xs i x) ≡ b → b ≡ false
  by true q = absurd (true≢false (sym (list_any_at p xs i x l q) ∙ none_of p xs h))
  by false q = refl

zip_long : {X Y : Type 0} (xs : List X) (ys : List Y) (i : ℕ) → i < length xs → i < length ys → i < length (zip xs ys)
zip_long [] ys i l m = absurd (omega arith)
zip_long (x ∷ xs) [] i l m = absurd (omega arith)
zip_long (x ∷ xs) (y ∷ ys) zero l m = omega arith
zip_long (x ∷ xs) (y ∷ ys) (suc i) l m = let h = zip_long xs ys i (omega arith) (omega arith) in omega (arith, h)

free_of : (b : Bool) → not b ≡ false → b ≡ true
free_of true h = refl
free_of false h = absurd (true≢false h)

-- where no ticket is out, and no job waits for a planner, none is active
none_active : (d : Desk) → length d.jobs ≡ length d.tasks → tickets_out d ≡ 0 → first_waiting d ≡ None → active_jobs d ≡ 0
none_active d one none first = count_by-absent (λ t. is_active t.status) d.tasks no_user_task (by (position (λ t. is_active t.status) d.tasks) refl) where
  by : (o : Option ℕ) → position (λ t. is_active t.status) d.tasks ≡ o → o ≡ None
  by None q = refl
  by (Some i) q =
      let f = position-Some (λ t. is_active t.status) d.tasks i no_user_task q in
      let l : i < length d.jobs = omega (arith, f.0, one) in
      let free : is_some (job_at d.jobs i).ticket ≡ false = none_at (λ j. is_some j.ticket) d.jobs i no_job none l in
      let within : i < length (zip d.tasks d.jobs) = zip_long d.tasks d.jobs i f.0 l in
      let none_waits : waits (get_or (zip d.tasks d.jobs) i (no_user_task, no_job)) ≡ false = position-None {X = UserTask × Job} waits (zip d.tasks d.jobs) i (no_user_task, no_job) first within in
      let waits_not : waits (user_task_at d.tasks i, job_at d.jobs i) ≡ false = rw (get_or-zip d.tasks d.jobs i (no_user_task, no_job) f.0 l) at none_waits in
      absurd (true≢false (sym (and_from (is_active (user_task_at d.tasks i).status) (is_none (job_at d.jobs i).ticket) f.1 (is_none_of (job_at d.jobs i).ticket free)) ∙ waits_not))
    where
      is_none_of : (o : Option ℕ) → is_some o ≡ false → is_none o ≡ true
      is_none_of None h = refl
      is_none_of (Some n) h = absurd (true≢false h)

no_job_waits : (c : Moment) (d : Desk) (o : Option ℕ) → is_no_job (reply_take_job c d o) ≡ true → o ≡ None
no_job_waits c d None h = refl
no_job_waits c d (Some i) h = absurd (false≢true h)

pub idle_is_done : IdleIsDone
idle_is_done file s h quiet no_job_is idle_is = record {
  tasks = by (any_unfinished s.desk.exec.tasks) refl;
  jobs = none_active s.desk h.tasks.one_each quiet.tickets (no_job_waits (moment_of file s) s.desk (first_waiting s.desk) no_job_is);
} where
  by : (b : Bool) → any_unfinished s.desk.exec.tasks ≡ b → b ≡ false
  by false q = refl
  by true q =
      let g = work_is_there file s h q (λ k x l. free_of (is_free (get_or s.desk.exec.tasks k x).lease) (none_at (λ t. not (is_free t.lease)) s.desk.exec.tasks k x quiet.leases l)) in
      absurd (false≢true (sym (ap is_idle g.1) ∙ idle_is))
