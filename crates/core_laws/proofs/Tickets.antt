-- What each event keeps of the tickets.
use Rattle.std.proofs.Common.{◌≡◌, ◌≢◌, ◌∙◌, ℕ, ◌+◌, ◌<◌, ◌≤◌, Bool, true, false, cond, List, [], ◌∷◌, ◌++◌, length, get_or, set, arith, refl, sym, ap, zero, suc}
use Rattle.std.specs.Prelude.{Option, Some, None, ◌==◌, ◌&&◌, is_none}
use Rattle.std.specs.List.{count_by, list_all, position, zip}
use Rattle.exec_terms.specs.Words.{is_completed}
use Rattle.std.proofs.lemmas.Slice.Zip.{get_or-zip}
use Rattle.std.proofs.lemmas.List.Sums.{sum_by-cons, sum_by-append}
use Rattle.std.proofs.lemmas.Bool.{true≢false, false≢true, eqb-true, eq-eqb}
use Rattle.plan_terms.specs.declared.lists.Proposal.{Proposal}
use Rattle.std.proofs.lemmas.List.{length-append, get_or-set_same, get_or-set_other, get_or_default}
use Rattle.std.proofs.lemmas.List.Quantifiers.{position-Some}
use Rattle.exec_terms.proofs.Counts.{count_by-set, count_by-set_one, count_by_none}
use Rattle.plan_terms.specs.Change.{proposals}
use Rattle.goal_set.specs.Kept.{PlanView, FailureView}
use Rattle.cluster_json.specs.File.{Meaning}
use Rattle.exec_terms.specs.Machine.{State, after_caps, after_launch, after_take as after_taken}
use Rattle.exec_terms.specs.Leases.{after_copied, after_copy_failed, after_commit, after_cancel, end_lease}
use Rattle.exec_terms.specs.Stops.{after_stop, after_kill}
use Rattle.user_tasks.specs.Asks.{AskView, changes_factor}
use Rattle.user_tasks.specs.declared.table.Status.{Status}
use Rattle.user_tasks.specs.declared.table.Status.TheVariants as status
use Rattle.user_tasks.specs.declared.table.UserTask.{UserTask}
use Rattle.core_terms.specs.State.{Desk, Moment, moment_of, no_job, job_at}
use Rattle.core_terms.specs.Jobs.{admitted, is_active, is_done_at_once, is_in_execution, new_job, no_user_task, planned_job, user_task_at, with_job, with_plan, with_status}
use Rattle.core_terms.specs.Submits.{after_new, change_refusal, changes_asked, refusal_of, unless_refused, unless_unchanged}
use Rattle.core_terms.specs.Plans.{is_ticket, has_ticket, holder_of, waits, first_waiting, ticketed, unticketed, planned_back, refused, with_failure, goal_failed, planned, is_plan_for, is_failure_for}
use Rattle.core_terms.specs.Works.{caps_of, ended_job, ends_execution, execution_ended, with_exec, moved, is_receipt}
use Rattle.core_terms.specs.Sound.{AreTasks, AreTickets}
use Rattle.core_terms.specs.declared.jobs.Job.{Job}
use Rattle.core_terms.specs.declared.events.Event.TheVariants as event
use Rattle.core_terms.specs.declared.replies.Reply.{Reply}
use Rattle.core_laws.specs.Laws.{EventsKeepTickets}

-- a member of a list with one changed is that one, or is as it was
pub other_or_here : {X : Type 0} (xs : List X) (i : ℕ) (y d : X) (k : ℕ) (P : X → Type 0) → i < length xs → (k ≡ i → P y) → ((k ≡ i → ⊥) → P (get_or xs k d)) → P (get_or (set xs i y) k d)
other_or_here xs i y d k P l here other = by (k == i) refl where
  by : (b : Bool) → (k == i) ≡ b → P (get_or (set xs i y) k d)
  by true q =
      let e : k ≡ i = eqb-true k i q in
      rw (e, get_or-set_same xs i y d l) (here e)
  by false q =
      let n : k ≢ i = λ e. true≢false (sym (eq-eqb k i e) ∙ q) in
      rw (get_or-set_other xs i k y d n) (other n)

-- the ticket of a job ends, and the status of its user task may change
pub ticket_over : (d : Desk) (i : ℕ) (y : Job) (tasks : List UserTask) → i < length d.jobs → y.ticket ≡ None
    → ((k : ℕ) → (k ≡ i → ⊥) → user_task_at tasks k ≡ user_task_at d.tasks k) → AreTickets d → AreTickets (record d { jobs = set d.jobs i y; tasks = tasks })
ticket_over d i y tasks l none same t = record {
  one_holder = λ n. omega (arith, t.one_holder n, count_by-set (has_ticket n) d.jobs i y no_job l (λ h. absurd (false≢true (sym (ap (is_ticket n) none) ∙ h))));
  given = λ k n. other_or_here d.jobs i y no_job k (λ j. j.ticket ≡ Some n → n ≤ d.tickets) l (λ e h. cc) (λ o h. t.given k n h);
  active = λ k n. other_or_here d.jobs i y no_job k (λ j. j.ticket ≡ Some n → is_active (user_task_at tasks k).status ≡ true) l (λ e h. cc) (λ o h. rw (same k o) (t.active k n h));
}

-- the user task in execution ends; it had no ticket
pub execution_over : (d : Desk) (e : State) (i : ℕ) (jobs : List Job) (x : Status) → i < length d.tasks → is_in_execution (user_task_at d.tasks i).status ≡ true
    → ((k : ℕ) → (job_at jobs k).ticket ≡ (job_at d.jobs k).ticket) → ((n : ℕ) → count_by (has_ticket n) jobs ≤ count_by (has_ticket n) d.jobs) → AreTickets d
    → AreTickets (record d { exec = e; jobs = jobs; tasks = set d.tasks i (record (user_task_at d.tasks i) { status = x }) })
execution_over d e i jobs x l h same fewer t = record {
  one_holder = λ n. omega (arith, t.one_holder n, fewer n);
  given = λ k n q. t.given k n (sym (same k) ∙ q);
  active = λ k n q. other_or_here d.tasks i (record (user_task_at d.tasks i) { status = x }) no_user_task k (λ u. is_active u.status ≡ true) l
      (λ r. absurd (clash (user_task_at d.tasks i).status h (ap (λ m. is_active (user_task_at d.tasks m).status) (sym r) ∙ t.active k n (sym (same k) ∙ q))))
      (λ o. t.active k n (sym (same k) ∙ q));
}
  where
    clash : (s : Status) → is_in_execution s ≡ true → is_active s ≡ true → ⊥
    clash status.Active a b = false≢true a
    clash status.InExecution a b = false≢true b
    clash status.Completed a b = false≢true a
    clash status.CompletedWithError a b = false≢true a

-- the executor doesn't matter
anywhere : (d : Desk) (e : State) → AreTickets d → AreTickets (record d { exec = e })
anywhere d e t = record { one_holder = t.one_holder; given = t.given; active = t.active }

-- the status of another user task is as it was
others : (tasks : List UserTask) (i : ℕ) (u : UserTask) (k : ℕ) → (k ≡ i → ⊥) → user_task_at (set tasks i u) k ≡ user_task_at tasks k
others tasks i u k o = get_or-set_other tasks i k u no_user_task o

same_tickets : (jobs : List Job) (i : ℕ) (y : Job) (k : ℕ) → i < length jobs → y.ticket ≡ (job_at jobs i).ticket → (job_at (set jobs i y) k).ticket ≡ (job_at jobs k).ticket
same_tickets jobs i y k l e = other_or_here jobs i y no_job k (λ j. j.ticket ≡ (job_at jobs k).ticket) l (λ r. e ∙ ap (λ m. (job_at jobs m).ticket) (sym r)) (λ o. refl)

-- the executor moves on
moved_tickets : (d : Desk) (e : State) → AreTasks d → AreTickets d → AreTickets (moved d e)
moved_tickets d e a t = by (ends_execution d.exec.tasks e.tasks) where
  found : (o : Option ℕ) → position (λ u. is_in_execution u.status) d.tasks ≡ o → AreTickets (execution_ended (with_exec d e) o)
  found None p = anywhere d e t
  found (Some i) p = ending (list_all (λ u. is_completed u.phase) e.tasks)
    where
      here : (i < length d.tasks) × (is_in_execution (user_task_at d.tasks i).status ≡ true) × ((k : ℕ) → k < i → is_in_execution (user_task_at d.tasks k).status ≡ false)
      here = position-Some (λ u. is_in_execution u.status) d.tasks i no_user_task p

      ending : (b : Bool) → AreTickets (cond b (with_status (with_exec d e) i status.Completed) (with_status (with_job (with_exec d e) i (ended_job (with_exec d e) i)) i status.CompletedWithError))
      ending true = execution_over d e i d.jobs status.Completed here.0 here.1 (λ k. refl) (λ n. omega arith) t
      ending false = execution_over d e i (set d.jobs i (ended_job (with_exec d e) i)) status.CompletedWithError here.0 here.1
          (λ k. same_tickets d.jobs i (ended_job (with_exec d e) i) k (omega (arith, here.0, a.one_each)) refl)
          (λ n. count_by-set (has_ticket n) d.jobs i (ended_job (with_exec d e) i) no_job (omega (arith, here.0, a.one_each)) (λ h. h)) t

  by : (b : Bool) → AreTickets (cond b (execution_ended (with_exec d e) (position (λ u. is_in_execution u.status) d.tasks)) (with_exec d e))
  by true = found (position (λ u. is_in_execution u.status) d.tasks) refl
  by false = anywhere d e t

-- a job that waits is given the next ticket
given_ticket : (d : Desk) (i : ℕ) → i < length d.jobs → is_active (user_task_at d.tasks i).status ≡ true → AreTickets d
    → AreTickets (record d { jobs = set d.jobs i (record (job_at d.jobs i) { ticket = Some (d.tickets + 1) }); tickets = d.tickets + 1 })
given_ticket d i l h t = record {
  one_holder = λ n. fresh n (d.tickets + 1 == n) refl;
  given = λ k n. other_or_here d.jobs i new no_job k (λ j. j.ticket ≡ Some n → n ≤ d.tickets + 1) l (λ r q. let e : d.tickets + 1 ≡ n = cc in omega (arith, e)) (λ o q. omega (arith, t.given k n q));
  active = λ k n. other_or_here d.jobs i new no_job k (λ j. j.ticket ≡ Some n → is_active (user_task_at d.tasks k).status ≡ true) l (λ r q. rw r h) (λ o q. t.active k n q);
}
  where
    new : Job
    new = record (job_at d.jobs i) { ticket = Some (d.tickets + 1) }

    none_has : (n : ℕ) → d.tickets + 1 ≡ n → (k : ℕ) (x : Job) → k < length d.jobs → has_ticket n (get_or d.jobs k x) ≡ false
    none_has n e k x m = off (has_ticket n (job_at d.jobs k)) refl
      where
        held : (o : Option ℕ) → (job_at d.jobs k).ticket ≡ o → is_ticket n o ≡ true → ⊥
        held None q b = false≢true b
        held (Some j) q b = let s : j ≡ n = eqb-true j n b in omega (arith, t.given k j q, e, s)

        off : (b : Bool) → has_ticket n (job_at d.jobs k) ≡ b → has_ticket n (get_or d.jobs k x) ≡ false
        off true q = absurd (held (job_at d.jobs k).ticket refl q)
        off false q = ap (has_ticket n) (get_or_default d.jobs k x no_job m) ∙ q

    fresh : (n : ℕ) (b : Bool) → (d.tickets + 1 == n) ≡ b → count_by (has_ticket n) (set d.jobs i new) ≤ 1
    fresh n true q = omega (arith, count_by-set_one (has_ticket n) d.jobs i new no_job l, count_by_none (has_ticket n) d.jobs (none_has n (eqb-true (d.tickets + 1) n q)))
    fresh n false q = omega (arith, t.one_holder n, count_by-set (has_ticket n) d.jobs i new no_job l (λ h. absurd (true≢false (sym h ∙ q))))

-- a reading of a list with one more at its end
pushed : {X : Type 0} (xs : List X) (y d : X) (k : ℕ) (P : X → Type 0) → P y → P (get_or xs k d) → P (get_or (xs ++ y ∷ []) k d)
pushed [] y d zero P a c = a
pushed [] y d (suc k) P a c = c
pushed (x ∷ xs) y d zero P a c = c
pushed (x ∷ xs) y d (suc k) P a c = pushed xs y d k P a c

-- one more user task, whose job waits
more_tickets : (d : Desk) (j : Job) (u : UserTask) → j.ticket ≡ None → is_active u.status ≡ true → AreTickets d → AreTickets (record d { jobs = d.jobs ++ j ∷ []; tasks = d.tasks ++ u ∷ [] })
more_tickets d j u none h t = record {
  one_holder = λ n. omega (arith, t.one_holder n, count n);
  given = λ k n. pushed d.jobs j no_job k (λ x. x.ticket ≡ Some n → n ≤ d.tickets) (λ q. cc) (t.given k n);
  active = λ k n q. pushed d.tasks u no_user_task k (λ v. is_active v.status ≡ true) h (t.active k n (old k n q));
}
  where
    old : (k n : ℕ) → (job_at (d.jobs ++ j ∷ []) k).ticket ≡ Some n → (job_at d.jobs k).ticket ≡ Some n
    old k n = pushed d.jobs j no_job k (λ x. x.ticket ≡ Some n → (job_at d.jobs k).ticket ≡ Some n) (λ q. cc) (λ q. q)

    count : (n : ℕ) → count_by (has_ticket n) (d.jobs ++ j ∷ []) ≡ count_by (has_ticket n) d.jobs
    count n = sum_by-append (λ x. cond (has_ticket n x) 1 0) d.jobs (j ∷ [])
        ∙ omega (arith, sum_by-cons (λ x. cond (has_ticket n x) 1 0) j [], ap (λ (o : Option ℕ). cond {A = ℕ} (is_ticket n o) 1 0) none)

after_submit : (file : Meaning) (d : Desk) (ask : AskView) (o : Option Reply) → AreTickets d → AreTickets (unless_refused d ask o)
after_submit file d ask (Some r) t = t
after_submit file d ask None t = more_tickets d (new_job ask) (record { ask = ask; status = status.Active }) refl refl t

zip_within : {X Y : Type 0} (xs : List X) (ys : List Y) (i : ℕ) → i < length (zip xs ys) → (i < length xs) × (i < length ys)
zip_within [] ys i l = absurd (omega arith)
zip_within (x ∷ xs) [] i l = absurd (omega arith)
zip_within (x ∷ xs) (y ∷ ys) zero l = (omega arith, omega arith)
zip_within (x ∷ xs) (y ∷ ys) (suc i) l = let h = zip_within xs ys i (omega arith) in (omega (arith, h.0), omega (arith, h.1))

-- the place of a job that waits
pub place_waiting : (d : Desk) (i : ℕ) → position waits (zip d.tasks d.jobs) ≡ Some i → i < length d.jobs
place_waiting d i e = (zip_within d.tasks d.jobs i (position-Some waits (zip d.tasks d.jobs) i (no_user_task, no_job) e).0).1

after_take : (d : Desk) → AreTasks d → AreTickets d → (o : Option ℕ) → position waits (zip d.tasks d.jobs) ≡ o → AreTickets (ticketed d o)
after_take d a t None e = t
after_take d a t (Some i) e =
    let f = position-Some waits (zip d.tasks d.jobs) i (no_user_task, no_job) e in
    let l = zip_within d.tasks d.jobs i f.0 in
    let w : waits (user_task_at d.tasks i, job_at d.jobs i) ≡ true = rw (get_or-zip d.tasks d.jobs i (no_user_task, no_job) l.0 l.1) at f.1 in
    given_ticket d i l.1 (both (is_active (user_task_at d.tasks i).status) (is_none (job_at d.jobs i).ticket) w) t
  where
    both : (x y : Bool) → (x && y) ≡ true → x ≡ true
    both true y h = refl
    both false y h = h

-- the job of the ticket
pub found : (d : Desk) (n i : ℕ) → holder_of n d.jobs ≡ Some i → i < length d.jobs
found d n i e = (position-Some (has_ticket n) d.jobs i no_job e).0

end_ticket : (d : Desk) (i : ℕ) → i < length d.jobs → AreTickets d → AreTickets (unticketed d i)
end_ticket d i l t = ticket_over d i (record (job_at d.jobs i) { ticket = None }) d.tasks l refl (λ k o. refl) t

after_back : (d : Desk) (n : ℕ) → AreTickets d → (o : Option ℕ) → holder_of n d.jobs ≡ o → AreTickets (planned_back d o)
after_back d n t None e = t
after_back d n t (Some i) e = end_ticket d i (found d n i e) t

after_failure : (now : Moment) (d : Desk) (n : ℕ) (f : FailureView) → AreTickets d → (o : Option ℕ) → holder_of n d.jobs ≡ o → AreTickets (refused now d f o)
after_failure now d n f t None e = t
after_failure now d n f t (Some i) e = by (is_failure_for now.cluster d i f) where
  by : (b : Bool) → AreTickets (cond b (with_failure d i f) (unticketed d i))
  by true = ticket_over d i (record (job_at d.jobs i) { ticket = None; broken = Some (record { goal = goal_failed f; left = f.left }) }) (set d.tasks i (record (user_task_at d.tasks i) { status = status.CompletedWithError })) (found d n i e) refl (others d.tasks i _) t
  by false = end_ticket d i (found d n i e) t

-- the plan of a user task
planned_at : (d : Desk) (i : ℕ) (ps : List Proposal) → i < length d.jobs → AreTickets d → AreTickets (with_plan d i ps)
planned_at d i ps l t = chosen (is_done_at_once (user_task_at d.tasks i) ps) where
  done : (x : Status) → AreTickets (with_status (with_job d i (planned_job (job_at d.jobs i) ps)) i x)
  done x = ticket_over d i (planned_job (job_at d.jobs i) ps) (set d.tasks i (record (user_task_at d.tasks i) { status = x })) l refl (others d.tasks i _) t

  chosen : (b : Bool) → AreTickets (cond b (with_status (with_job d i (planned_job (job_at d.jobs i) ps)) i status.Completed)
      (record (with_status (with_job d i (planned_job (job_at d.jobs i) ps)) i status.InExecution) { exec = after_launch d.exec ps }))
  chosen true = done status.Completed
  chosen false = anywhere (with_status (with_job d i (planned_job (job_at d.jobs i) ps)) i status.InExecution) (after_launch d.exec ps) (done status.InExecution)

after_plan : (now : Moment) (d : Desk) (n : ℕ) (p : PlanView) → AreTickets d → (o : Option ℕ) → holder_of n d.jobs ≡ o → AreTickets (planned now d p o)
after_plan now d n p t None e = t
after_plan now d n p t (Some i) e = by (is_plan_for now.cluster d i p) where
  by : (b : Bool) → AreTickets (cond b (with_plan d i (proposals p.start p.end)) (unticketed d i))
  by true = planned_at d i (proposals p.start p.end) (found d n i e) t
  by false = end_ticket d i (found d n i e) t

-- a change of the replication factor
after_change : (d : Desk) (ask : AskView) (ps : List Proposal) (o : Option Reply) → AreTasks d → AreTickets d → AreTickets (unless_unchanged d ask ps o)
after_change d ask ps (Some r) a t = t
after_change d ask ps None a t =
    planned_at (admitted d ask) (length d.tasks) ps (omega (arith, length-append d.jobs (new_job ask ∷ []), a.one_each))
    (more_tickets d (new_job ask) (record { ask = ask; status = status.Active }) refl refl t)

-- a request without an id
after_asked : (file : Meaning) (now : Moment) (d : Desk) (ask : AskView) → AreTasks d → AreTickets d → (b : Bool) → AreTickets (after_new file now d ask b)
after_asked file now d ask a t true = after_change d ask (changes_asked now d ask) (change_refusal now d ask) a t
after_asked file now d ask a t false = after_submit file d ask (refusal_of file now d ask) t

unless_closing : (d : Desk) (e : State) → AreTasks d → AreTickets d → (b : Bool) → AreTickets (cond b d (moved d e))
unless_closing d e a t true = t
unless_closing d e a t false = moved_tickets d e a t

unless_closed : (d : Desk) (e : State) → AreTickets d → (b : Bool) → AreTickets (cond b d (with_exec d e))
unless_closed d e t true = t
unless_closed d e t false = anywhere d e t

where_receipt : (d : Desk) (e : State) → AreTasks d → AreTickets d → (b : Bool) → AreTickets (cond b (moved d e) d)
where_receipt d e a t true = moved_tickets d e a t
where_receipt d e a t false = t

pub events_keep_tickets : EventsKeepTickets
events_keep_tickets file s (event.Submit ask None) a t = after_asked file (moment_of file s) s.desk ask a t (changes_factor ask)
events_keep_tickets file s event.PlanTake a t = after_take s.desk a t (first_waiting s.desk) refl
events_keep_tickets file s (event.Planned ticket plan) a t = after_plan (moment_of file s) s.desk ticket plan t (holder_of ticket s.desk.jobs) refl
events_keep_tickets file s (event.Refused ticket failure) a t = after_failure (moment_of file s) s.desk ticket failure t (holder_of ticket s.desk.jobs) refl
events_keep_tickets file s (event.PlanBack ticket) a t = after_back s.desk ticket t (holder_of ticket s.desk.jobs) refl
events_keep_tickets file s (event.Stop force) a t = unless_closing s.desk (after_stop s.desk.exec force) a t s.desk.closing
events_keep_tickets file s (event.Kill broker) a t = unless_closing s.desk (after_kill s.desk.exec broker) a t s.desk.closing
events_keep_tickets file s (event.Caps asked) a t = unless_closed s.desk (after_caps s.desk.exec (caps_of s.desk asked)) t s.desk.closing
events_keep_tickets file s (event.Heal cause ask) a t = after_asked file (moment_of file s) s.desk ask a t (changes_factor ask)
events_keep_tickets file s event.Take a t = moved_tickets s.desk (after_taken s.desk.exec) a t
events_keep_tickets file s (event.Copied receipt) a t = where_receipt s.desk (after_copied s.desk.exec receipt.lease) a t (is_receipt s.desk.exec receipt)
events_keep_tickets file s (event.CopyFailed lease) a t = moved_tickets s.desk (after_copy_failed s.desk.exec lease) a t
events_keep_tickets file s (event.Commit lease) a t = moved_tickets s.desk (after_commit s.desk.exec lease) a t
events_keep_tickets file s (event.Cancel lease) a t = moved_tickets s.desk (after_cancel s.desk.exec lease) a t
events_keep_tickets file s (event.GiveBack lease) a t = moved_tickets s.desk (end_lease s.desk.exec lease) a t
events_keep_tickets file s event.Close a t = record { one_holder = t.one_holder; given = t.given; active = t.active }
events_keep_tickets file s _ a t = t
