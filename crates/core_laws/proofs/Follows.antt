-- The admin's lists follow the state's.
use Rattle.std.proofs.Common.{◌≡◌, ◌∙◌, ℕ, ◌+◌, ◌<◌, Bool, true, false, not, cond, inl, inr, List, [], ◌∷◌, map, set, length, get_or, refl, sym, ap}
use Rattle.std.specs.Prelude.{Option, Some, None, Result, Ok, Err, ◌==◌, ◌||◌, nat_lt}
use Rattle.std.specs.List.{position, prefix_len}
use Rattle.std.proofs.lemmas.Bool.{cases_eq, true≢false}
use Rattle.std.proofs.lemmas.List.{ext_get_or, length-set, get_or-set_same, get_or-set_other, length-map, get_or-map}
use Rattle.std.proofs.lemmas.List.Quantifiers.{position-Some}
use Rattle.std.proofs.Math.Path.{fun_ext}
use Rattle.plan_terms.specs.Cluster.{Lists, list_of}
use Rattle.plan_terms.specs.Change.{proposals}
use Rattle.plan_terms.specs.Legal.{each_below}
use Rattle.plan_terms.specs.declared.lists.Proposal.{Proposal}
use Rattle.goal_set.specs.Kept.{PlanView, FailureView, IsPlan}
use Rattle.cluster_json.specs.File.{Meaning}
use Rattle.exec_terms.specs.declared.phase.Phase.{Phase}
use Rattle.exec_terms.specs.declared.phase.Phase.TheVariants.{Pending, InProgress, Aborting, Aborted, Completed, Dead}
use Rattle.exec_terms.specs.declared.replies.Given.{Given}
use Rattle.exec_terms.specs.declared.replies.Idle.{Idle}
use Rattle.exec_terms.specs.declared.replies.LeaseFault.{LeaseFault}
use Rattle.exec_terms.specs.declared.replies.LeaseFault.TheVariants.{Stale, AbortAsked}
use Rattle.exec_terms.specs.declared.task.Task.{Task}
use Rattle.exec_terms.specs.declared.work.WorkKind.{WorkKind}
use Rattle.exec_terms.specs.declared.work.WorkKind.TheVariants.{Copy as ForCopy, Commit as ForCommit, Cancel as ForCancel}
use Rattle.exec_terms.specs.Words.{in_flight, is_on, holds, list_in, list_shown, needs, union_of}
use Rattle.exec_terms.specs.Machine.{State, no_task, task_at, any_unfinished, first_unfinished, launched, list_by, list_now, lists_now, next_work, started, taken, with_lease, with_task, after_take, after_launch, after_caps}
use Rattle.exec_terms.specs.Leases.{ended_at, end_lease, ended, released, test_lease, one_copied, one_failed, committed, cancelled, after_copied, after_copy_failed, after_commit, after_cancel}
use Rattle.exec_terms.specs.Stops.{stopped_by, phase_stopped, killed_by, phase_killed, marked, can_die, after_stop, after_kill}
use Rattle.exec_terms.specs.Valid.{IsValid}
use Rattle.exec_terms.specs.Runs.{CanLaunch}
use Rattle.exec_terms.proofs.Begin.{is_pending_is}
use Rattle.exec_terms.proofs.Calls.{worth, worth_goes_on}
use Rattle.exec_terms.proofs.Launch.{length-each_below, get_or-each_below}
use Rattle.exec_terms.proofs.ListLaws.{list_now-task, lists-other, lists-here, launch_keeps_lists}
use Rattle.user_tasks.specs.Asks.{AskView, changes_factor}
use Rattle.core_terms.specs.Input.{IsInput}
use Rattle.core_terms.specs.State.{Desk, Core, Moment, moment_of}
use Rattle.core_terms.specs.Jobs.{admitted, is_done_at_once, user_task_at, with_plan}
use Rattle.core_terms.specs.Submits.{after_new, change_refusal, changed_by, changes_asked, refusal_of, unless_refused, unless_unchanged}
use Rattle.core_terms.specs.Plans.{first_waiting, holder_of, ticketed, unticketed, planned, planned_back, refused, with_failure, is_plan_for, is_failure_for}
use Rattle.core_terms.specs.Works.{caps_of, is_receipt, moved, with_exec}
use Rattle.core_terms.specs.Writes.{begun, written}
use Rattle.core_terms.specs.Sound.{IsSound}
use Rattle.core_terms.specs.declared.events.Event.TheVariants as event
use Rattle.core_terms.specs.declared.replies.Reply.{Reply}
use Rattle.core_laws.specs.Books.{AdminFollows}
use Rattle.core_laws.proofs.Given.{is_given}
use Rattle.core_laws.proofs.Sound.{change_launches, planned_launches}
use Rattle.core_laws.proofs.Valid.{exec_moved}

-- the lists where each partition's list stays
each_stays : (s u : State) → length u.base ≡ length s.base → ((p : ℕ) → list_now u p ≡ list_now s p) → lists_now u ≡ lists_now s
each_stays s u long same =
    ap (λ (n : ℕ). each_below (λ p. list_now u p ∷ []) n) long ∙ ap (λ (f : ℕ → List ℕ). each_below (λ p. f p ∷ []) (length s.base)) (fun_ext same)

-- one task changes, and not the list of its partition
task_stays : (s : State) (i : ℕ) (u : Task) → IsValid s → i < length s.tasks → u.part ≡ (task_at s.tasks i).part → list_shown u ≡ list_shown (task_at s.tasks i)
    → lists_now (with_task s i u) ≡ lists_now s
task_stays s i u v l e same = each_stays s (with_task s i u) refl at where
  here : list_now (with_task s i u) u.part ≡ list_now s u.part
  here = lists-here s i u v l e ∙ same ∙ sym (list_now-task s i v l) ∙ ap (list_now s) (sym e)

  at : (p : ℕ) → list_now (with_task s i u) p ≡ list_now s p
  at p = elim (cases_eq p u.part) as (λ _. list_now (with_task s i u) p ≡ list_now s p) [
    | inl is ↦ ap (list_now (with_task s i u)) is ∙ here ∙ ap (list_now s) (sym is)
    | inr other ↦ lists-other s i u p l e other
  ]

-- one task changes, and the list of its partition with it
task_changes : (s : State) (i : ℕ) (u : Task) → IsValid s → i < length s.tasks → u.part ≡ (task_at s.tasks i).part
    → lists_now (with_task s i u) ≡ set (lists_now s) u.part (list_shown u)
task_changes s i u v l e = ext_get_or [] (lists_now (with_task s i u)) (set (lists_now s) u.part (list_shown u)) long at where
  known : u.part < length s.base
  known = rw e (v.each i no_task l).known

  long : length (lists_now (with_task s i u)) ≡ length (set (lists_now s) u.part (list_shown u))
  long = length-each_below (list_now (with_task s i u)) (length s.base) ∙ sym (length-each_below (list_now s) (length s.base)) ∙ sym (length-set (lists_now s) u.part (list_shown u))

  at : (p : ℕ) → p < length (lists_now (with_task s i u)) → get_or (lists_now (with_task s i u)) p [] ≡ get_or (set (lists_now s) u.part (list_shown u)) p []
  at p m =
      let k : p < length s.base = rw (length-each_below (list_now (with_task s i u)) (length s.base)) at m in
      get_or-each_below (list_now (with_task s i u)) (length s.base) p [] k ∙ elim (cases_eq p u.part) as (λ _. list_now (with_task s i u) p ≡ get_or (set (lists_now s) u.part (list_shown u)) p []) [
        | inl is ↦ rw is (lists-here s i u v l e ∙ sym (get_or-set_same (lists_now s) u.part (list_shown u) [] (rw (length-each_below (list_now s) (length s.base)) known)))
        | inr other ↦ lists-other s i u p l e other ∙ sym (get_or-each_below (list_now s) (length s.base) p [] k) ∙ sym (get_or-set_other (lists_now s) u.part p (list_shown u) [] other)
      ]

-- each task changes, and no list
prefix_len-map : (q : Task → Bool) (f : Task → Task) → ((t : Task) → q (f t) ≡ q t) → (xs : List Task) → prefix_len q (map f xs) ≡ prefix_len q xs
prefix_len-map q f h [] = refl
prefix_len-map q f h (x ∷ xs) = rw (h x, prefix_len-map q f h xs) refl

position-map : (q : Task → Bool) (f : Task → Task) → ((t : Task) → q (f t) ≡ q t) → (xs : List Task) → position q (map f xs) ≡ position q xs
position-map q f h xs = rw (prefix_len-map (λ t. not (q t)) f (λ t. ap not (h t)) xs, length-map xs f) refl

tasks_stay : (s u : State) (f : Task → Task) → u.base ≡ s.base → u.tasks ≡ map f s.tasks → ((t : Task) → (f t).part ≡ t.part) → ((t : Task) → list_shown (f t) ≡ list_shown t)
    → lists_now u ≡ lists_now s
tasks_stay s u f base tasks part shown = each_stays s u (ap (λ (lists : Lists). length lists) base) at where
  at : (p : ℕ) → list_now u p ≡ list_now s p
  at p =
      ap (λ (ts : List Task). list_by u p (position (is_on p) ts)) tasks ∙ ap (list_by u p) (position-map (is_on p) f (λ t. ap (λ (n : ℕ). n == p) (part t)) s.tasks)
      ∙ by (position (is_on p) s.tasks) refl where
        by : (o : Option ℕ) → position (is_on p) s.tasks ≡ o → list_by u p o ≡ list_by s p o
        by None e = ap (λ (lists : Lists). list_of lists p) base
        by (Some i) e =
            let f' = position-Some (is_on p) s.tasks i no_task e in
            ap list_shown (ap (λ (ts : List Task). task_at ts i) tasks ∙ get_or-map f s.tasks i no_task no_task f'.0) ∙ shown (task_at s.tasks i)

-- where a task is in flight, a further lease changes no list
still_flies : (p : Phase) (before after : List ℕ) → in_flight p ≡ true → list_in (started p) before after ≡ list_in p before after
still_flies Pending before after h = absurd (true≢false (sym h))
still_flies InProgress before after h = refl
still_flies Aborting before after h = refl
still_flies Aborted before after h = refl
still_flies Completed before after h = refl
still_flies Dead before after h = refl

-- a lease ends
release_stays : (s : State) (lease : ℕ) → IsValid s → lists_now (end_lease s lease) ≡ lists_now s
unfolding end_lease
release_stays s lease v = by (position (holds lease) s.tasks) refl where
  by : (o : Option ℕ) → position (holds lease) s.tasks ≡ o → lists_now (ended_at s o) ≡ lists_now s
  by None e = refl
  by (Some i) e = task_stays s i (released (task_at s.tasks i)) v (position-Some (holds lease) s.tasks i no_task e).0 refl refl

-- an event with a lease that changes no list
lease_stays : (f : Task → Task) (kind : WorkKind) (s : State) (lease : ℕ) → IsValid s
    → ((i : ℕ) → ◌≡◌ {A = Result ℕ LeaseFault} (Ok i) (test_lease s lease kind) → ((f (task_at s.tasks i)).part ≡ (task_at s.tasks i).part) × (list_shown (f (task_at s.tasks i)) ≡ list_shown (task_at s.tasks i)))
    → lists_now (ended f s lease (test_lease s lease kind)) ≡ lists_now s
lease_stays f kind s lease v h = by (test_lease s lease kind) refl where
  by : (r : Result ℕ LeaseFault) → r ≡ test_lease s lease kind → lists_now (ended f s lease r) ≡ lists_now s
  by (Ok i) e = task_stays s i (f (task_at s.tasks i)) v (worth s lease kind i e).known (h i e).0 (h i e).1
  by (Err (Stale n)) e = refl
  by (Err AbortAsked) e = release_stays s lease v

-- the task of a lease that is worth it has one of its lists
lease_writes : (f : Task → Task) (list : Task → List ℕ) (kind : WorkKind) (s : State) (lease : ℕ) → IsValid s → ((t : Task) → (f t).part ≡ t.part) → ((t : Task) → list_shown (f t) ≡ list t)
    → written list s (Some (lists_now s)) (test_lease s lease kind) ≡ Some (lists_now (ended f s lease (test_lease s lease kind)))
lease_writes f list kind s lease v part shown = by (test_lease s lease kind) refl where
  by : (r : Result ℕ LeaseFault) → r ≡ test_lease s lease kind → written list s (Some (lists_now s)) r ≡ Some (lists_now (ended f s lease r))
  by (Ok i) e =
      let t : Task = task_at s.tasks i in
      ap Some (sym (task_changes s i (f t) v (worth s lease kind i e).known (part t) ∙ ap (λ (n : ℕ). set (lists_now s) n (list_shown (f t))) (part t) ∙ ap (λ (l : List ℕ). set (lists_now s) t.part l) (shown t)))
  by (Err (Stale n)) e = refl
  by (Err AbortAsked) e = ap Some (sym (release_stays s lease v))

failed_part : (t : Task) → (one_failed t).part ≡ t.part
failed_part t = by (nat_lt (t.faults + 1) 3) where
  by : (c : Bool) → (cond c (record t { faults = t.faults + 1; lease = None }) (record t { faults = t.faults + 1; phase = Aborting; doomed = true; lease = None })).part ≡ t.part
  by true = refl
  by false = refl

failed_shown : (t : Task) → t.phase ≡ InProgress → list_shown (one_failed t) ≡ list_shown t
failed_shown t e = by (nat_lt (t.faults + 1) 3) where
  by : (c : Bool) → list_shown (cond c (record t { faults = t.faults + 1; lease = None }) (record t { faults = t.faults + 1; phase = Aborting; doomed = true; lease = None })) ≡ list_shown t
  by true = refl
  by false = rw e refl

cancelled_shown : (t : Task) → list_shown (cancelled t) ≡ t.before
cancelled_shown t = by t.doomed where
  by : (c : Bool) → list_in (cond c Dead Aborted) t.before t.after ≡ t.before
  by true = refl
  by false = refl

-- a take
take_writes : (s : State) → IsValid s → begun s (Some (lists_now s)) (next_work s) ≡ Some (lists_now (after_take s))
take_writes s v = by (next_work s) refl where
  given : (g : Given) → ◌≡◌ {A = Result Given Idle} (Ok g) (next_work s) → (b : Bool) → g.starts ≡ b
      → cond b (Some (set (lists_now s) g.part (union_of (task_at s.tasks g.task)))) (Some (lists_now s)) ≡ Some (lists_now (taken s (Ok g)))
  given g e true q =
      let h = is_given s g e in
      let t : Task = task_at s.tasks g.task in
      let shown : list_in (started t.phase) t.before t.after ≡ union_of t = rw (is_pending_is t.phase (h.waits q)) refl in
      ap Some (sym (task_changes s g.task (with_lease g.lease g.work t) v h.there refl ∙ ap (λ (l : List ℕ). set (lists_now s) t.part l) shown ∙ ap (λ (n : ℕ). set (lists_now s) n (union_of t)) (sym h.part_is)))
  given g e false q =
      let h = is_given s g e in
      let t : Task = task_at s.tasks g.task in
      ap Some (sym (task_stays s g.task (with_lease g.lease g.work t) v h.there refl (still_flies t.phase t.before t.after (h.flies q))))

  by : (r : Result Given Idle) → r ≡ next_work s → begun s (Some (lists_now s)) r ≡ Some (lists_now (taken s r))
  by (Ok g) e = given g e g.starts refl
  by (Err why) e = refl

-- stops and deaths
stopped_shown : (force : Bool) (p : Phase) (before after : List ℕ) → list_in (phase_stopped force p) before after ≡ list_in p before after
stopped_shown force Pending before after = refl
stopped_shown true InProgress before after = refl
stopped_shown false InProgress before after = refl
stopped_shown force Aborting before after = refl
stopped_shown force Aborted before after = refl
stopped_shown force Completed before after = refl
stopped_shown force Dead before after = refl

stop_stays : (s : State) (force : Bool) → lists_now (after_stop s force) ≡ lists_now s
stop_stays s force = by (any_unfinished s.tasks) where
  by : (c : Bool) → lists_now (cond c (record s { tasks = map (stopped_by force) s.tasks; stopped = true }) s) ≡ lists_now s
  by true = tasks_stay s (record s { tasks = map (stopped_by force) s.tasks; stopped = true }) (stopped_by force) refl refl (λ t. refl) (λ t. stopped_shown force t.phase t.before t.after)
  by false = refl

killed_in : (p : Phase) (before after : List ℕ) → list_in (phase_killed p) before after ≡ list_in p before after
killed_in Pending before after = refl
killed_in InProgress before after = refl
killed_in Aborting before after = refl
killed_in Aborted before after = refl
killed_in Completed before after = refl
killed_in Dead before after = refl

killed_part : (b : ℕ) (t : Task) → (killed_by b t).part ≡ t.part
killed_part b t = by (needs t b) where
  by : (c : Bool) → (cond c (record t { phase = phase_killed t.phase; doomed = t.doomed || in_flight t.phase }) t).part ≡ t.part
  by true = refl
  by false = refl

killed_shown : (b : ℕ) (t : Task) → list_shown (killed_by b t) ≡ list_shown t
killed_shown b t = by (needs t b) where
  by : (c : Bool) → list_shown (cond c (record t { phase = phase_killed t.phase; doomed = t.doomed || in_flight t.phase }) t) ≡ list_shown t
  by true = killed_in t.phase t.before t.after
  by false = refl

kill_stays : (s : State) (b : ℕ) → lists_now (after_kill s b) ≡ lists_now s
kill_stays s b = by (can_die s b) where
  by : (c : Bool) → lists_now (cond c (record s { tasks = map (killed_by b) s.tasks; hosts = map (marked b) s.hosts }) s) ≡ lists_now s
  by true = tasks_stay s (record s { tasks = map (killed_by b) s.tasks; hosts = map (marked b) s.hosts }) (killed_by b) refl refl (killed_part b) (killed_shown b)
  by false = refl

-- a launch
launch_stays : (s : State) (ps : List Proposal) → CanLaunch s ps → lists_now (after_launch s ps) ≡ lists_now s
launch_stays s ps can = ext_get_or [] (lists_now (after_launch s ps)) (lists_now s) long at where
  base : (o : Option ℕ) → length (launched s ps o).base ≡ length s.base
  base None = length-each_below (list_now s) (length s.base)
  base (Some i) = refl

  long : length (lists_now (after_launch s ps)) ≡ length (lists_now s)
  long = length-each_below (list_now (after_launch s ps)) (length (after_launch s ps).base) ∙ base (first_unfinished s) ∙ sym (length-each_below (list_now s) (length s.base))

  at : (p : ℕ) → p < length (lists_now (after_launch s ps)) → get_or (lists_now (after_launch s ps)) p [] ≡ get_or (lists_now s) p []
  at p m =
      let k : p < length (after_launch s ps).base = rw (length-each_below (list_now (after_launch s ps)) (length (after_launch s ps).base)) at m in
      let l : p < length s.base = rw (base (first_unfinished s)) at k in
      get_or-each_below (list_now (after_launch s ps)) (length (after_launch s ps).base) p [] k ∙ launch_keeps_lists s ps p can l ∙ sym (get_or-each_below (list_now s) (length s.base) p [] l)

-- the same lists, whatever becomes of the user tasks
moved_still : (d : Desk) (u : State) → lists_now u ≡ lists_now d.exec → Some (lists_now d.exec) ≡ Some (lists_now (moved d u).exec)
moved_still d u h = ap Some (sym (ap lists_now (exec_moved d u) ∙ h))

module _ (d : Desk) where
  after_submit : (ask : AskView) (o : Option Reply) → Some (lists_now d.exec) ≡ Some (lists_now (unless_refused d ask o).exec)
  after_submit ask None = refl
  after_submit ask (Some r) = refl

  after_taken : (o : Option ℕ) → Some (lists_now d.exec) ≡ Some (lists_now (ticketed d o).exec)
  after_taken None = refl
  after_taken (Some i) = refl

  after_back : (o : Option ℕ) → Some (lists_now d.exec) ≡ Some (lists_now (planned_back d o).exec)
  after_back None = refl
  after_back (Some i) = refl

  after_refused : (now : Moment) (f : FailureView) (o : Option ℕ) → Some (lists_now d.exec) ≡ Some (lists_now (refused now d f o).exec)
  after_refused now f None = refl
  after_refused now f (Some i) = by (is_failure_for now.cluster d i f) where
    by : (b : Bool) → Some (lists_now d.exec) ≡ Some (lists_now (cond b (with_failure d i f) (unticketed d i)).exec)
    by true = refl
    by false = refl

  unless_closing : (u : State) → lists_now u ≡ lists_now d.exec → (b : Bool) → Some (lists_now d.exec) ≡ Some (lists_now (cond b d (moved d u)).exec)
  unless_closing u h true = refl
  unless_closing u h false = moved_still d u h

  where_receipt : (u : State) → lists_now u ≡ lists_now d.exec → (b : Bool) → Some (lists_now d.exec) ≡ Some (lists_now (cond b (moved d u) d).exec)
  where_receipt u h true = moved_still d u h
  where_receipt u h false = refl

  unless_closed : (u : State) → lists_now u ≡ lists_now d.exec → (b : Bool) → Some (lists_now d.exec) ≡ Some (lists_now (cond b d (with_exec d u)).exec)
  unless_closed u h true = refl
  unless_closed u h false = ap Some (sym h)

after_plan : (file : Meaning) (s : Core) (n : ℕ) (p : PlanView) → IsInput file → IsPlan p → IsSound file s.desk → (o : Option ℕ) → holder_of n s.desk.jobs ≡ o
    → Some (lists_now s.desk.exec) ≡ Some (lists_now (planned (moment_of file s) s.desk p o).exec)
after_plan file s n p input plan sound None q = refl
after_plan file s n p input plan sound (Some i) q = by (is_plan_for (moment_of file s).cluster s.desk i p) refl where
  by : (b : Bool) → is_plan_for (moment_of file s).cluster s.desk i p ≡ b → Some (lists_now s.desk.exec) ≡ Some (lists_now (cond b (with_plan s.desk i (proposals p.start p.end)) (unticketed s.desk i)).exec)
  by false is = refl
  by true is = chosen (is_done_at_once (user_task_at s.desk.tasks i) (proposals p.start p.end)) refl
    where
      chosen : (b : Bool) → is_done_at_once (user_task_at s.desk.tasks i) (proposals p.start p.end) ≡ b → Some (lists_now s.desk.exec) ≡ Some (lists_now (with_plan s.desk i (proposals p.start p.end)).exec)
      chosen true d = rw d refl
      chosen false d = rw d (ap Some (sym (launch_stays s.desk.exec (proposals p.start p.end) (planned_launches file s n p input plan sound i q is d).1)))

-- a change of the replication factor
after_change : (file : Meaning) (s : Core) (ask : AskView) → changes_factor ask ≡ true → IsInput file → IsSound file s.desk → (o : Option Reply) → change_refusal (moment_of file s) s.desk ask ≡ o
    → Some (lists_now s.desk.exec) ≡ Some (lists_now (unless_unchanged s.desk ask (changes_asked (moment_of file s) s.desk ask) o).exec)
after_change file s ask is input sound (Some r) e = refl
after_change file s ask is input sound None e = chosen (is_done_at_once (user_task_at (admitted s.desk ask).tasks (length s.desk.tasks)) ps) refl where
  ps : List Proposal
  ps = changes_asked (moment_of file s) s.desk ask

  chosen : (b : Bool) → is_done_at_once (user_task_at (admitted s.desk ask).tasks (length s.desk.tasks)) ps ≡ b → Some (lists_now s.desk.exec) ≡ Some (lists_now (changed_by s.desk ask ps).exec)
  chosen true d = rw d refl
  chosen false d = rw d (ap Some (sym (launch_stays s.desk.exec ps (change_launches file s ask input sound is e d).1)))

after_asked : (file : Meaning) (s : Core) (ask : AskView) → IsInput file → IsSound file s.desk → (b : Bool) → changes_factor ask ≡ b
    → Some (lists_now s.desk.exec) ≡ Some (lists_now (after_new file (moment_of file s) s.desk ask b).exec)
after_asked file s ask input h true e = after_change file s ask e input h (change_refusal (moment_of file s) s.desk ask) refl
after_asked file s ask input h false e = after_submit s.desk ask (refusal_of file (moment_of file s) s.desk ask)

pub admin_follows : AdminFollows
admin_follows file s (event.Submit ask None) input legal h = after_asked file s ask input h (changes_factor ask) refl
admin_follows file s event.PlanTake input legal h = after_taken s.desk (first_waiting s.desk)
admin_follows file s (event.Planned ticket plan) input legal h = after_plan file s ticket plan input legal h (holder_of ticket s.desk.jobs) refl
admin_follows file s (event.Refused ticket failure) input legal h = after_refused s.desk (moment_of file s) failure (holder_of ticket s.desk.jobs)
admin_follows file s (event.PlanBack ticket) input legal h = after_back s.desk (holder_of ticket s.desk.jobs)
admin_follows file s (event.Stop force) input legal h = unless_closing s.desk (after_stop s.desk.exec force) (stop_stays s.desk.exec force) s.desk.closing
admin_follows file s (event.Kill broker) input legal h = unless_closing s.desk (after_kill s.desk.exec broker) (kill_stays s.desk.exec broker) s.desk.closing
admin_follows file s (event.Caps asked) input legal h = unless_closed s.desk (after_caps s.desk.exec (caps_of s.desk asked)) refl s.desk.closing
admin_follows file s (event.Heal cause ask) input legal h = after_asked file s ask input h (changes_factor ask) refl
admin_follows file s event.Take input legal h = take_writes s.desk.exec h.exec.valid ∙ ap Some (ap lists_now (sym (exec_moved s.desk (after_take s.desk.exec))))
admin_follows file s (event.Copied receipt) input legal h =
    where_receipt s.desk (after_copied s.desk.exec receipt.lease) (lease_stays one_copied ForCopy s.desk.exec receipt.lease h.exec.valid (λ i e. (refl, refl))) (is_receipt s.desk.exec receipt)
admin_follows file s (event.CopyFailed lease) input legal h =
    moved_still s.desk (after_copy_failed s.desk.exec lease) (lease_stays one_failed ForCopy s.desk.exec lease h.exec.valid
    (λ i e. (failed_part (task_at s.desk.exec.tasks i), failed_shown (task_at s.desk.exec.tasks i) (worth_goes_on s.desk.exec lease i h.exec.valid e).0)))
admin_follows file s (event.Commit lease) input legal h =
    lease_writes committed (λ t. t.after) ForCommit s.desk.exec lease h.exec.valid (λ t. refl) (λ t. refl) ∙ ap Some (ap lists_now (sym (exec_moved s.desk (after_commit s.desk.exec lease))))
admin_follows file s (event.Cancel lease) input legal h =
    lease_writes cancelled (λ t. t.before) ForCancel s.desk.exec lease h.exec.valid (λ t. refl) cancelled_shown ∙ ap Some (ap lists_now (sym (exec_moved s.desk (after_cancel s.desk.exec lease))))
admin_follows file s (event.GiveBack lease) input legal h = moved_still s.desk (end_lease s.desk.exec lease) (release_stays s.desk.exec lease h.exec.valid)
admin_follows file s _ input legal h = refl
