-- Each copy of a task is reported once, in its order.
use Rattle.std.proofs.Common.{◌≡◌, ◌∙◌, ℕ, ◌+◌, ◌<◌, Bool, true, false, not, ◌&&◌, cond, inl, inr, List, [], ◌∷◌, ◌++◌, append-nil, map, set, take, length, get_or, refl, sym, ap, arith, zero, suc}
use Rattle.std.specs.Prelude.{Option, Some, None, Result, Ok, Err, ◌==◌, ◌||◌, nat_lt, fold, option_map, slice_get}
use Rattle.std.specs.List.{filter, position}
use Rattle.std.proofs.lemmas.Bool.{cases_eq, eq-eqb, eqb-true, ne_eqb, false≢true}
use Rattle.std.proofs.lemmas.List.{get_or-set_same, get_or-set_other, length-set, map-append, take_more, take_all}
use Rattle.std.proofs.lemmas.List.Elements.{filter-append}
use Rattle.std.proofs.lemmas.List.Quantifiers.{position-Some}
use Rattle.std.proofs.lemmas.Option.{get_or_from_slice_get}
use Rattle.plan_terms.specs.Change.{proposals}
use Rattle.plan_terms.specs.declared.lists.Proposal.{Proposal}
use Rattle.goal_set.specs.Kept.{PlanView, FailureView, IsPlan}
use Rattle.cluster_json.specs.File.{Meaning}
use Rattle.cluster_gate.specs.Receipts.{ReceiptView}
use Rattle.exec_terms.specs.declared.phase.Phase.{Phase}
use Rattle.exec_terms.specs.declared.phase.Phase.TheVariants.{Pending, InProgress, Aborting, Aborted, Completed, Dead}
use Rattle.exec_terms.specs.declared.replies.Given.{Given}
use Rattle.exec_terms.specs.declared.replies.Idle.{Idle}
use Rattle.exec_terms.specs.declared.replies.LeaseFault.{LeaseFault}
use Rattle.exec_terms.specs.declared.replies.LeaseFault.TheVariants.{Stale, AbortAsked}
use Rattle.exec_terms.specs.declared.task.Task.{Task}
use Rattle.exec_terms.specs.declared.work.Lease.{Lease}
use Rattle.exec_terms.specs.declared.work.Work.{Work}
use Rattle.exec_terms.specs.declared.work.Work.TheVariants.{Copy, Commit, Cancel}
use Rattle.exec_terms.specs.declared.work.WorkKind.{WorkKind}
use Rattle.exec_terms.specs.declared.work.WorkKind.TheVariants.{Copy as ForCopy, Commit as ForCommit, Cancel as ForCancel}
use Rattle.exec_terms.specs.Words.{copies, copies_left, holds, holds_for, in_flight, is_aborting, is_cancel, is_completed, is_for, is_on, needs, next_step, or_commit}
use Rattle.exec_terms.specs.Machine.{State, no_task, task_at, any_unfinished, first_unfinished, next_work, taken, task_of, with_lease, with_task, after_take}
use Rattle.exec_terms.specs.Leases.{ended_at, end_lease, ended, given_under, held_by, released, test_lease, tested, one_copied, one_failed, committed, cancelled, after_copied, copied_reply, reply_by}
use Rattle.exec_terms.specs.Stops.{stopped_by, killed_by, phase_killed, marked, can_die, after_stop, after_kill}
use Rattle.exec_terms.specs.Valid.{IsValid}
use Rattle.exec_terms.specs.Runs.{CapsSet, CopyFailed, Committed, Cancelled, after_event}
use Rattle.exec_terms.proofs.Calls.{worth}
use Rattle.exec_terms.proofs.Calm.{AreAll, all_itself, all_map, all_set}
use Rattle.exec_terms.proofs.Events.{next_step-copy}
use Rattle.exec_terms.proofs.WorkLeft.{holds_too, same_place}
use Rattle.user_tasks.specs.Asks.{AskView, changes_factor}
use Rattle.core_terms.specs.Input.{IsInput}
use Rattle.core_terms.specs.State.{Desk, Core, Moment, moment_of, opening_desk, opening_of}
use Rattle.core_terms.specs.Jobs.{admitted, is_done_at_once, user_task_at, with_plan}
use Rattle.core_terms.specs.Submits.{after_new, change_refusal, changes_asked, refusal_of, unless_refused, unless_unchanged}
use Rattle.core_terms.specs.Plans.{first_waiting, holder_of, ticketed, unticketed, planned, planned_back, refused, with_failure, is_plan_for, is_failure_for}
use Rattle.core_terms.specs.Works.{caps_of, copied_told, is_copy, is_receipt, is_receipt_of, moved, with_exec}
use Rattle.core_terms.specs.Step.{next}
use Rattle.core_terms.specs.History.{AreLegal, IsLegal, state_after}
use Rattle.core_terms.specs.Sound.{IsSound}
use Rattle.core_terms.specs.declared.events.Event.{Event}
use Rattle.core_terms.specs.declared.events.Event.TheVariants as event
use Rattle.core_terms.specs.declared.replies.Reply.{Reply}
use Rattle.core_terms.specs.declared.replies.Reply.TheVariants as reply
use Rattle.core_laws.specs.Reported.{AreReported, CopiesAreReported, copies_told, is_left, reported, reported_from}
use Rattle.core_laws.proofs.Given.{is_given}
use Rattle.core_laws.proofs.Histories.{histories_are_sound, opening_is_sound}
use Rattle.core_laws.proofs.Jobs.{calm_first}
use Rattle.core_laws.proofs.Sound.{change_launches, each_event_keeps_sound, planned_launches}
use Rattle.core_laws.proofs.Valid.{exec_moved}

-- a task keeps its partition, its copies and how many are done
record SameCopies (t u : Task) : Type 0 where
  part : u.part ≡ t.part
  done : u.done ≡ t.done
  copies_are : copies u ≡ copies t

same_itself : (t : Task) → SameCopies t t
same_itself t = record { part = refl; done = refl; copies_are = refl }

same_released : (t : Task) → SameCopies t (released t)
unfolding copies
same_released t = record { part = refl; done = refl; copies_are = refl }

same_lease : (n : ℕ) (w : Work) (t : Task) → SameCopies t (with_lease n w t)
unfolding copies
same_lease n w t = record { part = refl; done = refl; copies_are = refl }

same_failed : (t : Task) → SameCopies t (one_failed t)
unfolding copies
same_failed t = by (nat_lt (t.faults + 1) 3) where
  by : (c : Bool) → SameCopies t (cond c (record t { faults = t.faults + 1; lease = None }) (record t { faults = t.faults + 1; phase = Aborting; doomed = true; lease = None }))
  by true = record { part = refl; done = refl; copies_are = refl }
  by false = record { part = refl; done = refl; copies_are = refl }

same_committed : (t : Task) → SameCopies t (committed t)
unfolding copies
same_committed t = record { part = refl; done = refl; copies_are = refl }

same_cancelled : (t : Task) → SameCopies t (cancelled t)
unfolding copies
same_cancelled t = record { part = refl; done = refl; copies_are = refl }

same_stopped : (force : Bool) (t : Task) → SameCopies t (stopped_by force t)
unfolding copies
same_stopped force t = record { part = refl; done = refl; copies_are = refl }

same_killed : (b : ℕ) (t : Task) → SameCopies t (killed_by b t)
unfolding copies
same_killed b t = by (needs t b) where
  by : (c : Bool) → SameCopies t (cond c (record t { phase = phase_killed t.phase; doomed = t.doomed || in_flight t.phase }) t)
  by true = record { part = refl; done = refl; copies_are = refl }
  by false = record { part = refl; done = refl; copies_are = refl }

abbrev AllSame : State → State → Type 0
AllSame s u = AreAll SameCopies s.tasks u.tasks

itself : (s : State) → AllSame s s
itself s = all_itself SameCopies same_itself s.tasks

one_same : (s : State) (i : ℕ) (u : Task) → i < length s.tasks → SameCopies (task_at s.tasks i) u → AllSame s (with_task s i u)
one_same s i u l h = all_set SameCopies same_itself s.tasks i u l h

take_same : (s : State) → AllSame s (after_take s)
take_same s = by (next_work s) refl where
  by : (r : Result Given Idle) → r ≡ next_work s → AllSame s (taken s r)
  by (Ok g) e = one_same s g.task (with_lease g.lease g.work (task_at s.tasks g.task)) (is_given s g e).there (same_lease g.lease g.work (task_at s.tasks g.task))
  by (Err why) e = itself s

release_same : (s : State) (lease : ℕ) → AllSame s (end_lease s lease)
unfolding end_lease
release_same s lease = by (position (holds lease) s.tasks) refl where
  by : (o : Option ℕ) → position (holds lease) s.tasks ≡ o → AllSame s (ended_at s o)
  by None e = itself s
  by (Some i) e = one_same s i (released (task_at s.tasks i)) (position-Some (holds lease) s.tasks i no_task e).0 (same_released (task_at s.tasks i))

lease_same : (f : Task → Task) → ((t : Task) → SameCopies t (f t)) → (kind : WorkKind) (s : State) (lease : ℕ) → AllSame s (ended f s lease (test_lease s lease kind))
lease_same f h kind s lease = by (test_lease s lease kind) refl where
  by : (r : Result ℕ LeaseFault) → r ≡ test_lease s lease kind → AllSame s (ended f s lease r)
  by (Ok i) e = one_same s i (f (task_at s.tasks i)) (worth s lease kind i e).known (h (task_at s.tasks i))
  by (Err (Stale n)) e = itself s
  by (Err AbortAsked) e = release_same s lease

stop_same : (s : State) (force : Bool) → AllSame s (after_stop s force)
stop_same s force = by (any_unfinished s.tasks) where
  by : (c : Bool) → AllSame s (cond c (record s { tasks = map (stopped_by force) s.tasks; stopped = true }) s)
  by true = all_map SameCopies same_itself (stopped_by force) (same_stopped force) s.tasks
  by false = itself s

kill_same : (s : State) (b : ℕ) → AllSame s (after_kill s b)
kill_same s b = by (can_die s b) where
  by : (c : Bool) → AllSame s (cond c (record s { tasks = map (killed_by b) s.tasks; hosts = map (marked b) s.hosts }) s)
  by true = all_map SameCopies same_itself (killed_by b) (same_killed b) s.tasks
  by false = itself s

-- what was reported stays right where each task keeps its copies
still : (s u : State) (told : List ReceiptView) → AllSame s u → AreReported s told → AreReported u told
still s u told same h i l =
    let t : Task = task_at s.tasks i in
    let e = same.each i in
    ap (λ (p : ℕ). copies_told p told) e.part ∙ h i (rw same.long at l) ∙ ap (λ (n : ℕ). take n (copies t)) (sym e.done) ∙ ap (λ (ws : List Work). take (task_at u.tasks i).done ws) (sym e.copies_are)

moved_still : (d : Desk) (u : State) (told : List ReceiptView) → AllSame d.exec u → AreReported d.exec told → AreReported (moved d u).exec told
moved_still d u told same h = rw (exec_moved d u) (still d.exec u told same h)

-- a receipt that fits its lease is of the next copy of the lease's task
record IsNextCopy (s : State) (r : ReceiptView) (i : ℕ) : Type 0 where
  known : i < length s.tasks
  part : r.part ≡ (task_at s.tasks i).part
  next : next_step (task_at s.tasks i) ≡ Copy r.to r.chunk

found : (s : State) (lease : ℕ) (kind : WorkKind) (i : ℕ) → ◌≡◌ {A = Result ℕ LeaseFault} (Ok i) (test_lease s lease kind) → (i < length s.tasks) × (holds_for lease kind (task_at s.tasks i) ≡ true)
unfolding test_lease
found s lease kind i e = by (position (holds_for lease kind) s.tasks) refl e where
  by : (o : Option ℕ) → position (holds_for lease kind) s.tasks ≡ o → ◌≡◌ {A = Result ℕ LeaseFault} (Ok i) (tested s kind o) → (i < length s.tasks) × (holds_for lease kind (task_at s.tasks i) ≡ true)
  by None q e = cc
  by (Some j) q e = on (is_aborting (task_at s.tasks j).phase && not (is_cancel kind)) e where
    p : (j < length s.tasks) × (holds_for lease kind (task_at s.tasks j) ≡ true) × ((k : ℕ) → k < j → holds_for lease kind (task_at s.tasks k) ≡ false)
    p = position-Some (holds_for lease kind) s.tasks j no_task q

    on : (c : Bool) → ◌≡◌ {A = Result ℕ LeaseFault} (Ok i) (cond c (Err AbortAsked) (Ok j)) → (i < length s.tasks) × (holds_for lease kind (task_at s.tasks i) ≡ true)
    on true e = cc
    on false e = let same : i ≡ j = cc in rw same (p.0, p.1)

and_both : (a b : Bool) → (a && b) ≡ true → (a ≡ true) × (b ≡ true)
and_both true b h = (refl, h)
and_both false b h = absurd (false≢true h)

copy_is : (w : Work) (to chunk : ℕ) → is_copy w to chunk ≡ true → w ≡ Copy to chunk
copy_is (Copy b n) to chunk h =
    let both = and_both (b == to) (n == chunk) h in
    ap (λ (x : ℕ). Copy x n) (eqb-true b to both.0) ∙ ap (λ (y : ℕ). Copy to y) (eqb-true n chunk both.1)
copy_is Commit to chunk h = absurd (false≢true h)
copy_is Cancel to chunk h = absurd (false≢true h)

next_copy : (s : State) (r : ReceiptView) (i : ℕ) → IsValid s → is_receipt s r ≡ true → ◌≡◌ {A = Result ℕ LeaseFault} (Ok i) (test_lease s r.lease ForCopy) → IsNextCopy s r i
next_copy s r i v fits e = by (position (holds r.lease) s.tasks) refl fits where
  f : (i < length s.tasks) × (holds_for r.lease ForCopy (task_at s.tasks i) ≡ true)
  f = found s r.lease ForCopy i e

  t : Task
  t = task_at s.tasks i

  leased : (o : Option Lease) → (task_at s.tasks i).lease ≡ o → is_receipt_of r (option_map (given_under i (task_at s.tasks i)) o) ≡ true → IsNextCopy s r i
  leased None q h = absurd (false≢true h)
  leased (Some l) q h =
      let both = and_both ((task_at s.tasks i).part == r.part) (is_copy l.work r.to r.chunk) h in
      let w : l.work ≡ Copy r.to r.chunk = copy_is l.work r.to r.chunk both.1 in
      let lease = (v.each i no_task f.0).lease l q in
      record { known = f.0; part = sym (eqb-true (task_at s.tasks i).part r.part both.0); next = sym (lease.copy (rw w refl)) ∙ w }

  by : (o : Option ℕ) → position (holds r.lease) s.tasks ≡ o → is_receipt_of r (held_by s o) ≡ true → IsNextCopy s r i
  by None q h = absurd (false≢true h)
  by (Some k) q h =
      let g = position-Some (holds r.lease) s.tasks k no_task q in
      let same : k ≡ i = same_place (holds r.lease) s.tasks k i no_task g.0 f.0 g.1 (holds_too r.lease ForCopy (task_at s.tasks i).lease f.1) (v.one_holder r.lease) in
      leased (task_at s.tasks i).lease refl (rw same at h)

-- the next copy of a task stands behind those that are done
next_at : (t : Task) (w : Work) → next_step t ≡ w → is_for ForCopy w ≡ true → (t.done < length (copies t)) × (get_or (copies t) t.done w ≡ w)
unfolding next_step
next_at t w e h = (next_step-copy t (rw e h), by (slice_get (copies t) t.done) refl e) where
  by : (o : Option Work) → slice_get (copies t) t.done ≡ o → or_commit o ≡ w → get_or (copies t) t.done w ≡ w
  by None q r = absurd (false≢true (rw (← r) at h))
  by (Some x) q r = get_or_from_slice_get (copies t) t.done x w q ∙ r

copied_copies : (t : Task) → copies (one_copied t) ≡ copies t
unfolding copies
copied_copies t = refl

-- a copy of the task at a place was reported
one_told : (s : State) (r : ReceiptView) (i : ℕ) (told : List ReceiptView) → IsValid s → IsNextCopy s r i → AreReported s told → AreReported (with_task s i (one_copied (task_at s.tasks i))) (told ++ r ∷ [])
one_told s r i told v n h j m = elim (cases_eq j i) as (λ _. copies_told (task_at (set s.tasks i (one_copied (task_at s.tasks i))) j).part (told ++ r ∷ []) ≡ take (task_at (set s.tasks i (one_copied (task_at s.tasks i))) j).done (copies (task_at (set s.tasks i (one_copied (task_at s.tasks i))) j))) [
  | inl is ↦ rw is here
  | inr other ↦ rw (get_or-set_other s.tasks i j (one_copied (task_at s.tasks i)) no_task other) (there j other l)
]
  where
    l : j < length s.tasks
    l = rw (length-set s.tasks i (one_copied (task_at s.tasks i))) at m

    -- the receipts of a partition, with one more
    more : (p : ℕ) (b : Bool) → (r.part == p) ≡ b → copies_told p (told ++ r ∷ []) ≡ copies_told p told ++ cond b (Copy r.to r.chunk ∷ []) []
    more p b e = ap (map (λ (x : ReceiptView). Copy x.to x.chunk)) (filter-append (λ (x : ReceiptView). x.part == p) told (r ∷ [])) ∙ map-append (λ (x : ReceiptView). Copy x.to x.chunk) (filter (λ (x : ReceiptView). x.part == p) told) (filter (λ (x : ReceiptView). x.part == p) (r ∷ []))
        ∙ ap (λ (ws : List Work). copies_told p told ++ ws) (last b e) where
          last : (b : Bool) → (r.part == p) ≡ b → map (λ (x : ReceiptView). Copy x.to x.chunk) (cond (r.part == p) (r ∷ []) []) ≡ cond b (Copy r.to r.chunk ∷ []) []
          last true e = rw e refl
          last false e = rw e refl

    here : copies_told (task_at (set s.tasks i (one_copied (task_at s.tasks i))) i).part (told ++ r ∷ []) ≡ take (task_at (set s.tasks i (one_copied (task_at s.tasks i))) i).done (copies (task_at (set s.tasks i (one_copied (task_at s.tasks i))) i))
    here =
        let t : Task = task_at s.tasks i in
        let w : Work = Copy r.to r.chunk in
        let at = next_at t w n.next refl in
        rw (get_or-set_same s.tasks i (one_copied t) no_task n.known, copied_copies t)
        (more t.part true (eq-eqb r.part t.part n.part) ∙ ap (λ (ws : List Work). ws ++ w ∷ []) (h i n.known) ∙ ap (λ (x : Work). take t.done (copies t) ++ x ∷ []) (sym at.1) ∙ sym (take_more (copies t) t.done w at.0))

    there : (k : ℕ) → (k ≡ i → ⊥) → k < length s.tasks → copies_told (task_at s.tasks k).part (told ++ r ∷ []) ≡ take (task_at s.tasks k).done (copies (task_at s.tasks k))
    there k other m =
        let p : ℕ = (task_at s.tasks k).part in
        let apart : (r.part == p) ≡ false = ne_eqb r.part p (λ e. other (same_place (is_on p) s.tasks k i no_task m n.known (eq-eqb (task_at s.tasks k).part p refl) (eq-eqb (task_at s.tasks i).part p (sym n.part ∙ e)) (v.one_task p))) in
        more p false apart ∙ append-nil (copies_told p told) ∙ h k m

-- a copy is brought
copied_kept : (s : State) (r : ReceiptView) (told : List ReceiptView) → IsValid s → is_receipt s r ≡ true → AreReported s told
    → AreReported (after_copied s r.lease) (cond (is_left (copied_told (copied_reply s r.lease))) (told ++ r ∷ []) told)
copied_kept s r told v fits h = by (test_lease s r.lease ForCopy) refl where
  by : (o : Result ℕ LeaseFault) → o ≡ test_lease s r.lease ForCopy → AreReported (ended one_copied s r.lease o) (cond (is_left (copied_told (reply_by (λ t. record { 0 = copies_left (one_copied t) }) s o))) (told ++ r ∷ []) told)
  by (Ok i) e = one_told s r i told v (next_copy s r i v fits e) h
  by (Err (Stale n)) e = h
  by (Err AbortAsked) e = still s (end_lease s r.lease) told (release_same s r.lease) h

-- nothing is done of a task that is launched
fresh : (ps : List Proposal) (chunks : List ℕ) (i : ℕ) → i < length (map (task_of chunks) ps) → take (task_at (map (task_of chunks) ps) i).done (copies (task_at (map (task_of chunks) ps) i)) ≡ []
fresh [] chunks i l = absurd (omega arith)
fresh (p ∷ ps) chunks zero l = refl
fresh (p ∷ ps) chunks (suc i) l = fresh ps chunks i (omega arith)

begins_not : (a b : Bool) → a ≡ b → (not a && b) ≡ false
begins_not true true e = refl
begins_not true false e = refl
begins_not false false e = refl
begins_not false true e = absurd (false≢true e)

-- what was reported after a step to this desk from one with these tasks, where an execution begins afresh
abbrev KeptFrom : List Task → List ReceiptView → Desk → Type 0
KeptFrom tasks told d = AreReported d.exec (cond (not (any_unfinished tasks) && any_unfinished d.exec.tasks) [] told)

-- the plan of a user task
planned_at : (d : Desk) (i : ℕ) (ps : List Proposal) (told : List ReceiptView) → AreReported d.exec told → (is_done_at_once (user_task_at d.tasks i) ps ≡ false → first_unfinished d.exec ≡ None) → KeptFrom d.exec.tasks told (with_plan d i ps)
planned_at d i [] told h none = rw (begins_not (any_unfinished d.exec.tasks) (any_unfinished d.exec.tasks) refl) h
planned_at d i (x ∷ xs) told h none = wet (is_done_at_once (user_task_at d.tasks i) (x ∷ xs)) refl
  where
    wet : (b : Bool) → is_done_at_once (user_task_at d.tasks i) (x ∷ xs) ≡ b → KeptFrom d.exec.tasks told (with_plan d i (x ∷ xs))
    wet true q = rw (q, begins_not (any_unfinished d.exec.tasks) (any_unfinished d.exec.tasks) refl) h
    wet false q = rw (q, none q, calm_first d.exec (none q)) (λ j l. sym (fresh (x ∷ xs) d.exec.chunks j l))

-- a plan is brought
plan_kept : (file : Meaning) (s : Core) (n : ℕ) (p : PlanView) (told : List ReceiptView) → IsInput file → IsPlan p → IsSound file s.desk → AreReported s.desk.exec told → (o : Option ℕ) → holder_of n s.desk.jobs ≡ o
    → AreReported (planned (moment_of file s) s.desk p o).exec (cond (not (any_unfinished s.desk.exec.tasks) && any_unfinished (planned (moment_of file s) s.desk p o).exec.tasks) [] told)
plan_kept file s n p told input plan sound h None q = rw (begins_not (any_unfinished s.desk.exec.tasks) (any_unfinished s.desk.exec.tasks) refl) h
plan_kept file s n p told input plan sound h (Some i) q = by (is_plan_for (moment_of file s).cluster s.desk i p) refl where
  by : (b : Bool) → is_plan_for (moment_of file s).cluster s.desk i p ≡ b → KeptFrom s.desk.exec.tasks told (cond b (with_plan s.desk i (proposals p.start p.end)) (unticketed s.desk i))
  by false is = rw (begins_not (any_unfinished s.desk.exec.tasks) (any_unfinished s.desk.exec.tasks) refl) h
  by true is = planned_at s.desk i (proposals p.start p.end) told h (λ d. (planned_launches file s n p input plan sound i q is d).0)

-- a request without an id
asked_kept : (file : Meaning) (s : Core) (ask : AskView) (told : List ReceiptView) → IsInput file → IsSound file s.desk → AreReported s.desk.exec told → (b : Bool) → changes_factor ask ≡ b
    → KeptFrom s.desk.exec.tasks told (after_new file (moment_of file s) s.desk ask b)
asked_kept file s ask told input sound h false e = by (refusal_of file (moment_of file s) s.desk ask) where
  by : (o : Option Reply) → KeptFrom s.desk.exec.tasks told (unless_refused s.desk ask o)
  by None = rw (begins_not (any_unfinished s.desk.exec.tasks) (any_unfinished s.desk.exec.tasks) refl) h
  by (Some r) = rw (begins_not (any_unfinished s.desk.exec.tasks) (any_unfinished s.desk.exec.tasks) refl) h
asked_kept file s ask told input sound h true e = by (change_refusal (moment_of file s) s.desk ask) refl where
  by : (o : Option Reply) → change_refusal (moment_of file s) s.desk ask ≡ o → KeptFrom s.desk.exec.tasks told (unless_unchanged s.desk ask (changes_asked (moment_of file s) s.desk ask) o)
  by (Some r) q = rw (begins_not (any_unfinished s.desk.exec.tasks) (any_unfinished s.desk.exec.tasks) refl) h
  by None q = planned_at (admitted s.desk ask) (length s.desk.tasks) (changes_asked (moment_of file s) s.desk ask) told h (λ d. (change_launches file s ask input sound e q d).0)

module _ (told : List ReceiptView) (d : Desk) (h : AreReported d.exec told) where
  after_taken : (o : Option ℕ) → AreReported (ticketed d o).exec told
  after_taken None = h
  after_taken (Some i) = h

  after_back : (o : Option ℕ) → AreReported (planned_back d o).exec told
  after_back None = h
  after_back (Some i) = h

  after_refused : (now : Moment) (f : FailureView) (o : Option ℕ) → AreReported (refused now d f o).exec told
  after_refused now f None = h
  after_refused now f (Some i) = by (is_failure_for now.cluster d i f) where
    by : (b : Bool) → AreReported (cond b (with_failure d i f) (unticketed d i)).exec told
    by true = h
    by false = h

  unless_closing : (u : State) → AllSame d.exec u → (b : Bool) → AreReported (cond b d (moved d u)).exec told
  unless_closing u same true = h
  unless_closing u same false = moved_still d u told same h

  unless_closed : (u : State) → AllSame d.exec u → (b : Bool) → AreReported (cond b d (with_exec d u)).exec told
  unless_closed u same true = h
  unless_closed u same false = still d.exec u told same h

copied_event : (d : Desk) (r : ReceiptView) (told : List ReceiptView) → IsValid d.exec → AreReported d.exec told → (b : Bool) → is_receipt d.exec r ≡ b
    → AreReported (cond b (moved d (after_copied d.exec r.lease)) d).exec (cond (is_left (cond b (copied_told (copied_reply d.exec r.lease)) (reply.Stale d.exec.leases))) (told ++ r ∷ []) told)
copied_event d r told v h true e = rw (exec_moved d (after_copied d.exec r.lease)) (copied_kept d.exec r told v e h)
copied_event d r told v h false e = h

event_kept : (file : Meaning) (s : Core) (e : Event) (told : List ReceiptView) → IsInput file → IsLegal e → IsSound file s.desk → AreReported s.desk.exec told → AreReported (next file s e).desk.exec (reported file s e told)
event_kept file s (event.Submit ask None) told input legal x h = asked_kept file s ask told input x h (changes_factor ask) refl
event_kept file s (event.Submit ask (Some id)) told input legal x h = rw (begins_not (any_unfinished s.desk.exec.tasks) (any_unfinished s.desk.exec.tasks) refl) h
event_kept file s (event.Heal cause ask) told input legal x h = asked_kept file s ask told input x h (changes_factor ask) refl
event_kept file s event.PlanTake told input legal x h = after_taken told s.desk h (first_waiting s.desk)
event_kept file s (event.Planned ticket plan) told input legal x h = plan_kept file s ticket plan told input legal x h (holder_of ticket s.desk.jobs) refl
event_kept file s (event.Refused ticket failure) told input legal x h = after_refused told s.desk h (moment_of file s) failure (holder_of ticket s.desk.jobs)
event_kept file s (event.PlanBack ticket) told input legal x h = after_back told s.desk h (holder_of ticket s.desk.jobs)
event_kept file s (event.Stop force) told input legal x h = unless_closing told s.desk h (after_stop s.desk.exec force) (stop_same s.desk.exec force) s.desk.closing
event_kept file s (event.Kill broker) told input legal x h = unless_closing told s.desk h (after_kill s.desk.exec broker) (kill_same s.desk.exec broker) s.desk.closing
event_kept file s (event.Caps asked) told input legal x h = unless_closed told s.desk h (after_event s.desk.exec (CapsSet (caps_of s.desk asked))) (itself s.desk.exec) s.desk.closing
event_kept file s event.Take told input legal x h = moved_still s.desk (after_take s.desk.exec) told (take_same s.desk.exec) h
event_kept file s (event.Copied receipt) told input legal x h = copied_event s.desk receipt told x.exec.valid h (is_receipt s.desk.exec receipt) refl
event_kept file s (event.CopyFailed lease) told input legal x h = moved_still s.desk (after_event s.desk.exec (CopyFailed lease)) told (lease_same one_failed same_failed ForCopy s.desk.exec lease) h
event_kept file s (event.Commit lease) told input legal x h = moved_still s.desk (after_event s.desk.exec (Committed lease)) told (lease_same committed same_committed ForCommit s.desk.exec lease) h
event_kept file s (event.Cancel lease) told input legal x h = moved_still s.desk (after_event s.desk.exec (Cancelled lease)) told (lease_same cancelled same_cancelled ForCancel s.desk.exec lease) h
event_kept file s (event.GiveBack lease) told input legal x h = moved_still s.desk (end_lease s.desk.exec lease) told (release_same s.desk.exec lease) h
event_kept file s _ told input legal x h = h

all_kept : (file : Meaning) (s : Core) (told : List ReceiptView) (events : List Event) → IsInput file → AreLegal events → IsSound file s.desk → AreReported s.desk.exec told
    → AreReported (fold (next file) s events).desk.exec (reported_from file s told events)
all_kept file s told [] input legal sound h = h
all_kept file s told (e ∷ es) input legal sound h =
    all_kept file (next file s e) (reported file s e told) es input legal.1 (each_event_keeps_sound file s e input legal.0 sound) (event_kept file s e told input legal.0 sound h)

none_reported : (file : Meaning) → AreReported (opening_desk file).exec []
unfolding opening_desk
none_reported file i l = absurd (omega arith)

all_reported : (file : Meaning) (events : List Event) → IsInput file → AreLegal events → AreReported (state_after file events).desk.exec (reported_from file (opening_of file) [] events)
unfolding state_after
all_reported file events input legal = all_kept file (opening_of file) [] events input legal (opening_is_sound file input) (none_reported file)

completed_is : (p : Phase) → is_completed p ≡ true → p ≡ Completed
completed_is Pending h = absurd (false≢true h)
completed_is InProgress h = absurd (false≢true h)
completed_is Aborting h = absurd (false≢true h)
completed_is Aborted h = absurd (false≢true h)
completed_is Completed h = refl
completed_is Dead h = absurd (false≢true h)

pub copies_are_reported : CopiesAreReported
copies_are_reported file events input legal =
    let h = all_reported file events input legal in
    let s : State = (state_after file events).desk.exec in
    let sound = histories_are_sound file events input legal in
    record {
      done = h;
      completed = λ i l c.
          let t : Task = task_at s.tasks i in
          let all : t.done ≡ length (copies t) = (sound.exec.valid.each i no_task l).completed (completed_is t.phase c) in
          h i l ∙ ap (λ (n : ℕ). take n (copies t)) all ∙ take_all (length (copies t)) (copies t) (omega arith);
    }
