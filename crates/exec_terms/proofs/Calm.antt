-- Events that let no task into flight: no number of tasks in flight rises, and no partition gets another task.
use Rattle.std.proofs.Common.{◌≡◌, ◌⊎◌, ℕ, ◌+◌, ◌<◌, ◌≤◌, Bool, true, false, not, ◌&&◌, cond, inl, inr, List, [], ◌∷◌, map, set, length, get_or, arith, refl, sym, ◌∙◌, zero, suc}
use Rattle.std.specs.Prelude.{Option, Some, None, Result, Ok, Err}
use Rattle.std.specs.List.{count_by, position}
use Rattle.std.proofs.lemmas.Bool.{cases_lt, cases_eq, and_parts, and_from, or_left, false≢true, true≢false, false_from_ne_true}
use Rattle.std.proofs.lemmas.List.{length-set, length-map, get_or-map, get_or-set_same, get_or-set_other, get_or_past}
use Rattle.std.proofs.lemmas.List.Sums.{sum_by-cons}
use Rattle.std.proofs.lemmas.List.Quantifiers.{position-Some}
use Rattle.exec_terms.specs.declared.phase.Phase.{Phase}
use Rattle.exec_terms.specs.declared.work.WorkKind.{WorkKind}
use Rattle.exec_terms.specs.declared.work.WorkKind.TheVariants.{Copy as ForCopy, Commit as ForCommit, Cancel as ForCancel}
use Rattle.exec_terms.specs.declared.work.Work.{Work}
use Rattle.exec_terms.specs.declared.work.Work.TheVariants.{Cancel}
use Rattle.exec_terms.specs.declared.work.Lease.{Lease}
use Rattle.exec_terms.specs.declared.replies.LeaseFault.{LeaseFault}
use Rattle.exec_terms.specs.declared.replies.LeaseFault.TheVariants.{Stale, AbortAsked}
use Rattle.exec_terms.specs.declared.task.Task.{Task}
use Rattle.exec_terms.specs.Words.{is_pending, is_in_progress, is_aborting, in_flight, is_free, adds, removes, is_replica_task, next_step, holds, is_on}
use Rattle.exec_terms.specs.Machine.{State, no_task, task_at, any_unfinished, with_lease, may_start, has_room, has_leader_room, given, taken, or_start, or_step, or_cancel, next_work, after_take}
use Rattle.exec_terms.specs.Leases.{test_lease, released, ended_at, end_lease, ended, one_copied, one_failed, committed, cancelled, after_copied, after_copy_failed, after_commit, after_cancel}
use Rattle.exec_terms.specs.Stops.{stopped_by, killed_by, marked, can_die, after_stop, after_kill}
use Rattle.exec_terms.specs.Valid.{IsTask, IsValid}
use Rattle.exec_terms.specs.CapLaws.{starts, NoCountRises}
use Rattle.exec_terms.proofs.Counts.{one_le}
use Rattle.exec_terms.proofs.Quiet.{IsQuiet}
use Rattle.exec_terms.proofs.QuietTasks.{quiet_released, quiet_one_copied, quiet_one_failed, quiet_committed, quiet_cancelled, quiet_stopped_by, quiet_killed_by}
use Rattle.exec_terms.proofs.Begin.{is_pending_is, is_in_progress_is, is_aborting_is}
use Rattle.exec_terms.proofs.Take.{begun}
use Rattle.exec_terms.proofs.WorkLeft.{position-None}
use Rattle.exec_terms.proofs.Calls.{worth}

-- the task keeps its partition and its lists
pub record SameLists (t u : Task) : Type 0 where
  pub part : u.part ≡ t.part
  pub before : u.before ≡ t.before
  pub after : u.after ≡ t.after

-- and it doesn't enter flight
pub record EntersNoFlight (t u : Task) : Type 0 where
  pub same : SameLists t u
  pub flies : in_flight u.phase ≡ true → in_flight t.phase ≡ true

-- of two lists of tasks, the tasks at each place
pub record AreAll (R : Task → Task → Type 0) (xs ys : List Task) : Type 0 where
  pub long : length ys ≡ length xs
  pub each : (j : ℕ) → R (task_at xs j) (task_at ys j)

pub same_itself : (t : Task) → SameLists t t
same_itself t = record { part = refl; before = refl; after = refl }

pub calm_itself : (t : Task) → EntersNoFlight t t
calm_itself t = record { same = same_itself t; flies = λ h. h }

pub calm_quiet : (t u : Task) → IsQuiet t u → EntersNoFlight t u
calm_quiet t u q = record { same = record { part = q.part; before = q.before; after = q.after }; flies = q.flies }

pub all_itself : (R : Task → Task → Type 0) → ((t : Task) → R t t) → (xs : List Task) → AreAll R xs xs
all_itself R same xs = record { long = refl; each = λ j. same (task_at xs j) }

pub all_set : (R : Task → Task → Type 0) → ((t : Task) → R t t) → (xs : List Task) (i : ℕ) (u : Task) → i < length xs → R (task_at xs i) u → AreAll R xs (set xs i u)
all_set R same xs i u l h = record {
  long = length-set xs i u;
  each = λ j. elim (cases_eq j i) as (λ _. R (task_at xs j) (task_at (set xs i u) j)) [
    | inl e ↦ rw (e, get_or-set_same xs i u no_task l) h
    | inr ne ↦ rw (get_or-set_other xs i j u no_task ne) (same (task_at xs j))
  ];
}

pub all_map : (R : Task → Task → Type 0) → ((t : Task) → R t t) → (f : Task → Task) → ((t : Task) → R t (f t)) → (xs : List Task) → AreAll R xs (map f xs)
all_map R same f h xs = record {
  long = length-map xs f;
  each = λ j. elim (cases_lt j (length xs)) as (λ _. R (task_at xs j) (task_at (map f xs) j)) [
    | inl l ↦ rw (get_or-map f xs j no_task no_task l) (h (task_at xs j))
    | inr g ↦ rw (get_or_past xs j no_task g, get_or_past (map f xs) j no_task (rw (length-map xs f) g)) (same no_task)
  ];
}

count_by-at : {X : Type 0} (p : X → Bool) (xs ys : List X) (d : X) → length ys ≡ length xs → ((j : ℕ) → p (get_or ys j d) ≡ true → p (get_or xs j d) ≡ true) → count_by p ys ≤ count_by p xs
count_by-at p [] [] d e h = omega arith
count_by-at p [] (y ∷ ys) d e h = absurd (omega (arith, e))
count_by-at p (x ∷ xs) [] d e h = absurd (omega (arith, e))
count_by-at p (x ∷ xs) (y ∷ ys) d e h =
    omega (
      arith,
      sum_by-cons (λ z. cond (p z) 1 0) x xs,
      sum_by-cons (λ z. cond (p z) 1 0) y ys,
      one_le (p y) (p x) (h zero),
      count_by-at p xs ys d (omega (arith, e)) (λ j. h (suc j)),
    )

flies_and : (q : Task → Bool) (t u : Task) → EntersNoFlight t u → q u ≡ q t → (in_flight u.phase && q u) ≡ true → (in_flight t.phase && q t) ≡ true
flies_and q t u c e h = let p = and_parts (in_flight u.phase) (q u) h in and_from (in_flight t.phase) (q t) (c.flies p.0) (sym e ∙ p.1)

module _ (s u : State) (calm : AreAll EntersNoFlight s.tasks u.tasks) where
  -- no number rises
  pub none_rises : NoCountRises s u
  none_rises = record {
    adding = λ b. fewer (λ t. adds t b) (λ t v m. rw (m.before, m.after) refl);
    removing = λ b. fewer (λ t. removes t b) (λ t v m. rw (m.before, m.after) refl);
    replica = fewer is_replica_task (λ t v m. rw (m.before, m.after) refl);
    leader = fewer (λ t. not (is_replica_task t)) (λ t v m. rw (m.before, m.after) refl);
  } where
    fewer : (q : Task → Bool) → ((t v : Task) → SameLists t v → q v ≡ q t) → count_by (λ t. in_flight t.phase && q t) u.tasks ≤ count_by (λ t. in_flight t.phase && q t) s.tasks
    fewer q same = count_by-at (λ t. in_flight t.phase && q t) s.tasks u.tasks no_task calm.long (λ j. flies_and q (task_at s.tasks j) (task_at u.tasks j) (calm.each j) (same (task_at s.tasks j) (task_at u.tasks j) (calm.each j).same))

  -- and no task starts
  pub none_starts : (i : ℕ) → starts s u i ≡ false
  none_starts i = false_from_ne_true (starts s u i) (λ h.
      let p = and_parts (is_pending (task_at s.tasks i).phase) (is_in_progress (task_at u.tasks i).phase) h in
      waits_or_flies (task_at s.tasks i).phase p.0 ((calm.each i).flies (or_left (is_in_progress (task_at u.tasks i).phase) (is_aborting (task_at u.tasks i).phase) p.1))) where
        waits_or_flies : (p : Phase) → is_pending p ≡ true → in_flight p ≡ true → ⊥
        waits_or_flies p w f = false≢true (rw (is_pending_is p w) at f)

-- a partition without a task gets none
pub none_on : (xs ys : List Task) (p : ℕ) → AreAll SameLists xs ys → position (is_on p) xs ≡ None → position (is_on p) ys ≡ None
none_on xs ys p same none = by (position (is_on p) ys) refl where
  by : (o : Option ℕ) → position (is_on p) ys ≡ o → o ≡ None
  by None e = refl
  by (Some j) e =
      let f = position-Some (is_on p) ys j no_task e in
      let l : j < length xs = rw same.long at f.0 in
      absurd (true≢false (sym (rw (same.each j).part at f.1) ∙ position-None (is_on p) xs j no_task none l))

pub same_calm : (xs ys : List Task) → AreAll EntersNoFlight xs ys → AreAll SameLists xs ys
same_calm xs ys calm = record { long = calm.long; each = λ j. (calm.each j).same }

-- the end of a lease
pub calm_end_lease : (s : State) (lease : ℕ) → AreAll EntersNoFlight s.tasks (end_lease s lease).tasks
unfolding end_lease
calm_end_lease s lease = by (position (holds lease) s.tasks) refl where
  by : (o : Option ℕ) → position (holds lease) s.tasks ≡ o → AreAll EntersNoFlight s.tasks (ended_at s o).tasks
  by None e = all_itself EntersNoFlight calm_itself s.tasks
  by (Some i) e = all_set EntersNoFlight calm_itself s.tasks i (released (task_at s.tasks i)) (position-Some (holds lease) s.tasks i no_task e).0
      (calm_quiet (task_at s.tasks i) (released (task_at s.tasks i)) (quiet_released (task_at s.tasks i)))

-- an event with a lease, by what it does to the task that holds the lease
pub calm_ended : (f : Task → Task) (kind : WorkKind) (s : State) (lease : ℕ)
    → ((t : Task) (l : Lease) → t.lease ≡ Some l → IsTask s.base s.hosts s.stopped s.leases t → IsQuiet t (f t))
    → IsValid s → AreAll EntersNoFlight s.tasks (ended f s lease (test_lease s lease kind)).tasks
calm_ended f kind s lease ok v = by (test_lease s lease kind) refl where
  by : (r : Result ℕ LeaseFault) → test_lease s lease kind ≡ r → AreAll EntersNoFlight s.tasks (ended f s lease r).tasks
  by (Ok i) e =
      let w = worth s lease kind i (sym e) in
      all_set EntersNoFlight calm_itself s.tasks i (f (task_at s.tasks i)) w.known
      (calm_quiet (task_at s.tasks i) (f (task_at s.tasks i)) (ok (task_at s.tasks i) w.held w.holds (v.each i no_task w.known)))
  by (Err AbortAsked) e = calm_end_lease s lease
  by (Err (Stale n)) e = all_itself EntersNoFlight calm_itself s.tasks

pub calm_copied : (s : State) (lease : ℕ) → IsValid s → AreAll EntersNoFlight s.tasks (after_copied s lease).tasks
calm_copied s lease v = calm_ended one_copied ForCopy s lease (λ t l e h. quiet_one_copied t) v

pub calm_copy_failed : (s : State) (lease : ℕ) → IsValid s → AreAll EntersNoFlight s.tasks (after_copy_failed s lease).tasks
calm_copy_failed s lease v = calm_ended one_failed ForCopy s lease (λ t l e h. quiet_one_failed t (h.lease l e).flies) v

pub calm_commit : (s : State) (lease : ℕ) → IsValid s → AreAll EntersNoFlight s.tasks (after_commit s lease).tasks
calm_commit s lease v = calm_ended committed ForCommit s lease (λ t l e h. quiet_committed t) v

pub calm_cancel : (s : State) (lease : ℕ) → IsValid s → AreAll EntersNoFlight s.tasks (after_cancel s lease).tasks
calm_cancel s lease v = calm_ended cancelled ForCancel s lease (λ t l e h. quiet_cancelled t) v

pub stop_calm : (s : State) (force : Bool) → AreAll EntersNoFlight s.tasks (after_stop s force).tasks
stop_calm s force = by (any_unfinished s.tasks) where
  by : (c : Bool) → AreAll EntersNoFlight s.tasks (cond c (record s { tasks = map (stopped_by force) s.tasks; stopped = true }) s).tasks
  by true = all_map EntersNoFlight calm_itself (stopped_by force) (λ t. calm_quiet t (stopped_by force t) (quiet_stopped_by force t)) s.tasks
  by false = all_itself EntersNoFlight calm_itself s.tasks

pub kill_calm : (s : State) (b : ℕ) → AreAll EntersNoFlight s.tasks (after_kill s b).tasks
kill_calm s b = by (can_die s b) where
  by : (c : Bool) → AreAll EntersNoFlight s.tasks (cond c (record s { tasks = map (killed_by b) s.tasks; hosts = map (marked b) s.hosts }) s).tasks
  by true = all_map EntersNoFlight calm_itself (killed_by b) (λ t. calm_quiet t (killed_by b t) (quiet_killed_by b t)) s.tasks
  by false = all_itself EntersNoFlight calm_itself s.tasks

-- a take that starts the task at place i
pub record IsStart (s u : State) (i : ℕ) : Type 0 where
  pub known : i < length s.tasks
  pub pending : is_pending (task_at s.tasks i).phase ≡ true
  pub room : cond (is_replica_task (task_at s.tasks i)) (has_room s.caps s.tasks (task_at s.tasks i)) (has_leader_room s.caps s.tasks) ≡ true
  pub tasks_are : u.tasks ≡ set s.tasks i (begun (task_at s.tasks i) (next_step (task_at s.tasks i)) (s.leases + 1))

-- a take starts a task, or lets none into flight
pub take_is : (s : State) → (AreAll EntersNoFlight s.tasks (after_take s).tasks) ⊎ ((i : ℕ) × IsStart s (after_take s) i)
unfolding next_work begun
take_is s = by_cancel (position (λ t. is_aborting t.phase && is_free t.lease) s.tasks) refl where
  goes : (i : ℕ) (w : Work) (b : Bool) → i < length s.tasks → in_flight (task_at s.tasks i).phase ≡ true → AreAll EntersNoFlight s.tasks (taken s (Ok (given s i w b))).tasks
  goes i w b l f = all_set EntersNoFlight calm_itself s.tasks i (with_lease (s.leases + 1) w (task_at s.tasks i)) l (record { same = record { part = refl; before = refl; after = refl }; flies = λ _. f })

  by_start : (o : Option ℕ) → position (may_start s.caps s.tasks) s.tasks ≡ o
      → (AreAll EntersNoFlight s.tasks (taken s (or_start s o)).tasks) ⊎ ((i : ℕ) × IsStart s (taken s (or_start s o)) i)
  by_start None e = inl (all_itself EntersNoFlight calm_itself s.tasks)
  by_start (Some i) e =
      let p = position-Some (may_start s.caps s.tasks) s.tasks i no_task e in
      let two = and_parts (is_pending (task_at s.tasks i).phase) (cond (is_replica_task (task_at s.tasks i)) (has_room s.caps s.tasks (task_at s.tasks i)) (has_leader_room s.caps s.tasks)) p.1 in
      inr (i, record { known = p.0; pending = two.0; room = two.1; tasks_are = rw (is_pending_is (task_at s.tasks i).phase two.0) refl })

  by_step : (o : Option ℕ) → position (λ t. is_in_progress t.phase && is_free t.lease) s.tasks ≡ o
      → (AreAll EntersNoFlight s.tasks (taken s (or_step s o)).tasks) ⊎ ((i : ℕ) × IsStart s (taken s (or_step s o)) i)
  by_step None e = by_start (position (may_start s.caps s.tasks) s.tasks) refl
  by_step (Some i) e =
      let p = position-Some (λ t. is_in_progress t.phase && is_free t.lease) s.tasks i no_task e in
      inl (goes i (next_step (task_at s.tasks i)) false p.0 (rw (is_in_progress_is (task_at s.tasks i).phase (and_parts _ _ p.1).0) refl))

  by_cancel : (o : Option ℕ) → position (λ t. is_aborting t.phase && is_free t.lease) s.tasks ≡ o
      → (AreAll EntersNoFlight s.tasks (taken s (or_cancel s o)).tasks) ⊎ ((i : ℕ) × IsStart s (taken s (or_cancel s o)) i)
  by_cancel None e = by_step (position (λ t. is_in_progress t.phase && is_free t.lease) s.tasks) refl
  by_cancel (Some i) e =
      let p = position-Some (λ t. is_aborting t.phase && is_free t.lease) s.tasks i no_task e in
      inl (goes i Cancel false p.0 (rw (is_aborting_is (task_at s.tasks i).phase (and_parts _ _ p.1).0) refl))

-- a task that starts keeps its partition and its lists
pub same_start : (s u : State) (i : ℕ) → IsStart s u i → AreAll SameLists s.tasks u.tasks
unfolding begun
same_start s u i st = rw st.tasks_are (all_set SameLists same_itself s.tasks i (begun (task_at s.tasks i) (next_step (task_at s.tasks i)) (s.leases + 1)) st.known (record { part = refl; before = refl; after = refl }))
