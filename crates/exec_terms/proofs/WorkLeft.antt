-- The work that is left: what lowers it, that nothing raises it, and that take gives work where no lease is out.
use Rattle.std.proofs.Common.{◌≡◌, ℕ, ◌+◌, ◌<◌, ◌≤◌, Bool, true, false, not, ◌&&◌, ◌||◌, cond, List, [], ◌∷◌, map, set, length, get_or, arith, refl, sym, ap, ◌∙◌, zero, suc, inl, inr}
use Rattle.std.specs.Prelude.{◌==◌, nat_lt, Option, Some, None, Result, Ok, Err}
use Rattle.std.specs.List.{All, count_by, sum_by, position, position_or_len}
use Rattle.std.proofs.lemmas.Bool.{cases_lt, and_parts, false≢true, true≢false, lt-ltb, cond-true, false_from_ne_true}
use Rattle.std.proofs.lemmas.Option.{none-some}
use Rattle.std.proofs.lemmas.List.Sums.{sum_by-cons, sum_by-set, fails_before_first, get_or-le-sum_by}
use Rattle.std.proofs.lemmas.List.Folds.{list_any_none}
use Rattle.std.proofs.lemmas.List.Quantifiers.{position-Some}
use Rattle.exec_terms.specs.declared.phase.Phase.{Phase}
use Rattle.exec_terms.specs.declared.phase.Phase.TheVariants.{Pending, InProgress, Aborting, Aborted, Completed, Dead}
use Rattle.exec_terms.specs.declared.work.WorkKind.{WorkKind}
use Rattle.exec_terms.specs.declared.work.WorkKind.TheVariants.{Copy as ForCopy, Commit as ForCommit, Cancel as ForCancel}
use Rattle.exec_terms.specs.declared.work.Work.{Work}
use Rattle.exec_terms.specs.declared.work.Work.TheVariants.{Copy, Commit, Cancel}
use Rattle.exec_terms.specs.declared.work.Lease.{Lease}
use Rattle.exec_terms.specs.declared.replies.LeaseFault.{LeaseFault}
use Rattle.exec_terms.specs.declared.replies.LeaseFault.TheVariants.{Stale, AbortAsked}
use Rattle.exec_terms.specs.declared.task.Task.{Task}
use Rattle.exec_terms.specs.Words.{is_aborting, in_flight, is_unfinished, needs, copies, copies_left, is_for, is_cancel, holds, holds_for, has_number, has_number_for}
use Rattle.exec_terms.specs.Machine.{State, no_task, task_at}
use Rattle.exec_terms.specs.Leases.{tested, test_lease, released, ended_at, end_lease, ended, one_copied, one_failed, committed, cancelled}
use Rattle.exec_terms.specs.Stops.{phase_stopped, killed_by, phase_killed}
use Rattle.exec_terms.specs.Valid.{IsTask, IsValid, work_for, work_of_lease, work_in, work_of_task, work_left}
use Rattle.exec_terms.specs.Runs.{IsAnswered, EventsLower, NoneLeftIsDone}
use Rattle.exec_terms.proofs.Counts.{count_by_some}
use Rattle.exec_terms.proofs.Events.{next_step-copy, holder, in_progress}

-- a sum with one element changed
sum_by-less : {X : Type 0} (f : X → ℕ) (xs : List X) (i : ℕ) (y d : X) → i < length xs → f y < f (get_or xs i d) → sum_by f (set xs i y) < sum_by f xs
sum_by-less f xs i y d l h = omega (arith, sum_by-set f xs i y d l, h)

pub sum_by-map_le : {X : Type 0} (f : X → ℕ) (g : X → X) (xs : List X) → All (λ x. f (g x) ≤ f x) xs → sum_by f (map g xs) ≤ sum_by f xs
sum_by-map_le f g [] h = omega arith
sum_by-map_le f g (x ∷ xs) h =
    omega (arith, sum_by-cons f (g x) (map g xs), sum_by-cons f x xs, h 0 x (omega arith), sum_by-map_le f g xs (λ k d l. h (suc k) d (omega arith)))

-- where no element passes there is no first
pub position-None : {X : Type 0} (p : X → Bool) (xs : List X) (i : ℕ) (d : X) → position p xs ≡ None → i < length xs → p (get_or xs i d) ≡ false
position-None p xs i d e l = elim (cases_lt (position_or_len p xs) (length xs)) [
  | inl m ↦ absurd (let is : position p xs ≡ Some (position_or_len p xs) = rw (lt-ltb (position_or_len p xs) (length xs) m) refl in none-some (position_or_len p xs) (sym e ∙ is))
  | inr g ↦ fails_before_first p xs i d (omega arith)
]

-- two places that pass are one where at most one passes
pub same_place : {X : Type 0} (p : X → Bool) (xs : List X) (i j : ℕ) (d : X) → i < length xs → j < length xs
    → p (get_or xs i d) ≡ true → p (get_or xs j d) ≡ true → count_by p xs ≤ 1 → i ≡ j
same_place p [] i j d l m h k one = absurd (omega arith)
same_place p (x ∷ xs) zero zero d l m h k one = refl
same_place p (x ∷ xs) zero (suc j) d l m h k one =
    absurd (omega (arith, sum_by-cons (λ y. cond (p y) 1 0) x xs, cond-true {A = ℕ} (p x) 1 0 h, count_by_some p xs j d (omega arith) k))
same_place p (x ∷ xs) (suc i) zero d l m h k one =
    absurd (omega (arith, sum_by-cons (λ y. cond (p y) 1 0) x xs, cond-true {A = ℕ} (p x) 1 0 k, count_by_some p xs i d (omega arith) h))
same_place p (x ∷ xs) (suc i) (suc j) d l m h k one =
    ap suc (same_place p xs i j d (omega arith) (omega arith) h k (omega (arith, sum_by-cons (λ y. cond (p y) 1 0) x xs)))

pub holds_too : (n : ℕ) (kind : WorkKind) (o : Option Lease) → has_number_for n kind o ≡ true → has_number n o ≡ true
holds_too n kind None h = h
holds_too n kind (Some l) h = (and_parts (l.number == n) (is_for kind l.work) h).0

pub work_of_some : (o : Option Lease) → 1 ≤ work_of_lease o
work_of_some None = omega arith
work_of_some (Some l) = by l.work where
  by : (w : Work) → 1 ≤ work_for w
  by (Copy to chunk) = omega arith
  by Commit = omega arith
  by Cancel = omega arith

-- an unfinished task has work left
unfinished_some : (t : Task) (p : Phase) → is_unfinished p ≡ true → 1 ≤ work_in p t
unfinished_some t Pending h = omega arith
unfinished_some t InProgress h = omega arith
unfinished_some t Aborting h = work_of_some t.lease
unfinished_some t Aborted h = absurd (false≢true h)
unfinished_some t Completed h = absurd (false≢true h)
unfinished_some t Dead h = absurd (false≢true h)

flies_unfinished : (p : Phase) → in_flight p ≡ true → is_unfinished p ≡ true
flies_unfinished Pending h = refl
flies_unfinished InProgress h = refl
flies_unfinished Aborting h = refl
flies_unfinished Aborted h = h
flies_unfinished Completed h = h
flies_unfinished Dead h = h

two_for : (kind : WorkKind) (w : Work) → not (is_cancel kind) ≡ true → is_for kind w ≡ true → 2 ≤ work_for w
two_for ForCopy (Copy to chunk) n h = omega arith
two_for ForCopy Commit n h = absurd (false≢true h)
two_for ForCopy Cancel n h = absurd (false≢true h)
two_for ForCommit (Copy to chunk) n h = absurd (false≢true h)
two_for ForCommit Commit n h = omega arith
two_for ForCommit Cancel n h = absurd (false≢true h)
two_for ForCancel w n h = absurd (false≢true n)

pub aborting_is : (p : Phase) → is_aborting p ≡ true → p ≡ Aborting
aborting_is Pending h = absurd (false≢true h)
aborting_is InProgress h = absurd (false≢true h)
aborting_is Aborting h = refl
aborting_is Aborted h = absurd (false≢true h)
aborting_is Completed h = absurd (false≢true h)
aborting_is Dead h = absurd (false≢true h)

-- the lease of an aborting task for a copy or a commit ends
end_lease-lowers : (s : State) (lease i : ℕ) (l : Lease) → IsValid s → i < length s.tasks → holds lease (task_at s.tasks i) ≡ true
    → (task_at s.tasks i).phase ≡ Aborting → (task_at s.tasks i).lease ≡ Some l → 2 ≤ work_for l.work
    → work_left (end_lease s lease) < work_left s
unfolding end_lease
end_lease-lowers s lease i l v m h p e two = by (position (holds lease) s.tasks) refl where
  by : (o : Option ℕ) → position (holds lease) s.tasks ≡ o → work_left (ended_at s o) < work_left s
  by None q = absurd (true≢false (sym h ∙ position-None (holds lease) s.tasks i no_task q m))
  by (Some j) q =
      let f = position-Some (holds lease) s.tasks j no_task q in
      let same : j ≡ i = same_place (holds lease) s.tasks j i no_task f.0 m f.1 h (v.one_holder lease) in
      rw same (sum_by-less work_of_task s.tasks i (released (task_at s.tasks i)) no_task m (rw (p, e) two))

-- an event with a lease that is answered
pub ended_lowers : (f : Task → Task) (kind : WorkKind) (s : State) (lease : ℕ)
    → ((t : Task) (l : Lease) → t.lease ≡ Some l → is_for kind l.work ≡ true → (is_aborting t.phase && not (is_cancel kind)) ≡ false
    → IsTask s.base s.hosts s.stopped s.leases t → work_of_task (f t) < work_of_task t)
    → IsValid s → IsAnswered (test_lease s lease kind) → work_left (ended f s lease (test_lease s lease kind)) < work_left s
unfolding test_lease
ended_lowers f kind s lease ok v answered = by (position (holds_for lease kind) s.tasks) refl answered where
  by : (o : Option ℕ) → position (holds_for lease kind) s.tasks ≡ o → IsAnswered (tested s kind o) → work_left (ended f s lease (tested s kind o)) < work_left s
  by None e a = absurd a
  by (Some i) e a = on (is_aborting (task_at s.tasks i).phase && not (is_cancel kind)) refl where
    p : (i < length s.tasks) × (holds_for lease kind (task_at s.tasks i) ≡ true) × ((k : ℕ) → k < i → holds_for lease kind (task_at s.tasks k) ≡ false)
    p = position-Some (holds_for lease kind) s.tasks i no_task e

    h : (l : Lease) × ((task_at s.tasks i).lease ≡ Some l) × (is_for kind l.work ≡ true)
    h = holder lease kind (task_at s.tasks i).lease p.1

    on : (c : Bool) → (is_aborting (task_at s.tasks i).phase && not (is_cancel kind)) ≡ c → work_left (ended f s lease (cond c (Err AbortAsked) (Ok i))) < work_left s
    on true q =
        let two = and_parts (is_aborting (task_at s.tasks i).phase) (not (is_cancel kind)) q in
        end_lease-lowers s lease i h.0 v p.0 (holds_too lease kind (task_at s.tasks i).lease p.1) (aborting_is (task_at s.tasks i).phase two.0) h.1 (two_for kind h.0.work two.1 h.2)
    on false q = sum_by-less work_of_task s.tasks i (f (task_at s.tasks i)) no_task p.0 (ok (task_at s.tasks i) h.0 h.1 h.2 q (v.each i no_task p.0))

pub copied_lowers : (t : Task) → t.phase ≡ InProgress → t.done < length (copies t) → work_of_task (one_copied t) < work_of_task t
unfolding copies copies_left
copied_lowers t p l = rw p (omega arith)

pub failed_lowers : (t : Task) → t.phase ≡ InProgress → t.faults < 3 → work_of_task (one_failed t) < work_of_task t
unfolding copies copies_left
failed_lowers t p l = by (nat_lt (t.faults + 1) 3) where
  by : (c : Bool) → work_of_task (cond c (record t { faults = t.faults + 1; lease = None }) (record t { faults = t.faults + 1; phase = Aborting; doomed = true; lease = None })) < work_of_task t
  by true = rw p (omega arith)
  by false = rw p (omega arith)

pub cancelled_lowers : (t : Task) → in_flight t.phase ≡ true → work_of_task (cancelled t) < work_of_task t
cancelled_lowers t f = by t.doomed where
  by : (d : Bool) → work_in (cond d Dead Aborted) (record t { phase = cond d Dead Aborted; lease = None }) < work_of_task t
  by true = omega (arith, unfinished_some t t.phase (flies_unfinished t.phase f))
  by false = omega (arith, unfinished_some t t.phase (flies_unfinished t.phase f))

pub events_lower : EventsLower
events_lower s lease v = (
  λ a. (
    ended_lowers one_copied ForCopy s lease (λ t l e k q h.
        let i = h.lease l e in
        let p : t.phase ≡ InProgress = in_progress t.phase i.flies q in
        copied_lowers t p (next_step-copy t (rw (i.next p) at k))) v a,
    ended_lowers one_failed ForCopy s lease (λ t l e k q h.
        let p : t.phase ≡ InProgress = in_progress t.phase (h.lease l e).flies q in
        failed_lowers t p (h.faults p)) v a,
  ),
  λ a. ended_lowers committed ForCommit s lease (λ t l e k q h.
      omega (arith, unfinished_some t t.phase (flies_unfinished t.phase (h.lease l e).flies))) v a,
  λ a. ended_lowers cancelled ForCancel s lease (λ t l e k q h. cancelled_lowers t (h.lease l e).flies) v a,
)

pub none_left_is_done : NoneLeftIsDone
none_left_is_done s e = list_any_none (λ t. is_unfinished t.phase) s.tasks (λ k d l.
    false_from_ne_true (is_unfinished (get_or s.tasks k d).phase) (λ h.
    absurd (omega (arith, e, get_or-le-sum_by work_of_task s.tasks k d l, unfinished_some (get_or s.tasks k d) (get_or s.tasks k d).phase h))))

-- no event but a launch raises the work
pub sum_by-at_most : {X : Type 0} (f : X → ℕ) (xs : List X) (i : ℕ) (y d : X) → i < length xs → f y ≤ f (get_or xs i d) → sum_by f (set xs i y) ≤ sum_by f xs
sum_by-at_most f xs i y d l h = omega (arith, sum_by-set f xs i y d l, h)

pub answered_or_same : (f : Task → Task) (s : State) (lease : ℕ) (r : Result ℕ LeaseFault)
    → (IsAnswered r → work_left (ended f s lease r) < work_left s) → work_left (ended f s lease r) ≤ work_left s
answered_or_same f s lease (Ok i) h = omega (arith, h tt)
answered_or_same f s lease (Err AbortAsked) h = omega (arith, h tt)
answered_or_same f s lease (Err (Stale n)) h = omega arith

released_work : (t : Task) (p : Phase) → work_in p (released t) ≤ work_in p t
unfolding copies copies_left
released_work t Pending = omega arith
released_work t InProgress = omega arith
released_work t Aborting = work_of_some t.lease
released_work t Aborted = omega arith
released_work t Completed = omega arith
released_work t Dead = omega arith

pub end_lease_at_most : (s : State) (lease : ℕ) → work_left (end_lease s lease) ≤ work_left s
unfolding end_lease
end_lease_at_most s lease = by (position (holds lease) s.tasks) refl where
  by : (o : Option ℕ) → position (holds lease) s.tasks ≡ o → work_left (ended_at s o) ≤ work_left s
  by None q = omega arith
  by (Some j) q = sum_by-at_most work_of_task s.tasks j (released (task_at s.tasks j)) no_task (position-Some (holds lease) s.tasks j no_task q).0 (released_work (task_at s.tasks j) (task_at s.tasks j).phase)

pub two_most : (o : Option Lease) → work_of_lease o ≤ 2
two_most None = omega arith
two_most (Some l) = by l.work where
  by : (w : Work) → work_for w ≤ 2
  by (Copy to chunk) = omega arith
  by Commit = omega arith
  by Cancel = omega arith

pub stopped_work : (force : Bool) (t : Task) (p : Phase) → work_in (phase_stopped force p) (record t { phase = phase_stopped force p }) ≤ work_in p t
unfolding copies copies_left
stopped_work force t Pending = omega arith
stopped_work true t InProgress = omega (arith, two_most t.lease)
stopped_work false t InProgress = omega arith
stopped_work force t Aborting = omega arith
stopped_work force t Aborted = omega arith
stopped_work force t Completed = omega arith
stopped_work force t Dead = omega arith

killed_work : (d : Bool) (t : Task) (p : Phase) → work_in (phase_killed p) (record t { phase = phase_killed p; doomed = d }) ≤ work_in p t
unfolding copies copies_left
killed_work d t Pending = omega arith
killed_work d t InProgress = omega (arith, two_most t.lease)
killed_work d t Aborting = omega arith
killed_work d t Aborted = omega arith
killed_work d t Completed = omega arith
killed_work d t Dead = omega arith

pub killed_by_work : (b : ℕ) (t : Task) → work_of_task (killed_by b t) ≤ work_of_task t
killed_by_work b t = by (needs t b) where
  by : (c : Bool) → work_of_task (cond c (record t { phase = phase_killed t.phase; doomed = t.doomed || in_flight t.phase }) t) ≤ work_of_task t
  by true = killed_work (t.doomed || in_flight t.phase) t t.phase
  by false = omega arith
