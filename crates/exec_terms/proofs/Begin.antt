-- The task that a take gives a lease stays a good one.
use Rattle.std.proofs.Common.{◌≡◌, ℕ, ◌+◌, Bool, true, false, List, arith, refl, subst}
use Rattle.std.specs.Prelude.{Option, Some, None}
use Rattle.std.proofs.lemmas.Bool.{false≢true, eqb-true, false_from_ne_true}
use Rattle.std.proofs.lemmas.Option.{same_Some}
use Rattle.exec_terms.specs.declared.phase.Phase.{Phase}
use Rattle.exec_terms.specs.declared.phase.Phase.TheVariants.{Pending, InProgress, Aborting, Aborted, Completed, Dead}
use Rattle.exec_terms.specs.declared.work.WorkKind.TheVariants.{Copy as ForCopy}
use Rattle.exec_terms.specs.declared.work.Work.{Work}
use Rattle.exec_terms.specs.declared.work.Lease.{Lease}
use Rattle.exec_terms.specs.declared.task.Task.{Task}
use Rattle.exec_terms.specs.declared.brokers.Host.{Host}
use Rattle.exec_terms.specs.Words.{is_pending, is_in_progress, is_aborting, in_flight, is_free, copies, next_step, is_for, holds, has_number}
use Rattle.exec_terms.specs.Machine.{started}
use Rattle.exec_terms.specs.Valid.{IsLease, IsTask}

-- a free task holds no lease
pub free_none : (o : Option Lease) → is_free o ≡ true → o ≡ None
free_none None h = refl
free_none (Some l) h = absurd (false≢true h)

pub is_aborting_is : (p : Phase) → is_aborting p ≡ true → p ≡ Aborting
is_aborting_is Pending h = absurd (false≢true h)
is_aborting_is InProgress h = absurd (false≢true h)
is_aborting_is Aborting h = refl
is_aborting_is Aborted h = absurd (false≢true h)
is_aborting_is Completed h = absurd (false≢true h)
is_aborting_is Dead h = absurd (false≢true h)

pub is_in_progress_is : (p : Phase) → is_in_progress p ≡ true → p ≡ InProgress
is_in_progress_is Pending h = absurd (false≢true h)
is_in_progress_is InProgress h = refl
is_in_progress_is Aborting h = absurd (false≢true h)
is_in_progress_is Aborted h = absurd (false≢true h)
is_in_progress_is Completed h = absurd (false≢true h)
is_in_progress_is Dead h = absurd (false≢true h)

pub is_pending_is : (p : Phase) → is_pending p ≡ true → p ≡ Pending
is_pending_is Pending h = refl
is_pending_is InProgress h = absurd (false≢true h)
is_pending_is Aborting h = absurd (false≢true h)
is_pending_is Aborted h = absurd (false≢true h)
is_pending_is Completed h = absurd (false≢true h)
is_pending_is Dead h = absurd (false≢true h)

module _ (base : List (List ℕ)) (hosts : List Host) (stopped : Bool) (leases : ℕ) where
  -- more leases were given
  pub IsTask-more : (t : Task) → IsTask base hosts stopped leases t → IsTask base hosts stopped (leases + 1) t
  unfolding copies next_step
  IsTask-more t h = record {
    known = h.known;
    few_chunks = h.few_chunks;
    before = h.before;
    before_is = h.before_is;
    after_is = h.after_is;
    done = h.done;
    lease = λ l e. let i = h.lease l e in record { given = omega (arith, i.given); flies = i.flies; next = i.next; copy = i.copy };
    pending = h.pending;
    faults = h.faults;
    doomed = h.doomed;
    alive = h.alive;
    none_waits = h.none_waits;
    completed = h.completed;
  }

  IsLease-same : (t : Task) (a l : Lease) → a ≡ l → IsLease leases t a → IsLease leases t l
  IsLease-same t a l e h = let P : Lease → Type 0 = λ x. IsLease leases t x in subst P e h

  -- no task holds a lease that was not given yet
  pub not_given : (t : Task) → IsTask base hosts stopped leases t → holds (leases + 1) t ≡ false
  not_given t h = false_from_ne_true (holds (leases + 1) t) (by t.lease refl) where
    by : (o : Option Lease) → t.lease ≡ o → has_number (leases + 1) o ≡ true → ⊥
    by None e q = false≢true q
    by (Some l) e q = let n : l.number ≡ leases + 1 = eqb-true l.number (leases + 1) q in absurd (omega (arith, n, (h.lease l e).given))

-- an aborting task or one in progress gets its lease
pub with_lease-flying : (base : List (List ℕ)) (hosts : List Host) (stopped : Bool) (leases : ℕ) (t : Task) (p : Phase) (w : Work)
    → t.phase ≡ p → in_flight p ≡ true → (p ≡ InProgress → w ≡ next_step t) → (is_for ForCopy w ≡ true → w ≡ next_step t)
    → IsTask base hosts stopped leases t
    → IsTask base hosts stopped (leases + 1) (record t { phase = started p; lease = Some (record { number = leases + 1; work = w }) })
unfolding copies next_step
with_lease-flying base hosts stopped leases t Pending w e f n m h = absurd (false≢true f)
with_lease-flying base hosts stopped leases t InProgress w e f n m h = record {
  known = h.known;
  few_chunks = h.few_chunks;
  before = h.before;
  before_is = h.before_is;
  after_is = h.after_is;
  done = h.done;
  lease = λ l q. IsLease-same base hosts stopped (leases + 1) _ (record { number = leases + 1; work = w }) l (same_Some _ _ q) (record { given = omega arith; flies = refl; next = λ _. n refl; copy = m });
  pending = λ q. cc;
  faults = λ q. h.faults e;
  doomed = λ d. rw e at (h.doomed d);
  alive = λ g. h.alive (rw e refl);
  none_waits = λ s q. cc;
  completed = λ q. cc;
}
with_lease-flying base hosts stopped leases t Aborting w e f n m h = record {
  known = h.known;
  few_chunks = h.few_chunks;
  before = h.before;
  before_is = h.before_is;
  after_is = h.after_is;
  done = h.done;
  lease = λ l q. IsLease-same base hosts stopped (leases + 1) _ (record { number = leases + 1; work = w }) l (same_Some _ _ q) (record { given = omega arith; flies = refl; next = λ q. cc; copy = m });
  pending = λ q. cc;
  faults = λ q. cc;
  doomed = λ d. refl;
  alive = λ g. absurd (false≢true g);
  none_waits = λ s q. cc;
  completed = λ q. cc;
}
with_lease-flying base hosts stopped leases t Aborted w e f n m h = absurd (false≢true f)
with_lease-flying base hosts stopped leases t Completed w e f n m h = absurd (false≢true f)
with_lease-flying base hosts stopped leases t Dead w e f n m h = absurd (false≢true f)

-- a pending task begins
pub with_lease-start : (base : List (List ℕ)) (hosts : List Host) (stopped : Bool) (leases : ℕ) (t : Task)
    → t.phase ≡ Pending → IsTask base hosts stopped leases t
    → IsTask base hosts stopped (leases + 1) (record t { phase = InProgress; lease = Some (record { number = leases + 1; work = next_step t }) })
unfolding copies next_step
with_lease-start base hosts stopped leases t e h = record {
  known = h.known;
  few_chunks = h.few_chunks;
  before = h.before;
  before_is = h.before_is;
  after_is = h.after_is;
  done = h.done;
  lease = λ l q. IsLease-same base hosts stopped (leases + 1) _ (record { number = leases + 1; work = next_step t }) l (same_Some _ _ q) (record { given = omega arith; flies = refl; next = λ _. refl; copy = λ _. refl });
  pending = λ q. cc;
  faults = λ q. omega (arith, (h.pending e).faults);
  doomed = λ d. absurd (false≢true (rw e at (h.doomed d)));
  alive = λ g. h.alive (rw e refl);
  none_waits = λ s q. absurd (h.none_waits s e);
  completed = λ q. cc;
}
