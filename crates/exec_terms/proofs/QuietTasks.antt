-- What each event does to its task raises no count.
use Rattle.std.proofs.Common.{◌≡◌, ℕ, ◌+◌, Bool, true, false, ◌||◌, cond, refl}
use Rattle.std.specs.Prelude.{nat_lt, None}
use Rattle.std.proofs.lemmas.Bool.{false≢true}
use Rattle.exec_terms.specs.declared.phase.Phase.{Phase}
use Rattle.exec_terms.specs.declared.phase.Phase.TheVariants.{Pending, InProgress, Aborting, Aborted, Completed, Dead}
use Rattle.exec_terms.specs.declared.task.Task.{Task}
use Rattle.exec_terms.specs.Words.{in_flight, is_unfinished, needs}
use Rattle.exec_terms.specs.Leases.{released, one_copied, one_failed, committed, cancelled}
use Rattle.exec_terms.specs.Stops.{stopped_by, phase_stopped, killed_by, phase_killed}
use Rattle.exec_terms.proofs.Quiet.{IsQuiet}

-- the lease of a task ends
pub quiet_released : (t : Task) → IsQuiet t (released t)
quiet_released t = record { part = refl; before = refl; after = refl; flies = λ h. h; unfinished = λ h. h; holds = λ n h. absurd (false≢true h) }

pub quiet_one_copied : (t : Task) → IsQuiet t (one_copied t)
quiet_one_copied t = record { part = refl; before = refl; after = refl; flies = λ h. h; unfinished = λ h. h; holds = λ n h. absurd (false≢true h) }

pub quiet_committed : (t : Task) → IsQuiet t (committed t)
quiet_committed t = record { part = refl; before = refl; after = refl; flies = λ h. absurd (false≢true h); unfinished = λ h. absurd (false≢true h); holds = λ n h. absurd (false≢true h) }

pub quiet_cancelled : (t : Task) → IsQuiet t (cancelled t)
quiet_cancelled t = record {
  part = refl;
  before = refl;
  after = refl;
  flies = λ h. absurd (false≢true (none t.doomed h));
  unfinished = λ h. absurd (false≢true (none' t.doomed h));
  holds = λ n h. absurd (false≢true h);
} where
  none : (b : Bool) → in_flight (cond b Dead Aborted) ≡ true → false ≡ true
  none true h = h
  none false h = h

  none' : (b : Bool) → is_unfinished (cond b Dead Aborted) ≡ true → false ≡ true
  none' true h = h
  none' false h = h

-- the phases of a stop and of a death, by cases
pub quiet_phase_stopped : (force : Bool) (p : Phase) → (in_flight (phase_stopped force p) ≡ true → in_flight p ≡ true) × (is_unfinished (phase_stopped force p) ≡ true → is_unfinished p ≡ true)
quiet_phase_stopped force Pending = (λ h. absurd (false≢true h), λ h. absurd (false≢true h))
quiet_phase_stopped force InProgress = (λ h. refl, λ h. refl)
quiet_phase_stopped force Aborting = (λ h. refl, λ h. refl)
quiet_phase_stopped force Aborted = (λ h. h, λ h. h)
quiet_phase_stopped force Completed = (λ h. h, λ h. h)
quiet_phase_stopped force Dead = (λ h. h, λ h. h)

pub quiet_phase_killed : (p : Phase) → (in_flight (phase_killed p) ≡ true → in_flight p ≡ true) × (is_unfinished (phase_killed p) ≡ true → is_unfinished p ≡ true)
quiet_phase_killed Pending = (λ h. absurd (false≢true h), λ h. absurd (false≢true h))
quiet_phase_killed InProgress = (λ h. refl, λ h. refl)
quiet_phase_killed Aborting = (λ h. refl, λ h. refl)
quiet_phase_killed Aborted = (λ h. h, λ h. h)
quiet_phase_killed Completed = (λ h. h, λ h. h)
quiet_phase_killed Dead = (λ h. h, λ h. h)

pub quiet_stopped_by : (force : Bool) (t : Task) → IsQuiet t (stopped_by force t)
quiet_stopped_by force t = record {
  part = refl;
  before = refl;
  after = refl;
  flies = (quiet_phase_stopped force t.phase).0;
  unfinished = (quiet_phase_stopped force t.phase).1;
  holds = λ n h. h;
}

pub quiet_same : (t : Task) → IsQuiet t t
quiet_same t = record { part = refl; before = refl; after = refl; flies = λ h. h; unfinished = λ h. h; holds = λ n h. h }

pub quiet_killed_by : (b : ℕ) (t : Task) → IsQuiet t (killed_by b t)
quiet_killed_by b t = by (needs t b) where
  by : (c : Bool) → IsQuiet t (cond c (record t { phase = phase_killed t.phase; doomed = t.doomed || in_flight t.phase }) t)
  by true = record { part = refl; before = refl; after = refl; flies = (quiet_phase_killed t.phase).0; unfinished = (quiet_phase_killed t.phase).1; holds = λ n h. h }
  by false = quiet_same t

pub quiet_one_failed : (t : Task) → in_flight t.phase ≡ true → IsQuiet t (one_failed t)
quiet_one_failed t f = by (nat_lt (t.faults + 1) 3) where
  by : (c : Bool) → IsQuiet t (cond c (record t { faults = t.faults + 1; lease = None }) (record t { faults = t.faults + 1; phase = Aborting; doomed = true; lease = None }))
  by true = record { part = refl; before = refl; after = refl; flies = λ h. h; unfinished = λ h. h; holds = λ n h. absurd (false≢true h) }
  by false = record { part = refl; before = refl; after = refl; flies = λ _. f; unfinished = λ _. flies_unfinished t.phase f; holds = λ n h. absurd (false≢true h) } where
    flies_unfinished : (p : Phase) → in_flight p ≡ true → is_unfinished p ≡ true
    flies_unfinished Pending h = refl
    flies_unfinished InProgress h = refl
    flies_unfinished Aborting h = refl
    flies_unfinished Aborted h = h
    flies_unfinished Completed h = h
    flies_unfinished Dead h = h
