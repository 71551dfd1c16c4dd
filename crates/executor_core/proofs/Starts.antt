-- Whether the task that is given work has begun.
use Rattle.std.proofs.Common.{◌≡◌, ℕ, Bool, true, false, ◌&&◌, refl}
use Rattle.std.specs.Prelude.{Option, Some, None, Ok}
use Rattle.std.specs.List.{position}
use Rattle.std.proofs.lemmas.Bool.{and_parts, false≢true}
use Rattle.std.proofs.lemmas.List.Quantifiers.{position-Some}
use Rattle.exec_terms.specs.declared.phase.Phase.{Phase}
use Rattle.exec_terms.specs.declared.phase.Phase.TheVariants.{Pending, InProgress, Aborting, Aborted, Completed, Dead}
use Rattle.exec_terms.specs.declared.work.Work.TheVariants.{Cancel}
use Rattle.exec_terms.specs.declared.replies.Given.{Given}
use Rattle.exec_terms.specs.Words.{is_pending, is_in_progress, is_aborting, in_flight, is_free, next_step}
use Rattle.exec_terms.specs.Machine.{State, no_task, task_at, may_start, given, or_start, or_step, or_cancel, next_work, started}
use Rattle.exec_terms.proofs.Begin.{is_pending_is, is_in_progress_is, is_aborting_is}

-- the task waits where the work starts it, and is in flight where not
unfoldable pub Begins : Bool → Phase → Type 0
Begins true p = p ≡ Pending
Begins false p = in_flight p ≡ true

pub begins : (s : State) (g : Given) → next_work s ≡ Ok g → Begins g.starts (task_at s.tasks g.task).phase
unfolding next_work Begins
begins s g e = by_cancel (position (λ t. is_aborting t.phase && is_free t.lease) s.tasks) refl e where
  by_start : (o : Option ℕ) → position (may_start s.caps s.tasks) s.tasks ≡ o → or_start s o ≡ Ok g → Begins g.starts (task_at s.tasks g.task).phase
  by_start None q e = cc
  by_start (Some i) q e =
      let same : g ≡ given s i (next_step (task_at s.tasks i)) true = cc in
      let p = position-Some (may_start s.caps s.tasks) s.tasks i no_task q in
      rw same (is_pending_is (task_at s.tasks i).phase (and_parts (is_pending (task_at s.tasks i).phase) _ p.1).0)

  by_step : (o : Option ℕ) → position (λ t. is_in_progress t.phase && is_free t.lease) s.tasks ≡ o → or_step s o ≡ Ok g → Begins g.starts (task_at s.tasks g.task).phase
  by_step None q e = by_start (position (may_start s.caps s.tasks) s.tasks) refl e
  by_step (Some i) q e =
      let same : g ≡ given s i (next_step (task_at s.tasks i)) false = cc in
      let p = position-Some (λ t. is_in_progress t.phase && is_free t.lease) s.tasks i no_task q in
      let phase : (task_at s.tasks i).phase ≡ InProgress = is_in_progress_is (task_at s.tasks i).phase (and_parts (is_in_progress (task_at s.tasks i).phase) _ p.1).0 in
      rw same (rw phase refl)

  by_cancel : (o : Option ℕ) → position (λ t. is_aborting t.phase && is_free t.lease) s.tasks ≡ o → or_cancel s o ≡ Ok g → Begins g.starts (task_at s.tasks g.task).phase
  by_cancel None q e = by_step (position (λ t. is_in_progress t.phase && is_free t.lease) s.tasks) refl e
  by_cancel (Some i) q e =
      let same : g ≡ given s i Cancel false = cc in
      let p = position-Some (λ t. is_aborting t.phase && is_free t.lease) s.tasks i no_task q in
      let phase : (task_at s.tasks i).phase ≡ Aborting = is_aborting_is (task_at s.tasks i).phase (and_parts (is_aborting (task_at s.tasks i).phase) _ p.1).0 in
      rw same (rw phase refl)

-- a task in flight that is given work is as it was
pub started-flying : (p : Phase) → in_flight p ≡ true → (in_flight (started p) ≡ in_flight p) × (is_pending (started p) ≡ is_pending p)
started-flying Pending h = absurd (false≢true h)
started-flying InProgress h = (refl, refl)
started-flying Aborting h = (refl, refl)
started-flying Aborted h = (refl, refl)
started-flying Completed h = (refl, refl)
started-flying Dead h = (refl, refl)
