-- What comes next, by the first task that wants it.
use Rattle.std.proofs.Common.{◌≡◌, ℕ, ◌+◌, Bool, true, false, ◌&&◌, List, get_or, refl, sym}
use Rattle.std.specs.Prelude.{Some, None, Result, Ok, Err}
use Rattle.std.specs.List.{position}
use Rattle.std.proofs.lemmas.List.{get_or_read}
use Rattle.std.proofs.lemmas.List.Quantifiers.{position-Some}
use Rattle.exec_terms.specs.declared.work.Work.{Work}
use Rattle.exec_terms.specs.declared.work.Work.TheVariants.{Cancel}
use Rattle.exec_terms.specs.declared.replies.Given.{Given}
use Rattle.exec_terms.specs.declared.replies.Idle.{Idle}
use Rattle.exec_terms.specs.declared.task.Task.{Task}
use Rattle.exec_terms.specs.Words.{is_in_progress, is_aborting, is_free, next_step}
use Rattle.exec_terms.specs.Machine.{State, no_task, task_at, may_start, idle, next_work}

abbrev cancels : Task → Bool
cancels t = is_aborting t.phase && is_free t.lease

abbrev goes_on_now : Task → Bool
goes_on_now t = is_in_progress t.phase && is_free t.lease

module _ (s : State) (tasks : List Task) (same : tasks ≡ s.tasks) where
  pub next_is_cancel : (i : ℕ) (g : Given) → Some i ≡ position cancels tasks
      → g ≡ record { lease = s.leases + 1; task = i; part = (task_at tasks i).part; work = Cancel; starts = false }
      → ◌≡◌ {A = Result Given Idle} (Ok g) (next_work s)
  unfolding next_work
  next_is_cancel i g at is =
      let e : position cancels s.tasks ≡ Some i = sym (rw same at at) in
      rw (e, is, same) refl

  pub next_is_step : (i : ℕ) (x : Task) (w : Work) (g : Given) → None ≡ position cancels tasks → Some i ≡ position goes_on_now tasks
      → x ≡ get_or tasks i x → w ≡ next_step x
      → g ≡ record { lease = s.leases + 1; task = i; part = (task_at tasks i).part; work = w; starts = false }
      → ◌≡◌ {A = Result Given Idle} (Ok g) (next_work s)
  unfolding next_work
  next_is_step i x w g none at read step is =
      let e : position cancels s.tasks ≡ None = sym (rw same at none) in
      let f : position goes_on_now s.tasks ≡ Some i = sym (rw same at at) in
      let r : x ≡ get_or tasks i no_task = get_or_read tasks i x (position-Some goes_on_now tasks i no_task (sym at)).0 read no_task in
      rw (e, f, is, step, r, same) refl

  pub next_is_start : (i : ℕ) (x : Task) (w : Work) (g : Given) → None ≡ position cancels tasks → None ≡ position goes_on_now tasks → Some i ≡ position (may_start s.caps tasks) tasks
      → x ≡ get_or tasks i x → w ≡ next_step x
      → g ≡ record { lease = s.leases + 1; task = i; part = (task_at tasks i).part; work = w; starts = true }
      → ◌≡◌ {A = Result Given Idle} (Ok g) (next_work s)
  unfolding next_work
  next_is_start i x w g none none' at read step is =
      let e : position cancels s.tasks ≡ None = sym (rw same at none) in
      let f : position goes_on_now s.tasks ≡ None = sym (rw same at none') in
      let h : position (may_start s.caps s.tasks) s.tasks ≡ Some i = sym (rw same at at) in
      let r : x ≡ get_or tasks i no_task = get_or_read tasks i x (position-Some (may_start s.caps tasks) tasks i no_task (sym at)).0 read no_task in
      rw (e, f, h, is, step, r, same) refl

  pub next_is_none : (r : Idle) → None ≡ position cancels tasks → None ≡ position goes_on_now tasks → None ≡ position (may_start s.caps tasks) tasks
      → r ≡ idle tasks
      → ◌≡◌ {A = Result Given Idle} (Err r) (next_work s)
  unfolding next_work
  next_is_none r none none' none'' is =
      let e : position cancels s.tasks ≡ None = sym (rw same at none) in
      let f : position goes_on_now s.tasks ≡ None = sym (rw same at none') in
      let h : position (may_start s.caps s.tasks) s.tasks ≡ None = sym (rw same at none'') in
      rw (e, f, h, is, same) refl
