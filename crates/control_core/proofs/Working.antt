-- What is known of the task of a lease.
use Rattle.std.proofs.Common.{◌≡◌, ◌≢◌, ◌<◌, ◌≤◌, ℕ, true, length, refl, arith}
use Rattle.std.specs.Prelude.{Result, Ok, Err, OnErr}
use Rattle.std.proofs.lemmas.List.Folds.{list_any_at}
use Rattle.exec_terms.specs.Words.{is_unfinished}
use Rattle.exec_terms.specs.Machine.{State, no_task, task_at, any_unfinished}
use Rattle.exec_terms.specs.Leases.{test_lease}
use Rattle.exec_terms.specs.Valid.{IsValid}
use Rattle.exec_terms.specs.declared.replies.LeaseFault.{LeaseFault}
use Rattle.exec_terms.specs.declared.work.WorkKind.{WorkKind}
use Rattle.exec_terms.specs.declared.work.WorkKind.TheVariants.{Copy as ForCopy, Commit as ForCommit, Cancel as ForCancel}
use Rattle.exec_terms.specs.declared.task.Task.{Task}
use Rattle.exec_terms.proofs.Calls.{worth}
use Rattle.core_laws.proofs.Given.{flying}
use Rattle.cluster_gate.specs.Calls as call
use Rattle.control_core.specs.LastWork.{last_call, last_list}

-- the task of a lease that is worth it: it is unfinished, and its partition is known
pub record IsWorking (s : State) (i : ℕ) : Type 0 where
  pub there : i < length s.tasks
  pub part : (task_at s.tasks i).part < length s.base
  pub after : length (task_at s.tasks i).after ≤ 16
  pub before : length (task_at s.tasks i).before ≤ 16
  pub busy : any_unfinished s.tasks ≡ true

pub working : (s : State) (lease : ℕ) (kind : WorkKind) (i : ℕ) → IsValid s → ◌≡◌ {A = Result ℕ LeaseFault} (Ok i) (test_lease s lease kind) → IsWorking s i
working s lease kind i v e =
    let w = worth s lease kind i e in
    let t = v.each i no_task w.known in
    record {
      there = w.known;
      part = t.known;
      after = omega (arith, t.after_is.few);
      before = omega (arith, t.before_is.few);
      busy = list_any_at (λ t. is_unfinished t.phase) s.tasks i no_task w.known (flying (task_at s.tasks i).phase (t.lease w.held w.holds).flies);
    }

-- what holds anyhow holds where there is an error
pub anyhow : {T E : Type 0} (P : Type 0) (r : Result T E) → P → OnErr r P
anyhow P (Ok x) p = tt
anyhow P (Err e) p = p

-- work that isn't a cancel leaves the new list
pub new_list : (kind : WorkKind) → kind ≢ ForCancel → last_list kind ≡ (λ (t : Task). t.after)
new_list ForCopy h = refl
new_list ForCommit h = refl
new_list ForCancel h = absurd (h refl)

-- by a commit
pub new_call : (kind : WorkKind) → kind ≢ ForCancel → last_call kind ≡ call.committed
new_call ForCopy h = refl
new_call ForCommit h = refl
new_call ForCancel h = absurd (h refl)
