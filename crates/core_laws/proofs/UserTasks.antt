-- What the user tasks keep while the executor changes, and where an execution ends.
use Rattle.std.proofs.Common.{◌≡◌, ◌∙◌, ℕ, ◌<◌, ◌≤◌, Bool, true, false, cond, List, length, set, arith, refl, sym}
use Rattle.std.specs.Prelude.{Option, Some, None, not, ◌&&◌}
use Rattle.std.specs.List.{count_by, list_all, position}
use Rattle.std.proofs.lemmas.Bool.{true≢false}
use Rattle.std.proofs.lemmas.List.{length-set}
use Rattle.std.proofs.lemmas.List.Quantifiers.{position-Some}
use Rattle.exec_terms.specs.Machine.{State, any_unfinished}
use Rattle.exec_terms.specs.Words.{is_completed}
use Rattle.user_tasks.specs.Tasks.{is_open}
use Rattle.user_tasks.specs.declared.table.Status.{Status}
use Rattle.user_tasks.specs.declared.table.Status.TheVariants as status
use Rattle.user_tasks.specs.declared.table.UserTask.{UserTask}
use Rattle.core_terms.specs.State.{Desk}
use Rattle.core_terms.specs.Jobs.{is_active, is_in_execution, no_user_task, plans_execution, user_task_at, with_job, with_status}
use Rattle.core_terms.specs.Works.{ended_job, execution_ended, moved, with_exec}
use Rattle.core_terms.specs.Sound.{AreTasks}
use Rattle.core_terms.specs.declared.jobs.Job.{Job}
use Rattle.core_laws.proofs.Counts.{count_by-absent, count_by-drop, count_by-same}

-- a status with no work to come
pub record IsOver (x : Status) : Type 0 where
  pub shut : is_open x ≡ false
  pub idle : is_in_execution x ≡ false
  pub still : is_active x ≡ false

pub over_completed : IsOver status.Completed
over_completed = record { shut = refl; idle = refl; still = refl }

pub over_error : IsOver status.CompletedWithError
over_error = record { shut = refl; idle = refl; still = refl }

-- a user task in execution is open, and no plan of it is being made
open_in_execution : (x : Status) → is_in_execution x ≡ true → is_open x ≡ true
open_in_execution status.Active e = cc
open_in_execution status.InExecution e = refl
open_in_execution status.Completed e = cc
open_in_execution status.CompletedWithError e = cc

still_in_execution : (x : Status) → is_in_execution x ≡ true → is_active x ≡ false
still_in_execution status.Active e = cc
still_in_execution status.InExecution e = refl
still_in_execution status.Completed e = refl
still_in_execution status.CompletedWithError e = refl

plans_none : (t : UserTask) → is_active t.status ≡ false → plans_execution t ≡ false
plans_none t e = rw e refl

-- the one user task in execution ends
module _ (d : Desk) (e : State) (jobs : List Job) (i : ℕ) (x : Status) (a : AreTasks d) (one_each : length jobs ≡ length d.jobs) (over : IsOver x) where
  pub one_over : i < length d.tasks → is_in_execution (user_task_at d.tasks i).status ≡ true → count_by (λ t. is_in_execution t.status) d.tasks ≤ 1 → any_unfinished e.tasks ≡ false
      → AreTasks (record d { exec = e; jobs = jobs; tasks = set d.tasks i (record (user_task_at d.tasks i) { status = x }) })
  one_over l h most calm = record {
    one_each = one_each ∙ a.one_each ∙ sym (length-set d.tasks i (record (user_task_at d.tasks i) { status = x }));
    few_open = omega (arith, a.few_open, count_by-drop (λ t. is_open t.status) d.tasks i (record (user_task_at d.tasks i) { status = x }) no_user_task l (open_in_execution (user_task_at d.tasks i).status h) over.shut);
    one_plans = omega (arith, a.one_plans, same_plans);
    none_plans = λ q. absurd (true≢false (sym q ∙ calm));
    idle = λ q. omega (arith, most, count_by-drop (λ t. is_in_execution t.status) d.tasks i (record (user_task_at d.tasks i) { status = x }) no_user_task l h over.idle);
    busy = λ q. absurd (true≢false (sym q ∙ calm));
  }
    where
      same_plans : count_by plans_execution (set d.tasks i (record (user_task_at d.tasks i) { status = x })) ≡ count_by plans_execution d.tasks
      same_plans = count_by-same plans_execution d.tasks i (record (user_task_at d.tasks i) { status = x }) no_user_task l
          (plans_none (record (user_task_at d.tasks i) { status = x }) over.still ∙ sym (plans_none (user_task_at d.tasks i) (still_in_execution (user_task_at d.tasks i).status h)))

-- at most one user task is in execution
pub one_executes : (d : Desk) → AreTasks d → count_by (λ t. is_in_execution t.status) d.tasks ≤ 1
one_executes d a = by (any_unfinished d.exec.tasks) refl where
  by : (b : Bool) → any_unfinished d.exec.tasks ≡ b → count_by (λ t. is_in_execution t.status) d.tasks ≤ 1
  by true q = omega (arith, a.busy q)
  by false q = omega (arith, a.idle q)

-- where the execution goes on, or none of its was begun, nothing changes for the user tasks
pub same_tasks : (d : Desk) (e : State) → AreTasks d → any_unfinished e.tasks ≡ any_unfinished d.exec.tasks → AreTasks (with_exec d e)
same_tasks d e a same = record {
  one_each = a.one_each;
  few_open = a.few_open;
  one_plans = a.one_plans;
  none_plans = λ q. a.none_plans (sym same ∙ q);
  idle = λ q. a.idle (sym same ∙ q);
  busy = λ q. a.busy (sym same ∙ q);
}

-- an executor in which no task begins: the user task in execution ends where the last unfinished task does
pub settled_tasks : (d : Desk) (e : State) → AreTasks d → (any_unfinished d.exec.tasks ≡ false → any_unfinished e.tasks ≡ false) → AreTasks (moved d e)
settled_tasks d e a calm = by (any_unfinished d.exec.tasks) (any_unfinished e.tasks) refl refl where
  found : (o : Option ℕ) → position (λ t. is_in_execution t.status) d.tasks ≡ o → any_unfinished e.tasks ≡ false → AreTasks (execution_ended (with_exec d e) o)
  found None p q = record {
    one_each = a.one_each;
    few_open = a.few_open;
    one_plans = a.one_plans;
    none_plans = λ r. absurd (true≢false (sym r ∙ q));
    idle = λ r. count_by-absent (λ t. is_in_execution t.status) d.tasks no_user_task p;
    busy = λ r. absurd (true≢false (sym r ∙ q));
  }
  found (Some i) p q = ending (list_all (λ t. is_completed t.phase) e.tasks)
    where
      here : (i < length d.tasks) × (is_in_execution (user_task_at d.tasks i).status ≡ true) × ((k : ℕ) → k < i → is_in_execution (user_task_at d.tasks k).status ≡ false)
      here = position-Some (λ t. is_in_execution t.status) d.tasks i no_user_task p

      ending : (b : Bool) → AreTasks (cond b (with_status (with_exec d e) i status.Completed) (with_status (with_job (with_exec d e) i (ended_job (with_exec d e) i)) i status.CompletedWithError))
      ending true = one_over d e d.jobs i status.Completed a refl over_completed here.0 here.1 (one_executes d a) q
      ending false = one_over d e (set d.jobs i (ended_job (with_exec d e) i)) i status.CompletedWithError a (length-set d.jobs i (ended_job (with_exec d e) i)) over_error here.0 here.1 (one_executes d a) q

  by : (b c : Bool) → any_unfinished d.exec.tasks ≡ b → any_unfinished e.tasks ≡ c
      → AreTasks (cond (b && not c) (execution_ended (with_exec d e) (position (λ t. is_in_execution t.status) d.tasks)) (with_exec d e))
  by true true h k = same_tasks d e a (k ∙ sym h)
  by true false h k = found (position (λ t. is_in_execution t.status) d.tasks) refl k
  by false true h k = absurd (true≢false (sym k ∙ calm h))
  by false false h k = same_tasks d e a (k ∙ sym h)
