-- What jobs, plans and failures do to the user tasks.
use Rattle.std.proofs.Common.{◌≡◌, ◌∙◌, ℕ, ◌+◌, ◌<◌, ◌≤◌, Bool, true, false, not, cond, List, [], ◌∷◌, ◌++◌, length, get_or, set, arith, refl, sym, ap, suc}
use Rattle.std.specs.Prelude.{Option, Some, None}
use Rattle.std.specs.List.{count_by, list_any}
use Rattle.std.proofs.lemmas.Bool.{true≢false, false≢true}
use Rattle.std.proofs.lemmas.List.{length-set, length-append}
use Rattle.std.proofs.lemmas.List.Quantifiers.{position-Some}
use Rattle.std.proofs.lemmas.List.Sums.{sum_by-cons, sum_by-append}
use Rattle.plan_terms.specs.declared.lists.Proposal.{Proposal}
use Rattle.exec_terms.specs.Machine.{State, any_unfinished, first_unfinished, launched}
use Rattle.exec_terms.specs.Words.{is_unfinished}
use Rattle.exec_terms.proofs.Counts.{count_by-set}
use Rattle.exec_terms.proofs.WorkLeft.{position-None}
use Rattle.user_tasks.specs.Tasks.{is_open, open_count}
use Rattle.user_tasks.specs.Asks.{AskView}
use Rattle.user_tasks.specs.declared.table.Status.{Status}
use Rattle.user_tasks.specs.declared.table.Status.TheVariants as status
use Rattle.user_tasks.specs.declared.table.UserTask.{UserTask}
use Rattle.core_terms.specs.Asked.{is_dry}
use Rattle.core_terms.specs.State.{Desk, no_job, job_at}
use Rattle.core_terms.specs.Jobs.{is_active, is_in_execution, no_user_task, plans_execution, user_task_at}
use Rattle.core_terms.specs.Plans.{has_ticket, holder_of, is_ticket}
use Rattle.core_terms.specs.Sound.{AreTasks, AreTickets}
use Rattle.core_terms.specs.declared.jobs.Job.{Job}
use Rattle.core_laws.proofs.Counts.{count_by-drop, count_by-gain, count_by-same}
use Rattle.core_laws.proofs.UserTasks.{IsOver}

-- the jobs change, one for one
pub jobs_changed : (d : Desk) (jobs : List Job) (n : ℕ) → length jobs ≡ length d.jobs → AreTasks d → AreTasks (record d { jobs = jobs; tickets = n })
jobs_changed d jobs n e a = record {
  one_each = e ∙ a.one_each;
  few_open = a.few_open;
  one_plans = a.one_plans;
  none_plans = a.none_plans;
  idle = a.idle;
  busy = a.busy;
}

active_open : (x : Status) → is_active x ≡ true → is_open x ≡ true
active_open status.Active e = refl
active_open status.InExecution e = absurd (false≢true e)
active_open status.Completed e = absurd (false≢true e)
active_open status.CompletedWithError e = absurd (false≢true e)

active_idle : (x : Status) → is_active x ≡ true → is_in_execution x ≡ false
active_idle status.Active e = refl
active_idle status.InExecution e = absurd (false≢true e)
active_idle status.Completed e = absurd (false≢true e)
active_idle status.CompletedWithError e = absurd (false≢true e)

plans_none : (t : UserTask) → is_active t.status ≡ false → plans_execution t ≡ false
plans_none t e = rw e refl

-- an active user task is over
pub one_over : (d : Desk) (jobs : List Job) (i : ℕ) (x : Status) → AreTasks d → length jobs ≡ length d.jobs → IsOver x → i < length d.tasks → is_active (user_task_at d.tasks i).status ≡ true
    → AreTasks (record d { jobs = jobs; tasks = set d.tasks i (record (user_task_at d.tasks i) { status = x }) })
one_over d jobs i x a e over l h =
    let new : UserTask = record (user_task_at d.tasks i) { status = x } in
    let fewer : count_by plans_execution (set d.tasks i new) ≤ count_by plans_execution d.tasks =
    count_by-set plans_execution d.tasks i new no_user_task l (λ p. absurd (true≢false (sym p ∙ plans_none new over.still))) in
    let same : count_by (λ t. is_in_execution t.status) (set d.tasks i new) ≡ count_by (λ t. is_in_execution t.status) d.tasks =
    count_by-same (λ t. is_in_execution t.status) d.tasks i new no_user_task l (over.idle ∙ sym (active_idle (user_task_at d.tasks i).status h)) in
    record {
      one_each = e ∙ a.one_each ∙ sym (length-set d.tasks i new);
      few_open = omega (arith, a.few_open, count_by-drop (λ t. is_open t.status) d.tasks i new no_user_task l (active_open (user_task_at d.tasks i).status h) over.shut);
      one_plans = omega (arith, a.one_plans, fewer);
      none_plans = λ q. omega (arith, a.none_plans q, fewer);
      idle = λ q. same ∙ a.idle q;
      busy = λ q. same ∙ a.busy q;
    }

-- where none passes, no first one does
pub absent : {X : Type 0} (p : X → Bool) (xs : List X) → ((i : ℕ) (d : X) → i < length xs → p (get_or xs i d) ≡ false) → list_any p xs ≡ false
absent p [] h = refl
absent p (x ∷ xs) h = rw (h 0 x (omega arith)) (absent p xs (λ i d l. h (suc i) d (omega arith)))

pub calm_first : (s : State) → first_unfinished s ≡ None → any_unfinished s.tasks ≡ false
calm_first s e = absent (λ t. is_unfinished t.phase) s.tasks (λ i d l. position-None (λ t. is_unfinished t.phase) s.tasks i d e l)

-- a plan is launched: its user task, which was active, is in execution
pub one_launched : (d : Desk) (jobs : List Job) (i : ℕ) (p : Proposal) (ps : List Proposal) → AreTasks d → length jobs ≡ length d.jobs → i < length d.tasks
    → is_active (user_task_at d.tasks i).status ≡ true → is_dry (user_task_at d.tasks i).ask ≡ false → first_unfinished d.exec ≡ None
    → AreTasks (record d { exec = launched d.exec (p ∷ ps) None; jobs = jobs; tasks = set d.tasks i (record (user_task_at d.tasks i) { status = status.InExecution }) })
one_launched d jobs i p ps a e l h wet none =
    let new : UserTask = record (user_task_at d.tasks i) { status = status.InExecution } in
    let was : plans_execution (user_task_at d.tasks i) ≡ true = rw (h, wet) refl in
    let fewer : count_by plans_execution (set d.tasks i new) + 1 ≡ count_by plans_execution d.tasks = count_by-drop plans_execution d.tasks i new no_user_task l was refl in
    let more : count_by (λ t. is_in_execution t.status) (set d.tasks i new) ≡ count_by (λ t. is_in_execution t.status) d.tasks + 1 =
    count_by-gain (λ t. is_in_execution t.status) d.tasks i new no_user_task l (active_idle (user_task_at d.tasks i).status h) refl in
    let before : count_by (λ t. is_in_execution t.status) d.tasks ≡ 0 = a.idle (calm_first d.exec none) in
    record {
      one_each = e ∙ a.one_each ∙ sym (length-set d.tasks i new);
      few_open = omega (arith, a.few_open, count_by-same (λ t. is_open t.status) d.tasks i new no_user_task l (sym (active_open (user_task_at d.tasks i).status h)));
      one_plans = omega (arith, a.one_plans, fewer);
      none_plans = λ q. omega (arith, a.one_plans, fewer);
      idle = λ q. absurd (true≢false q);
      busy = λ q. omega (arith, more, before);
    }

-- one more user task, which is active
pub one_more : (d : Desk) (j : Job) (ask : AskView) → AreTasks d → open_count d.tasks ≤ 15 → (is_dry ask ≡ false → (count_by plans_execution d.tasks ≡ 0) × (any_unfinished d.exec.tasks ≡ false))
    → AreTasks (record d { jobs = d.jobs ++ j ∷ []; tasks = d.tasks ++ record { ask = ask; status = status.Active } ∷ [] })
one_more d j ask a few free =
    let new : UserTask = record { ask = ask; status = status.Active } in
    let count : (p : UserTask → Bool) → count_by p (d.tasks ++ new ∷ []) ≡ count_by p d.tasks + cond (p new) 1 0 = λ p.
    sum_by-append (λ x. cond (p x) 1 0) d.tasks (new ∷ []) ∙ omega (arith, sum_by-cons (λ x. cond (p x) 1 0) new []) in
    let plans : (b : Bool) → is_dry ask ≡ b → count_by plans_execution d.tasks + cond (not b) 1 0 ≤ 1 = λ b. elim b as (λ v. is_dry ask ≡ v → count_by plans_execution d.tasks + cond (not v) 1 0 ≤ 1) [
      | true ↦ λ q. omega (arith, a.one_plans)
      | false ↦ λ q. omega (arith, (free q).0)
    ] in
    let none : (b : Bool) → is_dry ask ≡ b → any_unfinished d.exec.tasks ≡ true → count_by plans_execution d.tasks + cond (not b) 1 0 ≡ 0 = λ b. elim b as (λ v. is_dry ask ≡ v → any_unfinished d.exec.tasks ≡ true → count_by plans_execution d.tasks + cond (not v) 1 0 ≡ 0) [
      | true ↦ λ q u. omega (arith, a.none_plans u)
      | false ↦ λ q u. absurd (true≢false (sym u ∙ (free q).1))
    ] in
    record {
      one_each = length-append d.jobs (j ∷ []) ∙ ap (λ n. n + 1) a.one_each ∙ sym (length-append d.tasks (new ∷ []));
      few_open = omega (arith, few, count (λ t. is_open t.status));
      one_plans = omega (arith, count plans_execution, plans (is_dry ask) refl);
      none_plans = λ u. count plans_execution ∙ none (is_dry ask) refl u;
      idle = λ u. omega (arith, count (λ t. is_in_execution t.status), a.idle u);
      busy = λ u. omega (arith, count (λ t. is_in_execution t.status), a.busy u);
    }

-- the place of a ticket is that of an active user task
pub holder_active : (d : Desk) (n i : ℕ) → AreTasks d → AreTickets d → holder_of n d.jobs ≡ Some i → (i < length d.jobs) × (i < length d.tasks) × (is_active (user_task_at d.tasks i).status ≡ true)
holder_active d n i a t e =
    let f = position-Some (has_ticket n) d.jobs i no_job e in
    (f.0, omega (arith, f.0, a.one_each), held (job_at d.jobs i).ticket refl f.1)
  where
    held : (o : Option ℕ) → (job_at d.jobs i).ticket ≡ o → is_ticket n o ≡ true → is_active (user_task_at d.tasks i).status ≡ true
    held None q h = absurd (false≢true h)
    held (Some m) q h = t.active i m q
