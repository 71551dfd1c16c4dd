-- Where a plan is to be carried out no task is unfinished.
use Rattle.std.proofs.Common.{◌≡◌, ◌∙◌, ℕ, Bool, true, false, List, [], ◌∷◌, arith, refl, sym}
use Rattle.std.specs.Prelude.{Option, Some, None}
use Rattle.std.proofs.lemmas.Bool.{true≢false}
use Rattle.std.proofs.lemmas.List.Folds.{list_any_at}
use Rattle.std.proofs.lemmas.List.Quantifiers.{position-Some}
use Rattle.plan_terms.specs.declared.lists.Proposal.{Proposal}
use Rattle.exec_terms.specs.Words.{is_unfinished}
use Rattle.exec_terms.specs.Machine.{State, no_task, any_unfinished, first_unfinished}
use Rattle.exec_terms.proofs.Counts.{count_by_some}
use Rattle.user_tasks.specs.declared.table.UserTask.{UserTask}
use Rattle.core_terms.specs.Asked.{is_dry}
use Rattle.core_terms.specs.Jobs.{is_done_at_once, no_user_task, plans_execution, user_task_at}
use Rattle.core_laws.specs.Laws.{PlansMeetNoExecution}
use Rattle.core_laws.proofs.Jobs.{holder_active}

pub no_first : (s : State) → any_unfinished s.tasks ≡ false → first_unfinished s ≡ None
no_first s h = by (first_unfinished s) refl where
  by : (o : Option ℕ) → first_unfinished s ≡ o → o ≡ None
  by None e = refl
  by (Some i) e =
      let f = position-Some (λ t. is_unfinished t.phase) s.tasks i no_task e in
      absurd (true≢false (sym (list_any_at (λ t. is_unfinished t.phase) s.tasks i no_task f.0 f.1) ∙ h))

pub wet : (t : UserTask) (ps : List Proposal) → is_done_at_once t ps ≡ false → is_dry t.ask ≡ false
wet t [] h = cc
wet t (p ∷ ps) h = h

pub plans_meet_no_execution : PlansMeetNoExecution
plans_meet_no_execution d n i ps a t e h = no_first d.exec (calm (any_unfinished d.exec.tasks) refl) where
  planning : plans_execution (user_task_at d.tasks i) ≡ true
  planning = rw ((holder_active d n i a t e).2, wet (user_task_at d.tasks i) ps h) refl

  calm : (b : Bool) → any_unfinished d.exec.tasks ≡ b → b ≡ false
  calm true q = absurd (omega (arith, a.none_plans q, count_by_some plans_execution d.tasks i no_user_task (holder_active d n i a t e).1 planning))
  calm false q = refl
