-- A lease or a ticket that comes back leaves each task as unfinished as it was.
use Rattle.std.proofs.Common.{◌≡◌, ◌∙◌, ℕ, zero, suc, Bool, true, List, [], ◌∷◌, ◌++◌, set, get_or, refl, ap}
use Rattle.std.specs.Prelude.{Option, Some, None, fold, ◌||◌}
use Rattle.std.specs.List.{list_any, position}
use Rattle.std.proofs.lemmas.List.Sums.{fold-append}
use Rattle.cluster_json.specs.File.{Meaning}
use Rattle.exec_terms.specs.Leases.{end_lease, ended_at, released}
use Rattle.exec_terms.specs.Machine.{State, any_unfinished, no_task, task_at}
use Rattle.exec_terms.specs.Words.{holds, is_unfinished}
use Rattle.core_terms.specs.State.{Core, Desk, opening_of}
use Rattle.core_terms.specs.Plans.{holder_of, planned_back}
use Rattle.core_terms.specs.Step.{next}
use Rattle.core_terms.specs.History.{is_unfinished_after, state_after}
use Rattle.core_terms.specs.declared.events.Event.{Event}
use Rattle.core_terms.specs.declared.events.Event.TheVariants as event
use Rattle.core_laws.proofs.Valid.{exec_moved}
use Rattle.mover_rounds.specs.Asked.{gives_back}

pub after_all : (file : Meaning) (j t : List Event) → state_after file (j ++ t) ≡ fold (next file) (state_after file j) t
unfolding state_after
after_all file j t = fold-append (next file) (opening_of file) j t

any-set : {X : Type 0} (p : X → Bool) (xs : List X) (i : ℕ) (y d : X) → p y ≡ p (get_or xs i d) → list_any p (set xs i y) ≡ list_any p xs
any-set p [] i y d h = refl
any-set p (x ∷ xs) zero y d h = ap (λ b. b || list_any p xs) h
any-set p (x ∷ xs) (suc i) y d h = ap (λ b. p x || b) (any-set p xs i y d h)

lease_ended : (s : State) (lease : ℕ) → any_unfinished (end_lease s lease).tasks ≡ any_unfinished s.tasks
unfolding end_lease
lease_ended s lease = by (position (holds lease) s.tasks) where
  by : (o : Option ℕ) → any_unfinished (ended_at s o).tasks ≡ any_unfinished s.tasks
  by None = refl
  by (Some i) = any-set (λ t. is_unfinished t.phase) s.tasks i (released (task_at s.tasks i)) no_task refl

ticket_ended : (d : Desk) (o : Option ℕ) → any_unfinished (planned_back d o).exec.tasks ≡ any_unfinished d.exec.tasks
ticket_ended d None = refl
ticket_ended d (Some i) = refl

back_keeps : (file : Meaning) (s : Core) (e : Event) → gives_back e ≡ true → any_unfinished (next file s e).desk.exec.tasks ≡ any_unfinished s.desk.exec.tasks
back_keeps file s (event.GiveBack lease) h = ap (λ (u : State). any_unfinished u.tasks) (exec_moved s.desk (end_lease s.desk.exec lease)) ∙ lease_ended s.desk.exec lease
back_keeps file s (event.PlanBack ticket) h = ticket_ended s.desk (holder_of ticket s.desk.jobs)
back_keeps file s _ h = absurd cc

pub stays_unfinished : (file : Meaning) (j : List Event) (e : Event) → gives_back e ≡ true → is_unfinished_after file j ≡ true → is_unfinished_after file (j ++ e ∷ []) ≡ true
stays_unfinished file j e gives h = ap (λ (s : Core). any_unfinished s.desk.exec.tasks) (after_all file j (e ∷ [])) ∙ (back_keeps file (state_after file j) e gives ∙ h)
