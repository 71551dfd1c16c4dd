-- A lease is out where a task holds it.
use Rattle.std.proofs.Common.{◌≡◌, ◌∙◌, ℕ, Bool, true, false, not, ◌&&◌, cond, List, refl, sym, ap}
use Rattle.std.specs.Prelude.{Option, Some, None, Result, Ok, Err, is_some, option_map}
use Rattle.std.specs.List.{list_any, position}
use Rattle.std.proofs.lemmas.Bool.{false≢true}
use Rattle.std.proofs.lemmas.List.Folds.{list_any_at}
use Rattle.std.proofs.lemmas.List.Quantifiers.{position-Some}
use Rattle.exec_terms.specs.Words.{holds, holds_for, has_number, is_aborting, is_cancel}
use Rattle.exec_terms.specs.Machine.{State, no_task, task_at}
use Rattle.exec_terms.specs.Leases.{held, held_by, given_under, test_lease, tested}
use Rattle.exec_terms.specs.declared.replies.LeaseFault.{LeaseFault}
use Rattle.exec_terms.specs.declared.replies.LeaseFault.TheVariants.{Stale, AbortAsked}
use Rattle.exec_terms.specs.declared.task.Task.{Task}
use Rattle.exec_terms.specs.declared.work.Lease.{Lease}
use Rattle.exec_terms.specs.declared.work.WorkKind.{WorkKind}
use Rattle.exec_terms.proofs.WorkLeft.{position-None}
use Rattle.core_terms.specs.State.{no_job}
use Rattle.core_terms.specs.Plans.{has_ticket, holder_of}
use Rattle.core_terms.specs.declared.jobs.Job.{Job}
use Rattle.core_laws.proofs.Jobs.{absent}

-- whether the answer isn't that no task holds the lease
abbrev pub is_worth_it : Result ℕ LeaseFault → Bool
is_worth_it (Ok i) = true
is_worth_it (Err (Stale n)) = false
is_worth_it (Err AbortAsked) = true

none_any : (p : Task → Bool) (xs : List Task) → position p xs ≡ None → list_any p xs ≡ false
none_any p xs e = absent p xs (λ i d l. position-None p xs i d e l)

some_any : (p : Task → Bool) (xs : List Task) (i : ℕ) → position p xs ≡ Some i → list_any p xs ≡ true
some_any p xs i e = let f = position-Some p xs i no_task e in list_any_at p xs i no_task f.0 f.1

pub held_tested : (s : State) (lease : ℕ) (kind : WorkKind) → is_worth_it (test_lease s lease kind) ≡ list_any (holds_for lease kind) s.tasks
unfolding test_lease
held_tested s lease kind = by (position (holds_for lease kind) s.tasks) refl where
  by : (o : Option ℕ) → position (holds_for lease kind) s.tasks ≡ o → is_worth_it (tested s kind o) ≡ list_any (holds_for lease kind) s.tasks
  by None e = sym (none_any (holds_for lease kind) s.tasks e)
  by (Some i) e = asked (is_aborting (task_at s.tasks i).phase && not (is_cancel kind)) where
    asked : (b : Bool) → is_worth_it (cond b (Err AbortAsked) (Ok i)) ≡ list_any (holds_for lease kind) s.tasks
    asked true = sym (some_any (holds_for lease kind) s.tasks i e)
    asked false = sym (some_any (holds_for lease kind) s.tasks i e)

-- so where it is told that none does
pub held_stale : (s : State) (lease : ℕ) (kind : WorkKind) (r : Result ℕ LeaseFault) (n : ℕ) → r ≡ test_lease s lease kind → r ≡ Err (Stale n) → false ≡ list_any (holds_for lease kind) s.tasks
held_stale s lease kind r n e q = ap is_worth_it (sym q ∙ e) ∙ held_tested s lease kind

-- and where another answer is told
pub held_ok : (s : State) (lease : ℕ) (kind : WorkKind) (r : Result ℕ LeaseFault) (i : ℕ) → r ≡ test_lease s lease kind → r ≡ Ok i → true ≡ list_any (holds_for lease kind) s.tasks
held_ok s lease kind r i e q = ap is_worth_it (sym q ∙ e) ∙ held_tested s lease kind

pub held_asked : (s : State) (lease : ℕ) (kind : WorkKind) (r : Result ℕ LeaseFault) → r ≡ test_lease s lease kind → r ≡ Err AbortAsked → true ≡ list_any (holds_for lease kind) s.tasks
held_asked s lease kind r e q = ap is_worth_it (sym q ∙ e) ∙ held_tested s lease kind

pub held_there : (s : State) (lease : ℕ) → is_some (held s lease) ≡ list_any (holds lease) s.tasks
held_there s lease = by (position (holds lease) s.tasks) refl where
  by : (o : Option ℕ) → position (holds lease) s.tasks ≡ o → is_some (held_by s o) ≡ list_any (holds lease) s.tasks
  by None e = sym (none_any (holds lease) s.tasks e)
  by (Some i) e = with_lease (task_at s.tasks i).lease (position-Some (holds lease) s.tasks i no_task e).1 ∙ sym (some_any (holds lease) s.tasks i e) where
    with_lease : (o : Option Lease) → has_number lease o ≡ true → is_some (option_map (given_under i (task_at s.tasks i)) o) ≡ true
    with_lease None h = absurd (false≢true h)
    with_lease (Some l) h = refl

-- a job has the ticket where a first one does
pub ticket_there : (jobs : List Job) (n : ℕ) → is_some (holder_of n jobs) ≡ list_any (has_ticket n) jobs
ticket_there jobs n = by (holder_of n jobs) refl where
  by : (o : Option ℕ) → holder_of n jobs ≡ o → is_some o ≡ list_any (has_ticket n) jobs
  by None e = sym (absent (has_ticket n) jobs (λ i d l. position-None (has_ticket n) jobs i d e l))
  by (Some i) e = let f = position-Some (has_ticket n) jobs i no_job e in sym (list_any_at (has_ticket n) jobs i no_job f.0 f.1)
