-- What `apply` makes of what came of a request.
use Rattle.std.proofs.Common.{◌≡◌, ◌∙◌, ◌≤◌, ℕ, List, [], ◌∷◌, ◌++◌, length, refl, ap, sym, subst, arith}
use Rattle.std.specs.Prelude.{IfOk, Result, Ok, Err}
use Rattle.std.proofs.lemmas.List.{length-map}
use Rattle.cluster_gate.specs.declared.memory.MemoryCluster.{MemoryCluster}
use Rattle.cluster_json.specs.File.{Meaning}
use Rattle.control_core.specs.Books.{BookView, state_of}
use Rattle.control_core.proofs.Goals.{goal_is}
use Rattle.core_terms.specs.Asked.{goals_of}
use Rattle.core_terms.specs.Plans.{goal_failed}
use Rattle.core_terms.specs.declared.jobs.Broken.{Broken}
use Rattle.exec_terms.specs.Machine.{lists_now}
use Rattle.goal_optimizer.specs.Outcomes.{IsFailureOf, IsPlanOf}
use Rattle.goal_set.specs.Kept.{FailureView, IsFailure, kinds_of}
use Rattle.goal_set.specs.Kinds.{name_of}
use Rattle.goal_set.specs.declared.kinds.GoalKind.{GoalKind}
use Rattle.plan_terms.specs.Cluster.{Cluster, Lists}
use Rattle.proposal_set.specs.Text.{assignment_text}
use Rattle.request_runs.specs.Runs.{IsCarriedOut, IsGivenUp, IsRun, cluster_asked, without_share}
use Rattle.user_tasks.specs.Asks.{AskView}
use Rattle.quiet_commands.specs.Applied.{IsApplied}
use Rattle.quiet_commands.specs.Ends.{IsFailureEnd}
use Rattle.quiet_commands.specs.Input.{planned_for, loaded_cluster}
use Rattle.quiet_commands.specs.Planned.{failure_json, failure_text}
use Rattle.quiet_commands.specs.declared.answers.Answer.{Answer}
use Rattle.quiet_commands.specs.declared.ends.End.{End}
use Rattle.quiet_commands.specs.declared.ends.End.TheVariants as end

-- both name one cluster
same_cluster : (ask : AskView) (m : Meaning) → (planned_for ask m).cluster ≡ cluster_asked ask m
unfolding planned_for loaded_cluster
same_cluster ask m = refl

-- the last of some goals
last_one : (x : GoalKind) (xs : List GoalKind) → (met : List GoalKind) × (k : GoalKind) × (x ∷ xs ≡ met ++ k ∷ [])
last_one x [] = ([], x, refl)
last_one x (y ∷ ys) = let r = last_one y ys in (x ∷ r.0, r.1, ap (λ (zs : List GoalKind). x ∷ zs) r.2)

some_last : (ks : List GoalKind) → 1 ≤ length ks → (met : List GoalKind) × (k : GoalKind) × (ks ≡ met ++ k ∷ [])
some_last [] h = absurd (omega (arith, h))
some_last (x ∷ xs) h = last_one x xs

some_turn : (f : FailureView) → IsFailure f → 1 ≤ length (kinds_of f.trace)
some_turn f h = let same : length (kinds_of f.trace) ≡ length f.trace.turns.items = length-map f.trace.turns.items (λ t. t.goal) in omega (arith, same, h.place_is)

-- a failure's goal is that of its last turn
failed_last : (f : FailureView) → IsFailure f → (met : List GoalKind) × (kinds_of f.trace ≡ met ++ goal_failed f ∷ [])
failed_last f h =
    let r = some_last (kinds_of f.trace) (some_turn f h) in
    (r.0, r.2 ∙ ap (λ (k : GoalKind). r.0 ++ k ∷ []) (goal_is f r.1 (r.0, r.2)))

module _ (m : Meaning) (ask : AskView) (book : BookView MemoryCluster) (run : IsRun (without_share m) ask book) where
  -- the lists are written
  applied : (text : List ℕ) → IsCarriedOut (cluster_asked ask m) m.lists (goals_of ask) (state_of book).desk.exec → text ≡ assignment_text (cluster_asked ask m).parts (lists_now (state_of book).desk.exec) ++ 10 ∷ [] → IsApplied m ask text end.Done
  applied text h spelled = record {
    book = book;
    run = run;
    plan = h.plan;
    planned = subst (λ (c : Cluster). IsPlanOf c m.lists (goals_of ask) h.plan) (sym (same_cluster ask m)) h.planned;
    carried = h.carried;
    spelled = spelled ∙ (ap (λ (c : Cluster). assignment_text c.parts (lists_now (state_of book).desk.exec) ++ 10 ∷ []) (sym (same_cluster ask m)) ∙ ap (λ (x : Lists). assignment_text (planned_for ask m).cluster.parts x ++ 10 ∷ []) h.carried);
  }

  -- the goal that failed is told
  given_up : (broken : Broken) (text : List ℕ) (way : End) → IsGivenUp (cluster_asked ask m) m.lists (goals_of ask) broken (state_of book).desk.exec → text ≡ failure_json (name_of broken.goal) broken.left ++ 10 ∷ [] → IsFailureEnd broken.goal way → IsApplied m ask text way
  unfolding failure_text planned_for
  given_up broken text (end.GoalFailed line) h spelled told =
      let last = failed_last h.failure h.failed.kept in
      record {
        book = book;
        run = run;
        failed = record {
          failure = h.failure;
          failed = subst (λ (c : Cluster). IsFailureOf c m.lists (goals_of ask) h.failure) (sym (same_cluster ask m)) h.failed;
          told = (broken.goal, last.0, last.1 ∙ ap (λ (k : GoalKind). last.0 ++ k ∷ []) (sym h.goal_is), spelled ∙ ap (λ (n : ℕ). failure_json (name_of broken.goal) n ++ 10 ∷ []) h.left_is, told);
        };
        kept = h.kept;
      }
  given_up broken text _ h spelled told = absurd told

  -- the same of what was made, unless memory ran out
  pub applied_made : {E : Type 0} (c : Cluster) (r : Result Answer E) → c ≡ cluster_asked ask m → IsCarriedOut (cluster_asked ask m) m.lists (goals_of ask) (state_of book).desk.exec
      → IfOk r (λ a. a.text.items ≡ assignment_text c.parts (lists_now (state_of book).desk.exec) ++ 10 ∷ []) → IfOk r (λ a. a.end ≡ end.Done) → IfOk r (λ a. IsApplied m ask a.text.items a.end)
  applied_made c (Ok a) same h text way =
      subst (λ (x : End). IsApplied m ask a.text.items x) (sym way)
      (applied a.text.items h (text ∙ ap (λ (x : Cluster). assignment_text x.parts (lists_now (state_of book).desk.exec) ++ 10 ∷ []) same))
  applied_made c (Err f) same h text way = tt

  pub given_up_made : {E : Type 0} (broken : Broken) (r : Result Answer E) → IsGivenUp (cluster_asked ask m) m.lists (goals_of ask) broken (state_of book).desk.exec
      → IfOk r (λ a. a.text.items ≡ failure_json (name_of broken.goal) broken.left ++ 10 ∷ []) → IfOk r (λ a. IsFailureEnd broken.goal a.end) → IfOk r (λ a. IsApplied m ask a.text.items a.end)
  given_up_made broken (Ok a) h text way = given_up broken a.text.items a.end h text way
  given_up_made broken (Err f) h text way = tt
