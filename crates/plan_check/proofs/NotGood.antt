-- A trace with a fault is no plan's and no failure's.
use Rattle.std.proofs.Common.{◌≡◌, ℕ, ◌+◌, ◌<◌, ◌≤◌, ◌∙◌, false, List, [], ◌∷◌, ◌++◌, length, take, zero, suc, refl, ap, sym, arith, inl, inr}
use Rattle.std.specs.Prelude.{◌⊎◌, IsTrue, Some, slice_get, option_map}
use Rattle.std.proofs.lemmas.Bool.{false≢true, cases_lt}
use Rattle.std.proofs.lemmas.List.{take-map, take_all, length-map}
use Rattle.std.proofs.lemmas.Option.{slice_get-map}
use Rattle.plan_terms.specs.Belongs.{Belongs}
use Rattle.plan_terms.specs.Effect.{after_all}
use Rattle.plan_terms.specs.Goal.{measure}
use Rattle.plan_terms.specs.Trace.{Step, Turn}
use Rattle.plan_terms.specs.declared.actions.Action.{Action}
use Rattle.plan_terms.proofs.Complete.{NoneLeft-legal}
use Rattle.goal_set.specs.Kept.{IsFailure, actions_of, kinds_of}
use Rattle.goal_set.specs.Kinds.{meaning_of, meanings}
use Rattle.goal_set.specs.declared.kinds.GoalKind.{GoalKind}
use Rattle.plan_check.specs.Judged.{Checked, IsGood, IsGoodBefore, IsTurnOf, IsActionOf, IsWrongGoal, IsNotFinished, IsNotStopped, IsNotPlanned, IsFirstFault, lists_at, goals_before}
use Rattle.plan_check.specs.declared.faults.FaultKind.{FaultKind}
use Rattle.plan_check.specs.declared.faults.FaultKind.TheVariants as kind
use Rattle.plan_check.proofs.TurnLemmas.{Steps-at, Belongs-Steps, Belongs-Turns, Turns-at, Failed-turn, Failed-all}

slice_get-append_left : {X : Type 0} (xs ys : List X) (n : ℕ) → n < length xs → slice_get (xs ++ ys) n ≡ slice_get xs n
slice_get-append_left [] ys n l = absurd (omega arith)
slice_get-append_left (x ∷ xs) ys zero l = refl
slice_get-append_left (x ∷ xs) ys (suc n) l = slice_get-append_left xs ys n (omega arith)

-- what a good trace says of a turn of the n-th goal
record IsGoodTurn (x : Checked) (n : ℕ) (g : GoalKind) (actions : List Action) : Type 0 where
  start_belongs : Belongs x.case x.start
  turn : Turn x.case (goals_before x n) (meaning_of g x.case) (lists_at x n) actions
  met : (IsTrue (meaning_of g x.case).hard → measure (meaning_of g x.case) (after_all actions (lists_at x n)) ≡ 0)
      ⊎ ((x.trace.planned ≡ false) × (n + 1 ≡ length x.trace.turns.items))

module _ (x : Checked) where
  meaning_at : (n : ℕ) (g : GoalKind) → slice_get x.goals n ≡ Some g → slice_get (meanings x.case x.goals) n ≡ Some (meaning_of g x.case)
  meaning_at n g e = slice_get-map (λ (k : GoalKind). meaning_of k x.case) x.goals n ∙ ap (option_map (λ (k : GoalKind). meaning_of k x.case)) e

  goals_before-is : (n : ℕ) → take n (meanings x.case x.goals) ≡ goals_before x n
  goals_before-is n = take-map (λ (k : GoalKind). meaning_of k x.case) n x.goals

  good_turn : (n : ℕ) (g : GoalKind) (actions : List Action) → IsTurnOf x n g actions → IsGood x → IsGoodTurn x n g actions
  good_turn n g actions t good = elim good as (λ _. IsGoodTurn x n g actions) [
    | inl p ↦
        let here = Turns-at x.case [] (meanings x.case x.goals) x.start (actions_of x.trace) n (meaning_of g x.case) actions p.planned.each (meaning_at n g t.goal_is) t.actions_are in
        record { start_belongs = p.start_belongs; turn = rw goals_before-is at here.0; met = inl here.1 }
    | inr f ↦
        let here = Failed-turn x.case (meanings x.case x.goals) x.start (actions_of x.trace) f.1.place f.0 f.1.failed n (meaning_of g x.case) actions (meaning_at n g t.goal_is) t.actions_are in
        record {
          start_belongs = f.1.start_belongs;
          turn = rw goals_before-is at here.0;
          met = elim here.1 [ inl met ↦ inl met | inr end ↦ inr (f.1.unplanned, end ∙ length-map x.trace.turns.items (λ t'. t'.actions)) ];
        }
  ]

  -- the turns of a failure are not all good ones
  not_failed : (n : ℕ) → IsGoodBefore x n → length x.trace.turns.items ≤ n
      → (left : ℕ) → IsFailure (record { case = x.case; start = x.start; goals = x.goals; trace = x.trace; left = left }) → ⊥
  not_failed n before end left f =
      let long : length (actions_of x.trace) ≤ n = rw length-map end in
      Failed-all x.case (meanings x.case x.goals) x.start (actions_of x.trace) f.place left f.failed n
      (rw (← goals_before-is n, take_all n (actions_of x.trace) long) at before.turns_are)

  not_good-goal : (n a : ℕ) → IsWrongGoal x n a → IsGood x → ⊥
  not_good-goal n a w good = elim good as (λ _. ⊥) [
    | inl p ↦ w.differs (ap (λ (l : List GoalKind). slice_get l n) p.in_order)
    | inr f ↦ elim (cases_lt n (length x.trace.turns.items)) as (λ _. ⊥) [
      | inl less ↦
          let within : n < length (kinds_of x.trace) = rw length-map less in
          w.differs (sym (ap (λ (l : List GoalKind). slice_get l n) f.1.in_order ∙ slice_get-append_left (kinds_of x.trace) f.1.untried n within))
      | inr end ↦ not_failed n w.before end f.0 f.1
    ]
  ]

  -- an action of a good trace is a step
  good_step : (n a : ℕ) (g : GoalKind) (here : Action) (lists : _) → IsActionOf x n a g here lists → IsGood x → Step x.case (goals_before x n) (meaning_of g x.case) lists here
  good_step n a g here lists action good =
      let t = good_turn n g action.actions action.turn good in
      rw action.lists_are (Steps-at x.case (goals_before x n) (meaning_of g x.case) (lists_at x n) action.actions a here t.turn.steps action.action_is)

  not_good-left : (n a : ℕ) → IsNotFinished x n a → IsGood x → ⊥
  not_good-left n a w good =
      let t = good_turn n w.goal w.end.actions w.end.turn good in
      let step = rw w.end.lists_are at w.step in
      elim t.turn.finished as (λ _. ⊥) [
        | inl met ↦ absurd (omega (arith, met, step.lessens))
        | inr none ↦
            NoneLeft-legal x.case _
            (Belongs-Steps x.case _ _ _ w.end.actions (Belongs-Turns x.case [] _ x.start _ t.start_belongs w.end.turn.before.turns_are) w.end.steps)
            (goals_before x n) (meaning_of w.goal x.case) none w.left step.legal step.accepted step.lessens
      ]

  not_good-result : (n a : ℕ) → IsNotStopped x n a → IsGood x → ⊥
  not_good-result n a w good =
      let t = good_turn n w.goal w.end.actions w.end.turn good in
      let above = rw w.end.lists_are at w.broken in
      elim t.met as (λ _. ⊥) [
        | inl met ↦ absurd (omega (arith, met w.hard, above))
        | inr failed ↦ elim w.told as (λ _. ⊥) [ inl planned ↦ false≢true (sym failed.0 ∙ planned) | inr more ↦ absurd (omega (arith, failed.1, more)) ]
      ]

  not_good-planned : (n a : ℕ) → IsNotPlanned x n a → IsGood x → ⊥
  not_good-planned n a w good = elim good as (λ _. ⊥) [
    | inl p ↦ false≢true (sym w.told ∙ p.planned_is)
    | inr f ↦ not_failed n w.before (omega (arith, w.no_turn)) f.0 f.1
  ]

  pub not_good : (n a : ℕ) (k : FaultKind) → IsFirstFault x n a k → IsGood x → ⊥
  not_good n a kind.WrongGoal w good = not_good-goal n a w good
  not_good n a kind.Illegal w good = false≢true (sym w.illegal ∙ (good_step n a w.goal w.here w.lists w.action good).legal)
  not_good n a kind.NotAccepted w good = w.refused (good_step n a w.goal w.here w.lists w.action good).accepted
  not_good n a kind.NotLessening w good = w.idle (good_step n a w.goal w.here w.lists w.action good).lessens
  not_good n a kind.NotFinished w good = not_good-left n a w good
  not_good n a kind.WrongResult (inl w) good = not_good-result n a w good
  not_good n a kind.WrongResult (inr w) good = not_good-planned n a w good
