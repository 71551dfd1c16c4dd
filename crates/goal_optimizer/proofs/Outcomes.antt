-- A run of the planner after one turn more, and how it ends.
use Rattle.std.proofs.Common.{◌≡◌, ℕ, ◌+◌, ◌<◌, ◌≤◌, true, false, List, [], ◌∷◌, ◌++◌, length, map, take, drop, get_or, refl, sym, ap, ◌∙◌, arith}
use Rattle.std.specs.Prelude.{IsTrue}
use Rattle.std.proofs.lemmas.List.{take_more, take_all, map-append, take-append-drop, length-map, length-take, length-take-le, take-map, get_or-map}
use Rattle.goal_optimizer.proofs.Firsts.{turns-push}
use Rattle.goal_optimizer.specs.Firsts.{FirstSteps, FirstTurns}
use Rattle.plan_terms.specs.Belongs.{Belongs}
use Rattle.plan_terms.specs.Cluster.{Cluster, Lists}
use Rattle.plan_terms.specs.Effect.{after_all}
use Rattle.plan_terms.specs.Goal.{measure}
use Rattle.plan_terms.specs.Trace.{Turn, Turns, after_turns}
use Rattle.plan_terms.specs.declared.actions.Action.{Action}
use Rattle.goal_set.specs.Kept.{IsPlan, IsFailure}
use Rattle.goal_set.specs.Kinds.{meaning_of, meanings}
use Rattle.goal_set.specs.declared.kinds.GoalKind.{GoalKind}
use Rattle.goal_set.specs.declared.trace.Trace.{Trace}
use Rattle.goal_set.specs.declared.trace.Turned.{Turned}
use Rattle.goal_set.proofs.PlanSteps.{planned_more, failed_here}

module _ (c : Cluster) (start : Lists) (kinds : List GoalKind) (turns : List Turned) (place : ℕ) (goals_are : map (λ t. t.goal) turns ≡ take place kinds)
    (before : Turns c [] (meanings c (take place kinds)) start (map (λ t. t.actions) turns)) (belongs : Belongs c start) where
  pub is_plan : (trace : Trace) (end : Lists) → trace.turns.items ≡ turns → trace.planned ≡ true → length kinds ≤ place
      → end ≡ after_turns (map (λ t. t.actions) turns) start → Belongs c end
      → IsPlan (record { case = c; start = start; goals = kinds; trace = trace; end = end })
  is_plan trace end turns_are planned l end_is end_belongs = record {
    planned_is = planned;
    in_order = rw turns_are (goals_are ∙ take_all place kinds l);
    planned = record { each = rw (turns_are, ← take_all place kinds l) before };
    end_is = rw turns_are end_is;
    start_belongs = belongs;
    end_belongs = end_belongs;
  }

  module _ (d kind : GoalKind) (actions : List Action) (l : place < length kinds) (at : kind ≡ get_or kinds place d)
      (here : Turn c (meanings c (take place kinds)) (meaning_of kind c) (after_turns (map (λ t. t.actions) turns) start) actions) where
    abbrev last : Turned
    last = record { goal = kind; actions = actions }

    pub goals_more : map (λ t. t.goal) (turns ++ last ∷ []) ≡ take (place + 1) kinds
    goals_more = rw (map-append (λ t. t.goal) turns (last ∷ []), goals_are, take_more kinds place d l, ← at) refl

    pub actions_more : map (λ t. t.actions) (turns ++ last ∷ []) ≡ map (λ t. t.actions) turns ++ actions ∷ []
    actions_more = map-append (λ t. t.actions) turns (last ∷ [])

    pub turns_more : (IsTrue (meaning_of kind c).hard → measure (meaning_of kind c) (after_all actions (after_turns (map (λ t. t.actions) turns) start)) ≡ 0)
        → Turns c [] (meanings c (take (place + 1) kinds)) start (map (λ t. t.actions) (turns ++ last ∷ []))
    turns_more met = rw actions_more (planned_more (λ k. meaning_of k c) kinds place d kind l at c start (map (λ t. t.actions) turns) actions before here met)

    -- the actions are still the first ones
    pub firsts_more : FirstTurns c [] (meanings c kinds) start (map (λ t. t.actions) turns)
        → FirstSteps c (meanings c (take place kinds)) (meaning_of kind c) (after_turns (map (λ t. t.actions) turns) start) actions
        → FirstTurns c [] (meanings c kinds) start (map (λ t. t.actions) (turns ++ last ∷ []))
    firsts_more f s =
        let count : length (map (λ (t : Turned). t.actions) turns) ≡ place =
        length-map turns (λ (t : Turned). t.actions) ∙ sym (length-map turns (λ (t : Turned). t.goal)) ∙ ap length goals_are ∙ length-take-le place kinds (omega arith) in
        let within : length (map (λ (t : Turned). t.actions) turns) < length (meanings c kinds) = omega (arith, l, count, length-map kinds (λ k. meaning_of k c)) in
        let here_is : meaning_of kind c ≡ get_or (meanings c kinds) (length (map (λ (t : Turned). t.actions) turns)) (meaning_of kind c) =
        rw count (ap (λ k. meaning_of k c) at ∙ sym (get_or-map (λ k. meaning_of k c) kinds place d (meaning_of kind c) l)) in
        rw actions_more
        (turns-push c [] (meanings c kinds) start (map (λ (t : Turned). t.actions) turns) actions (meaning_of kind c) within here_is f (rw (count, take-map (λ k. meaning_of k c) place kinds) s))

    pub is_failure : (trace : Trace) (left : ℕ) → trace.turns.items ≡ turns ++ last ∷ [] → trace.planned ≡ false → IsTrue (meaning_of kind c).hard
        → left ≡ measure (meaning_of kind c) (after_all actions (after_turns (map (λ t. t.actions) turns) start)) → 0 < left
        → IsFailure (record { case = c; start = start; goals = kinds; trace = trace; left = left })
    is_failure trace left turns_are unplanned hard is above = record {
      unplanned = unplanned;
      untried = drop (place + 1) kinds;
      in_order = rw (turns_are, goals_more) (sym (take-append-drop (place + 1) kinds));
      place = place;
      place_is = rw (turns_are, ← length-map (turns ++ last ∷ []) (λ t. t.goal), goals_more, length-take (place + 1) kinds) (omega arith);
      failed = rw (turns_are, actions_more) (failed_here (λ k. meaning_of k c) kinds place d kind l at c start (map (λ t. t.actions) turns) actions before here left hard is above);
      start_belongs = belongs;
    }
