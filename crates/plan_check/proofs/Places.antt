-- What the tests of one place of a trace say of the trace.
use Rattle.std.proofs.Common.{◌≡◌, ℕ, ◌+◌, ◌<◌, ◌≤◌, ◌∙◌, true, false, List, [], ◌∷◌, ◌++◌, length, take, drop, get_or, map, refl, ap, sym, subst, arith, inl, inr}
use Rattle.std.specs.Prelude.{◌⊎◌, IsTrue, Some, slice_get, option_map}
use Rattle.std.proofs.lemmas.Bool.{cases_Bool}
use Rattle.std.proofs.lemmas.List.{take_all, take_more, take-append-drop, length-map}
use Rattle.std.proofs.lemmas.Option.{none-some, slice_get-map, slice_get_within, slice_get_read, slice_get_past, slice_get-get_or, get_or_from_slice_get}
use Rattle.plan_terms.specs.Belongs.{Belongs}
use Rattle.plan_terms.specs.Cluster.{Lists}
use Rattle.plan_terms.specs.Effect.{after_all}
use Rattle.plan_terms.specs.Goal.{Meaning, measure}
use Rattle.plan_terms.specs.Trace.{Turn, Turns}
use Rattle.plan_terms.specs.declared.actions.Action.{Action}
use Rattle.plan_terms.proofs.Runs.{Turns-nil, after_turns-push}
use Rattle.goal_set.proofs.Fronts.{same_front, same_at}
use Rattle.goal_set.proofs.PlanSteps.{planned_more, failed_here}
use Rattle.goal_set.specs.AnyMeaning.{any_meaning}
use Rattle.goal_set.specs.Kept.{actions_of, kinds_of}
use Rattle.goal_set.specs.Kinds.{meaning_of, meanings}
use Rattle.goal_set.specs.declared.any.AnyGoal.{AnyGoal}
use Rattle.goal_set.specs.declared.kinds.GoalKind.{GoalKind}
use Rattle.goal_set.specs.declared.kinds.GoalKind.TheVariants as goal_kind
use Rattle.goal_set.specs.declared.trace.Turned.{Turned}
use Rattle.plan_check.specs.Ends.{IsActionFault, IsBroken, IsUnfinished, IsTurnEnd, IsWrongAction}
use Rattle.plan_check.specs.Judged.{Checked, IsGood, IsGoodBefore, IsTurnOf, IsActionOf, IsFirstFault, IsNotStopped, IsNotPlanned, Judges, lists_at, goals_before}
use Rattle.plan_check.specs.declared.checker.TurnEnd.{TurnEnd}
use Rattle.plan_check.specs.declared.faults.FaultKind.{FaultKind}
use Rattle.plan_check.specs.declared.faults.FaultKind.TheVariants as kind
use Rattle.plan_check.specs.declared.faults.Verdict.TheVariants as verdict
use Rattle.plan_check.proofs.NotGood.{not_good}
use Rattle.plan_check.proofs.TurnLemmas.{Belongs-Turns}

-- the first elements and the next
one_more : {X : Type 0} (xs : List X) (n : ℕ) (x : X) → slice_get xs n ≡ Some x → take (n + 1) xs ≡ take n xs ++ x ∷ []
one_more xs n x e = take_more xs n x (slice_get_within xs n x e) ∙ ap (λ (y : _). take n xs ++ y ∷ []) (get_or_from_slice_get xs n x x e)

module _ (x : Checked) where
  pub good_before-none : IsGoodBefore x 0
  good_before-none = record { there = omega arith; goals_are = refl; turns_are = Turns-nil x.case [] x.start }

  pub turn_of : (n : ℕ) (t : Turned) → IsGoodBefore x n → n < length x.trace.turns.items → t ≡ get_or x.trace.turns.items n t → slice_get x.goals n ≡ Some t.goal
      → IsTurnOf x n t.goal t.actions
  turn_of n t before l e goal =
      let here = slice_get_read x.trace.turns.items (length x.trace.turns.items) n t refl l e in
      record {
        before = before;
        goal_is = goal;
        kind_is = slice_get-map (λ (u : Turned). u.goal) x.trace.turns.items n ∙ ap (option_map (λ (u : Turned). u.goal)) here;
        actions_are = slice_get-map (λ (u : Turned). u.actions) x.trace.turns.items n ∙ ap (option_map (λ (u : Turned). u.actions)) here;
      }

  -- what the test of turn n says, by the goals of the list
  pub turn_end : (made : List AnyGoal) → map (λ g. any_meaning g x.case) made ≡ meanings x.case x.goals
      → (n : ℕ) (g : AnyGoal) (k : GoalKind) (lists : Lists) (actions : List Action) (r : TurnEnd)
      → g ≡ get_or made n g → slice_get x.goals n ≡ Some k → lists ≡ lists_at x n
      → IsTurnEnd x.case (map (λ h. any_meaning h x.case) (take n made)) (any_meaning g x.case) lists actions r
      → IsTurnEnd x.case (goals_before x n) (meaning_of k x.case) (lists_at x n) actions r
  turn_end made same n g k lists actions r e here lists_are h =
      let meaning_is = same_at (λ h'. any_meaning h' x.case) (λ j. meaning_of j x.case) made x.goals same n g k k (slice_get_within x.goals n k here) e (sym (get_or_from_slice_get x.goals n k k here)) in
      let earlier_are = same_front (λ h'. any_meaning h' x.case) (λ j. meaning_of j x.case) made x.goals same n in
      subst (λ (m : Meaning). IsTurnEnd x.case (goals_before x n) m (lists_at x n) actions r) meaning_is
      (subst (λ (ms : List Meaning). IsTurnEnd x.case ms (any_meaning g x.case) (lists_at x n) actions r) earlier_are
      (subst (λ (ls : Lists). IsTurnEnd x.case (map (λ (h' : AnyGoal). any_meaning h' x.case) (take n made)) (any_meaning g x.case) ls actions r) lists_are h))

  -- turn n is there, and of another goal, or there is no n-th
  pub wrong_goal : (n : ℕ) (t : Turned) → IsGoodBefore x n → n < length x.trace.turns.items → t ≡ get_or x.trace.turns.items n t → (slice_get x.goals n ≡ Some t.goal → ⊥)
      → Judges x (verdict.Fault n 0 kind.WrongGoal)
  wrong_goal n t before l e other =
      let here = slice_get_read x.trace.turns.items (length x.trace.turns.items) n t refl l e in
      let kind_is = slice_get-map (λ (u : Turned). u.goal) x.trace.turns.items n ∙ ap (option_map (λ (u : Turned). u.goal)) here in
      let fault : IsFirstFault x n 0 kind.WrongGoal = record { before = before; at_start = refl; differs = λ same. other (sym same ∙ kind_is) } in
      (fault, not_good x n 0 kind.WrongGoal fault)

  -- turn n is there, and of the n-th goal
  module _ (n : ℕ) (g : GoalKind) (actions : List Action) (t : IsTurnOf x n g actions) where
    within : n < length x.trace.turns.items
    within = rw length-map at (slice_get_within (actions_of x.trace) n actions t.actions_are)

    kinds-more : take (n + 1) (kinds_of x.trace) ≡ take (n + 1) x.goals
    kinds-more = one_more (kinds_of x.trace) n g t.kind_is ∙ ap (λ (ks : List GoalKind). ks ++ g ∷ []) t.before.goals_are ∙ sym (one_more x.goals n g t.goal_is)

    n<goals : n < length x.goals
    n<goals = slice_get_within x.goals n g t.goal_is

    at : g ≡ get_or x.goals n g
    at = sym (get_or_from_slice_get x.goals n g g t.goal_is)

    pub good_before-more : Turn x.case (goals_before x n) (meaning_of g x.case) (lists_at x n) actions
        → (IsTrue (meaning_of g x.case).hard → measure (meaning_of g x.case) (after_all actions (lists_at x n)) ≡ 0)
        → IsGoodBefore x (n + 1)
    good_before-more turn met = record {
      there = let l = within in omega arith;
      goals_are = kinds-more;
      turns_are =
          rw (one_more (actions_of x.trace) n actions t.actions_are)
          (planned_more (λ k. meaning_of k x.case) x.goals n g g n<goals at x.case x.start (take n (actions_of x.trace)) actions t.before.turns_are turn met);
    }

    pub lists_at-more : lists_at x (n + 1) ≡ after_all actions (lists_at x n)
    lists_at-more = rw (one_more (actions_of x.trace) n actions t.actions_are) (after_turns-push (take n (actions_of x.trace)) actions x.start)

    first_wrong : (a : ℕ) (k : FaultKind) → IsWrongAction x.case (goals_before x n) (meaning_of g x.case) (lists_at x n) actions a k → IsFirstFault x n a k
    first_wrong a k w = by_kind k w.fault where
      here : IsActionOf x n a g w.here (after_all (take a actions) (lists_at x n))
      here = record { actions = actions; turn = t; action_is = w.action_is; steps = w.steps; lists_are = refl }

      by_kind : (j : FaultKind) → IsActionFault x.case (goals_before x n) (meaning_of g x.case) (after_all (take a actions) (lists_at x n)) w.here j → IsFirstFault x n a j
      by_kind kind.WrongGoal fault = absurd fault
      by_kind kind.Illegal fault = record { goal = g; here = w.here; lists = _; action = here; illegal = fault }
      by_kind kind.NotAccepted fault = record { goal = g; here = w.here; lists = _; action = here; legal = fault.0; refused = fault.1 }
      by_kind kind.NotLessening fault = record { goal = g; here = w.here; lists = _; action = here; legal = fault.0; accepted = fault.1; idle = fault.2 }
      by_kind kind.NotFinished fault = absurd fault
      by_kind kind.WrongResult fault = absurd fault

    first_left : (a : ℕ) (k : FaultKind) → IsUnfinished x.case (goals_before x n) (meaning_of g x.case) (lists_at x n) actions a k → IsFirstFault x n a k
    first_left a k w = subst (λ (j : FaultKind). IsFirstFault x n a j) (sym w.kind_is) (record {
      goal = g;
      lists = after_all actions (lists_at x n);
      end = record { actions = actions; turn = t; all = w.all; steps = w.steps; lists_are = refl };
      left = w.left;
      step = w.step;
    })

    pub wrong_turn : (a : ℕ) (k : FaultKind)
        → IsWrongAction x.case (goals_before x n) (meaning_of g x.case) (lists_at x n) actions a k ⊎ IsUnfinished x.case (goals_before x n) (meaning_of g x.case) (lists_at x n) actions a k
        → Judges x (verdict.Fault n a k)
    wrong_turn a k w =
        let fault : IsFirstFault x n a k = elim w as (λ _. IsFirstFault x n a k) [ inl wrong ↦ first_wrong a k wrong | inr left ↦ first_left a k left ] in
        (fault, not_good x n a k fault)

    module _ (b : IsBroken x.case (goals_before x n) (meaning_of g x.case) (lists_at x n) actions) where
      pub not_stopped : ((x.trace.planned ≡ false) × (n + 1 ≡ length x.trace.turns.items) → ⊥) → Judges x (verdict.Fault n (length actions) kind.WrongResult)
      not_stopped not_failing = (inl fault, not_good x n (length actions) kind.WrongResult (inl fault)) where
        fault : IsNotStopped x n (length actions)
        fault = record {
          goal = g;
          lists = after_all actions (lists_at x n);
          end = record { actions = actions; turn = t; all = refl; steps = b.steps; lists_are = refl };
          none_left = b.none_left;
          hard = b.hard;
          broken = b.above;
          told = elim (cases_Bool x.trace.planned) as (λ _. (x.trace.planned ≡ true) ⊎ (n + 1 < length x.trace.turns.items)) [
            | inl planned ↦ inl planned
            | inr failed ↦ let l = within in let goes_on : n + 1 ≡ length x.trace.turns.items → ⊥ = λ e. not_failing (failed, e) in inr (omega arith)
          ];
        }

      pub good_failure : x.trace.planned ≡ false → n + 1 ≡ length x.trace.turns.items → Belongs x.case x.start → IsGood x
      good_failure failed last start_belongs =
          let all_actions : length (actions_of x.trace) ≤ n + 1 = rw length-map (omega arith) in
          let all_kinds : length (kinds_of x.trace) ≤ n + 1 = rw length-map (omega arith) in
          let turns_are : take n (actions_of x.trace) ++ actions ∷ [] ≡ actions_of x.trace =
          sym (one_more (actions_of x.trace) n actions t.actions_are) ∙ take_all (n + 1) (actions_of x.trace) all_actions in
          let goals_are : take (n + 1) x.goals ≡ kinds_of x.trace = sym kinds-more ∙ take_all (n + 1) (kinds_of x.trace) all_kinds in
          inr (
            _,
            record {
              unplanned = failed;
              untried = drop (n + 1) x.goals;
              in_order = sym (take-append-drop (n + 1) x.goals) ∙ ap (λ (ks : List GoalKind). ks ++ drop (n + 1) x.goals) goals_are;
              place = n;
              place_is = sym last;
              failed =
                  rw turns_are at
                  (failed_here (λ k. meaning_of k x.case) x.goals n g g n<goals at x.case x.start (take n (actions_of x.trace)) actions t.before.turns_are
                  (record { steps = b.steps; finished = inr b.none_left }) _ b.hard refl b.above);
              start_belongs = start_belongs;
            },
          )

  -- all turns are there and good
  module _ (before : IsGoodBefore x (length x.trace.turns.items)) where
    length-kinds : length (kinds_of x.trace) ≡ length x.trace.turns.items
    length-kinds = length-map x.trace.turns.items (λ (u : Turned). u.goal)

    length-actions : length (actions_of x.trace) ≡ length x.trace.turns.items
    length-actions = length-map x.trace.turns.items (λ (u : Turned). u.actions)

    pub goal_left : length x.trace.turns.items < length x.goals → Judges x (verdict.Fault (length x.trace.turns.items) 0 kind.WrongGoal)
    goal_left more = (fault, not_good x (length x.trace.turns.items) 0 kind.WrongGoal fault) where
      -- the goal stands there, and no turn does
      apart : (d : GoalKind) → slice_get (kinds_of x.trace) (length x.trace.turns.items) ≡ slice_get x.goals (length x.trace.turns.items) → ⊥
      apart d same =
          none-some (get_or x.goals (length x.trace.turns.items) d)
          (sym (slice_get_past (kinds_of x.trace) (length x.trace.turns.items) (omega (arith, length-kinds)))
          ∙ same ∙ slice_get-get_or x.goals (length x.trace.turns.items) d more)

      fault : IsFirstFault x (length x.trace.turns.items) 0 kind.WrongGoal
      fault = record { before = before; at_start = refl; differs = apart goal_kind.Evacuation }

    -- no goal is left
    module _ (end : length x.goals ≤ length x.trace.turns.items) where
      kinds_are : kinds_of x.trace ≡ x.goals
      kinds_are =
          let long : length (kinds_of x.trace) ≤ length x.trace.turns.items = omega (arith, length-kinds) in
          sym (take_all (length x.trace.turns.items) (kinds_of x.trace) long) ∙ before.goals_are ∙ take_all (length x.trace.turns.items) x.goals end

      pub not_planned : x.trace.planned ≡ false → Judges x (verdict.Fault (length x.trace.turns.items) 0 kind.WrongResult)
      not_planned failed = (inr fault, not_good x (length x.trace.turns.items) 0 kind.WrongResult (inr fault)) where
        fault : IsNotPlanned x (length x.trace.turns.items) 0
        fault = record { before = before; at_start = refl; no_turn = refl; no_goal = sym (ap length kinds_are) ∙ length-kinds; told = failed }

      pub good_plan : x.trace.planned ≡ true → Belongs x.case x.start → IsGood x
      good_plan planned start_belongs =
          let long : length (actions_of x.trace) ≤ length x.trace.turns.items = omega (arith, length-actions) in
          let all_actions = take_all (length x.trace.turns.items) (actions_of x.trace) long in
          let all_goals = take_all (length x.trace.turns.items) x.goals end in
          let each : Turns x.case [] (meanings x.case x.goals) x.start (actions_of x.trace) = rw (all_actions, all_goals) at before.turns_are in
          inl (record {
            planned_is = planned;
            in_order = kinds_are;
            planned = record { each = each };
            end_is = refl;
            start_belongs = start_belongs;
            end_belongs = Belongs-Turns x.case [] (meanings x.case x.goals) x.start (actions_of x.trace) start_belongs each;
          })
