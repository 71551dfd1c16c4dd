use Rattle.plan_terms.proofs.SameLemmas.{SameLoads-refl}
use Rattle.std.proofs.Common.{◌≡◌, ◌<◌, ◌∙◌, length, refl, sym, ap, arith}
use Rattle.std.proofs.lemmas.Bool.{false≢true}
use Rattle.std.proofs.lemmas.List.{length-take-le}
use Rattle.std.proofs.lemmas.Option.{slice_get_within}
use Rattle.goal_set.proofs.Fronts.{same_length}
use Rattle.goal_set.specs.AnyMeaning.{any_meaning}
use Rattle.goal_set.specs.Kinds.{meaning_of}
use Rattle.plan_terms.specs.Belongs.{Book}
use Rattle.plan_check.specs.Ends.{IsTurnEnd}
use Rattle.plan_check.specs.Judged.{Checked, IsTurnOf, goals_before, lists_at}
use Rattle.plan_check.specs.declared.checker.TurnEnd.{TurnEnd}
use Rattle.plan_check.specs.declared.checker.TurnEnd.TheVariants as end
use Rattle.plan_check.proofs.Places.{good_before-none, turn_of, turn_end, wrong_goal, good_before-more, lists_at-more, wrong_turn, not_stopped, good_failure}
use Rattle.plan_check.proofs.checker.judge_turns.Given.{Over}
use Rattle.plan_check.proofs.checker.judge_turns.Goals as goal
use Rattle.plan_check.proofs.checker.judge_turns.Goals.{Else-not-is_goal_at, In_ok-next}

-- the goal of the list was made
within : (g : Over) (c : Else-not-is_goal_at g) → c.loop-place.place < length c.args.goals.now
within g c =
    rw (same_length (λ g. any_meaning g c.args.case.now) (λ k. meaning_of k c.args.case.now) c.args.goals.now c.args.kinds.now c.requires.meanings)
    (slice_get_within c.args.kinds.now c.loop-place.place c.turn-item.result.goal (c.is_goal_at.ensures.0 c.if-not-is_goal_at.false))

-- what is checked, the turn at this place, and what its test says
abbrev checked : (g : Over) → In_ok-next g → Checked
checked g c = record { case = c.args.case.now; start = c.args.start.now; goals = c.args.kinds.now; trace = c.args.trace.now }

turn_is : (g : Over) (c : In_ok-next g) → IsTurnOf (checked g c) c.loop-place.place c.turn-item.result.goal c.turn-item.result.actions
turn_is g c =
    turn_of (checked g c) c.loop-place.place c.turn-item.result c.loop-place.invariant.before
    (rw c.deref-turn-items.ensures.value at c.loop-place-test.true) (rw c.deref-turn-items.ensures.value at c.turn-item.is) (c.is_goal_at.ensures.0 c.if-not-is_goal_at.false)

ended : (g : Over) (c : In_ok-next g) (r : TurnEnd) → c.in_ok-next.field-0 ≡ r
    → IsTurnEnd c.args.case.now (goals_before (checked g c) c.loop-place.place) (meaning_of c.turn-item.result.goal c.args.case.now)
    (lists_at (checked g c) c.loop-place.place) c.turn-item.result.actions r
ended g c r e =
    turn_end (checked g c) c.args.goals.now c.requires.meanings c.loop-place.place c.index-goals-place.result c.turn-item.result.goal c.loop-place.book.lists c.turn-item.result.actions r
    c.index-goals-place.is (c.is_goal_at.ensures.0 c.if-not-is_goal_at.false) c.loop-place.invariant.lists_are (rw (e, c.as_slice-actions.ensures) at c.in_ok-next.ensures)

pub loop-place-init : goal.loop-place-init
loop-place-init g c = record {
  before = good_before-none _;
  lists_are = ap (λ (b : Book). b.lists) c.in_ok-book.ensures;
  belongs = rw c.in_ok-book.ensures (record { same_loads = SameLoads-refl _; lists_belong = c.requires.belongs });
}

pub returns-then-not-is_goal_at : goal.returns-then-not-is_goal_at
returns-then-not-is_goal_at g c =
    rw c.fault.ensures
    (wrong_goal (record { case = c.args.case.now; start = c.args.start.now; goals = c.args.kinds.now; trace = c.args.trace.now }) c.loop-place.place c.turn-item.result c.loop-place.invariant.before
    (rw c.deref-turn-items.ensures.value at c.loop-place-test.true) (rw c.deref-turn-items.ensures.value at c.turn-item.is) (λ e. false≢true (c.if-not-is_goal_at.ensures.1 e)))

pub slice_bounds-earlier-end : goal.slice_bounds-earlier-end
slice_bounds-earlier-end g c = let l = within g c in sym (length-take-le c.loop-place.place c.args.goals.now (omega arith))

pub bounds-goals-place : goal.bounds-goals-place
bounds-goals-place g c = within g (goal.at.bounds-goals-place g c).Else-not-is_goal_at

pub judge_turn-requires-clause-made_goal : goal.judge_turn-requires-clause-made_goal
judge_turn-requires-clause-made_goal g c = λ _ _.
    rw (← c.index-goals-place.is) at
    (c.requires.made c.loop-place.place c.index-goals-place.result (within g (goal.at.judge_turn-requires-clause-made_goal g c).Else-not-is_goal_at))

pub returns-in-Broken : goal.returns-in-Broken
returns-in-Broken g c =
    let j = (goal.at.returns-in-Broken g c).In_ok-next in
    let fails = c.fails_at.ensures.0 c.if-fails_at.true in
    good_failure (checked g j) _ _ _ (turn_is g j) (ended g j end.Broken c.in-Broken.is) fails.0 fails.1 c.requires.belongs

pub returns-in-Broken-2 : goal.returns-in-Broken-2
returns-in-Broken-2 g c =
    let j = (goal.at.returns-in-Broken-2 g c).In_ok-next in
    rw (c.fault-in-Broken-2.ensures, c.as_slice-actions.ensures)
    (not_stopped (checked g j) _ _ _ (turn_is g j) (ended g j end.Broken c.in-Broken-2.is) (λ h. false≢true (sym c.if-fails_at.false ∙ c.fails_at.ensures.1 h)))

pub returns-in-Fault : goal.returns-in-Fault
returns-in-Fault g c =
    let j = (goal.at.returns-in-Fault g c).In_ok-next in
    rw c.fault-in-Fault.ensures (wrong_turn (checked g j) _ _ _ (turn_is g j) _ _ (ended g j (end.Fault c.in-Fault.action c.in-Fault.kind) c.in-Fault.is))

pub loop-place-preserved : goal.loop-place-preserved
loop-place-preserved g c =
    let j = (goal.at.loop-place-preserved g c).In_ok-next in
    let done = ended g j (end.Done c.in-Done.next) c.in-Done.is in
    record {
      before = good_before-more (checked g j) _ _ _ (turn_is g j) done.turn done.met;
      lists_are = done.lists_are ∙ sym (lists_at-more (checked g j) _ _ _ (turn_is g j));
      belongs = done.belongs;
    }
