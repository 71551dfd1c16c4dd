use Rattle.plan_terms.proofs.SameLemmas.{SameLoads-refl}
use Rattle.std.proofs.Common.{[], ℕ, ◌≤◌, ◌≡◌, sym, ◌∙◌, ap, refl, arith, get_or}
use Rattle.std.proofs.lemmas.Bool.{false≢true}
use Rattle.std.proofs.lemmas.List.{length-take-le}
use Rattle.plan_terms.specs.Belongs.{Book}
use Rattle.plan_terms.proofs.Runs.{Turns-nil, after_turns-push}
use Rattle.goal_set.specs.AnyMeaning.{any_meaning}
use Rattle.goal_set.specs.Kinds.{meaning_of, meanings}
use Rattle.goal_optimizer.proofs.Firsts.{turns-nil}
use Rattle.goal_set.specs.declared.kinds.GoalKind.TheVariants.{Evacuation}
use Rattle.goal_optimizer.proofs.Outcomes.{is_plan, goals_more, actions_more, turns_more, firsts_more, is_failure}
use Rattle.goal_set.proofs.Fronts.{same_length, same_front, same_at}
use Rattle.goal_optimizer.proofs.optimiser.take_turns.Goals as goal
use Rattle.goal_optimizer.proofs.optimiser.take_turns.Goals.{else-is_hard-via-then-is_hard+else-left-gt0, else-is_hard-via-else-is_hard}

pub loop-place-init : goal.loop-place-init
loop-place-init g c = record {
  turns_are = rw c.new-turns.ensures.items (Turns-nil _ _ _);
  goals_are = rw c.new-turns.ensures.items refl;
  book_is = rw c.new-turns.ensures.items (ap (λ (b : Book). b.lists) c.in_ok-book.ensures);
  belongs = rw c.in_ok-book.ensures (record { same_loads = SameLoads-refl _; lists_belong = c.requires.belongs });
  firsts = rw c.new-turns.ensures.items (turns-nil c.args.case.now [] (meanings c.args.case.now c.args.kinds.now) c.args.start.now);
  order_is = c.in_ok-order.ensures;
  case_is = ap (λ (b : Book). b.cluster) c.in_ok-book.ensures;
}

pub bounds-goals-place : goal.bounds-goals-place
bounds-goals-place g c =
    let same = same_length (λ g. any_meaning g c.args.case.now) (λ k. meaning_of k c.args.case.now) c.args.goals.now c.args.kinds.now c.requires.meanings in
    omega (arith, same, c.loop-place-test.true)

pub slice_bounds-take_turn-end : goal.slice_bounds-take_turn-end
slice_bounds-take_turn-end g c =
    let same = same_length (λ g. any_meaning g c.args.case.now) (λ k. meaning_of k c.args.case.now) c.args.goals.now c.args.kinds.now c.requires.meanings in
    sym (length-take-le c.loop-place.place c.args.goals.now (omega (arith, same, c.loop-place.auto.place-end)))

pub take_turn-requires-clause-made_goal : goal.take_turn-requires-clause-made_goal
take_turn-requires-clause-made_goal g c = λ _ _.
    let same = same_length (λ g. any_meaning g c.args.case.now) (λ k. meaning_of k c.args.case.now) c.args.goals.now c.args.kinds.now c.requires.meanings in
    rw (← c.index-goals-place.is) at (c.requires.made c.loop-place.place c.index-goals-place.result (omega (arith, same, c.loop-place-test.true)))

pub measure-left-requires-clause-made : goal.measure-left-requires-clause-made
measure-left-requires-clause-made g c =
    let same = same_length (λ g. any_meaning g c.args.case.now) (λ k. meaning_of k c.args.case.now) c.args.goals.now c.args.kinds.now c.requires.meanings in
    rw (← c.index-goals-place.is) at (c.requires.made c.loop-place.place c.index-goals-place.result (omega (arith, same, c.loop-place-test.true)))

pub is_hard-requires : goal.is_hard-requires
is_hard-requires g c =
    let same = same_length (λ g. any_meaning g c.args.case.now) (λ k. meaning_of k c.args.case.now) c.args.goals.now c.args.kinds.now c.requires.meanings in
    rw (← c.index-goals-place.is) at (c.requires.made c.loop-place.place c.index-goals-place.result (omega (arith, same, c.loop-place-test.true)))

pub returns-then-left-gt0-clause-outcome : goal.returns-then-left-gt0-clause-outcome
returns-then-left-gt0-clause-outcome g c =
    let front = same_front (λ g. any_meaning g c.args.case.now) (λ k. meaning_of k c.args.case.now) c.args.goals.now c.args.kinds.now c.requires.meanings c.loop-place.place in
    let here = same_at (λ g. any_meaning g c.args.case.now) (λ k. meaning_of k c.args.case.now) c.args.goals.now c.args.kinds.now c.requires.meanings
    c.loop-place.place c.index-goals-place.result Evacuation (get_or c.args.kinds.now c.loop-place.place Evacuation) c.loop-place-test.true c.index-goals-place.is refl in
    is_failure c.args.case.now c.args.start.now c.args.kinds.now c.loop-place.turns.items c.loop-place.place
    c.loop-place.invariant.goals_are c.loop-place.invariant.turns_are c.requires.belongs Evacuation _ c.in_ok-actions.actions c.loop-place-test.true refl
    (rw (front, here, c.loop-place.invariant.book_is) at c.in_ok-actions.ensures.turn)
    _ c.measure-left.result c.in_ok-push.ensures.items refl
    (rw here at (sym c.if-is_hard.ensures))
    (rw (here, c.in_ok-actions.ensures.end, c.loop-place.invariant.book_is) at c.measure-left.ensures.value) c.if-left-gt0.true

pub returns-then-left-gt0-clause-firsts : goal.returns-then-left-gt0-clause-firsts
returns-then-left-gt0-clause-firsts g c =
    let front = same_front (λ g. any_meaning g c.args.case.now) (λ k. meaning_of k c.args.case.now) c.args.goals.now c.args.kinds.now c.requires.meanings c.loop-place.place in
    let here = same_at (λ g. any_meaning g c.args.case.now) (λ k. meaning_of k c.args.case.now) c.args.goals.now c.args.kinds.now c.requires.meanings
    c.loop-place.place c.index-goals-place.result Evacuation (get_or c.args.kinds.now c.loop-place.place Evacuation) c.loop-place-test.true c.index-goals-place.is refl in
    record {
      each = rw c.in_ok-push.ensures.items
          (firsts_more c.args.case.now c.args.start.now c.args.kinds.now c.loop-place.turns.items c.loop-place.place
          c.loop-place.invariant.goals_are c.loop-place.invariant.turns_are c.requires.belongs Evacuation _ c.in_ok-actions.actions c.loop-place-test.true refl
          (rw (front, here, c.loop-place.invariant.book_is) at c.in_ok-actions.ensures.turn) c.loop-place.invariant.firsts
          (rw (front, here, c.loop-place.invariant.book_is) at c.in_ok-actions.ensures.firsts));
    }

pub returns-clause-firsts : goal.returns-clause-firsts
returns-clause-firsts g c = record { each = c.loop-place.invariant.firsts }

zero_from : (n : ℕ) → n ≤ 0 → n ≡ 0
zero_from n h = omega arith

pub loop-place-preserved : goal.loop-place-preserved
loop-place-preserved g c =
    let front = same_front (λ g. any_meaning g c.args.case.now) (λ k. meaning_of k c.args.case.now) c.args.goals.now c.args.kinds.now c.requires.meanings c.loop-place.place in
    let here = same_at (λ g. any_meaning g c.args.case.now) (λ k. meaning_of k c.args.case.now) c.args.goals.now c.args.kinds.now c.requires.meanings
    c.loop-place.place c.index-goals-place.result Evacuation (get_or c.args.kinds.now c.loop-place.place Evacuation) c.loop-place-test.true c.index-goals-place.is refl in
    let turn = rw (front, here, c.loop-place.invariant.book_is) at c.in_ok-actions.ensures.turn in
    record {
      turns_are =
          let left_is = rw (here, c.in_ok-actions.ensures.end, c.loop-place.invariant.book_is) at c.measure-left.ensures.value in
          rw c.in_ok-push.ensures.items
          (turns_more c.args.case.now c.args.start.now c.args.kinds.now c.loop-place.turns.items c.loop-place.place
          c.loop-place.invariant.goals_are c.loop-place.invariant.turns_are c.requires.belongs Evacuation _ c.in_ok-actions.actions c.loop-place-test.true refl turn
          (λ hard. elim c.else-is_hard.branch [
            | else-is_hard-via-then-is_hard+else-left-gt0 w ↦ sym left_is ∙ zero_from _ w.if-left-gt0.false
            | else-is_hard-via-else-is_hard w ↦ absurd (false≢true (rw here at w.if-is_hard.ensures ∙ hard))
          ]));
      goals_are =
          rw c.in_ok-push.ensures.items
          (goals_more c.args.case.now c.args.start.now c.args.kinds.now c.loop-place.turns.items c.loop-place.place
          c.loop-place.invariant.goals_are c.loop-place.invariant.turns_are c.requires.belongs Evacuation _ c.in_ok-actions.actions c.loop-place-test.true refl turn);
      book_is =
          rw (
            c.in_ok-push.ensures.items,
            actions_more c.args.case.now c.args.start.now c.args.kinds.now c.loop-place.turns.items c.loop-place.place
                c.loop-place.invariant.goals_are c.loop-place.invariant.turns_are c.requires.belongs Evacuation _ c.in_ok-actions.actions c.loop-place-test.true refl turn,
            after_turns-push,
            ← c.loop-place.invariant.book_is,
          ) c.in_ok-actions.ensures.end;
      belongs = c.in_ok-actions.ensures.belongs;
      firsts =
          rw c.in_ok-push.ensures.items
          (firsts_more c.args.case.now c.args.start.now c.args.kinds.now c.loop-place.turns.items c.loop-place.place
          c.loop-place.invariant.goals_are c.loop-place.invariant.turns_are c.requires.belongs Evacuation _ c.in_ok-actions.actions c.loop-place-test.true refl turn
          c.loop-place.invariant.firsts (rw (front, here, c.loop-place.invariant.book_is) at c.in_ok-actions.ensures.firsts));
      order_is = c.in_ok-actions.ensures.order;
      case_is = c.in_ok-actions.ensures.case ∙ c.loop-place.invariant.case_is;
    }

pub returns-clause-outcome : goal.returns-clause-outcome
returns-clause-outcome g c =
    is_plan c.args.case.now c.args.start.now c.args.kinds.now c.loop-place.turns.items c.loop-place.place
    c.loop-place.invariant.goals_are c.loop-place.invariant.turns_are c.requires.belongs _ c.into_parts-case-2.result.1 refl refl c.loop-place-test.false
    (rw c.into_parts-case-2.ensures.lists c.loop-place.invariant.book_is) (rw c.into_parts-case-2.ensures.lists c.loop-place.invariant.belongs.lists_belong)
