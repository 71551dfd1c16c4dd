use Rattle.plan_terms.proofs.SameLemmas.{SameLoads-by}
use Rattle.std.proofs.Common.{◌∙◌, refl, sym, arith, inl, inr}
use Rattle.std.proofs.lemmas.Bool.{false≢true}
use Rattle.std.proofs.lemmas.List.{take_all, take_more}
use Rattle.std.proofs.lemmas.Option.{slice_get-get_or}
use Rattle.plan_terms.specs.declared.actions.Action.TheVariants.{Move}
use Rattle.plan_terms.proofs.EffectLemmas.{Belongs-legal}
use Rattle.plan_terms.proofs.Runs.{Steps-nil, Steps-push, after_all-push}
use Rattle.plan_check.proofs.checker.judge_turn.Goals as goal

pub loop-place-init : goal.loop-place-init
loop-place-init g c = record { steps = Steps-nil _ _ _ _; lists_are = refl; belongs = c.requires.belongs }

pub returns-in-Some : goal.returns-in-Some
returns-in-Some g c = inl (record {
  here = _;
  action_is = slice_get-get_or c.args.actions.now c.loop-place.place (Move 0 0 0) c.loop-place-test.true;
  steps = c.loop-place.invariant.steps;
  fault = rw c.loop-place.invariant.lists_are at c.in-Some.ensures;
})

pub loop-place-preserved : goal.loop-place-preserved
loop-place-preserved g c =
    let step = rw c.in_default.is at c.action_fault.ensures in
    let more = take_more c.args.actions.now c.loop-place.place (Move 0 0 0) c.loop-place-test.true in
    record {
      steps = rw more (Steps-push _ _ _ _ _ _ c.loop-place.invariant.steps (rw c.loop-place.invariant.lists_are at step));
      lists_are = rw (more, after_all-push, ← c.loop-place.invariant.lists_are) c.take_step.ensures.lists;
      belongs = record {
        same_loads = SameLoads-by _ _ _ c.take_step.ensures.cluster c.loop-place.invariant.belongs.same_loads;
        lists_belong = rw c.take_step.ensures.lists (Belongs-legal _ _ _ c.loop-place.invariant.belongs.lists_belong step.legal);
      };
    }

pub returns-in-Some-left : goal.returns-in-Some-left
returns-in-Some-left g c =
    let all = take_all c.loop-place.place c.args.actions.now c.loop-place-test.false in
    inr (record {
      kind_is = refl;
      all = refl;
      steps = rw all at c.loop-place.invariant.steps;
      left = _;
      step = rw (c.in-Some-left.is, c.loop-place.invariant.lists_are, all) at c.in_ok-left.ensures;
    })

pub returns-in-None : goal.returns-in-None
returns-in-None g c =
    let all = take_all c.loop-place.place c.args.actions.now c.loop-place-test.false in
    let value = rw (c.loop-place.invariant.lists_are, all) at c.measure.ensures.value in
    record {
      steps = rw all at c.loop-place.invariant.steps;
      none_left = rw (c.in-None.is, c.loop-place.invariant.lists_are, all) at c.in_ok-left.ensures;
      hard = sym c.if-is_hard.ensures;
      above = omega arith;
    }

pub returns-in-None-2 : goal.returns-in-None-2
returns-in-None-2 g c =
    let all = take_all c.loop-place.place c.args.actions.now c.loop-place-test.false in
    record {
      turn = record {
        steps = rw all at c.loop-place.invariant.steps;
        finished = inr (rw (c.in-None-2.is, c.loop-place.invariant.lists_are, all) at c.in_ok-left.ensures);
      };
      met = λ hard. absurd (false≢true (c.if-is_hard.ensures ∙ hard));
      lists_are = rw all at c.loop-place.invariant.lists_are;
      belongs = c.loop-place.invariant.belongs;
    }
