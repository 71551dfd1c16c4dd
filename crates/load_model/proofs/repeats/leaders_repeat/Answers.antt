use Rattle.std.proofs.Common.{◌≡◌, ◌∙◌, ap, sym, true, false, take, map}
use Rattle.std.specs.List.{list_any}
use Rattle.std.specs.Prelude.{option_map}
use Rattle.plan_terms.specs.Faults.{leaders_repeat, same_topic}
use Rattle.plan_terms.specs.declared.faults.CaseFault.TheVariants.{DuplicateMinLeaders}
use Rattle.load_model.proofs.Listed.{true_from_not, false_from_not}
use Rattle.load_model.proofs.Repetition.{same_text, any_topic, topics_more, repeat_from-here, repeat_from-next}
use Rattle.load_model.proofs.repeats.leaders_repeat.Goals as goal

pub returns-then-not-branch : goal.returns-then-not-branch
unfolding leaders_repeat
returns-then-not-branch c =
    let m = c.index-min_leaders-i.result in
    let has : list_any (same_topic m) (take c.loop-i.i c.args.min_leaders.now) ≡ true = sym (any_topic c.as_str.result _ m _ c.as_str.ensures c.loop-i.invariant.topics_are) ∙ true_from_not _ (sym c.in_ok-insert.ensures.added ∙ c.if-not-branch.true) in
    sym (ap (option_map DuplicateMinLeaders) (sym c.loop-i.invariant.rest ∙ repeat_from-here same_topic _ _ m c.loop-i-test.true c.index-min_leaders-i.is has))

pub loop-i-preserved : goal.loop-i-preserved
loop-i-preserved c =
    let m = c.index-min_leaders-i.result in
    let lacks : list_any (same_text c.as_str.result) c.loop-i.seen.keys ≡ false = false_from_not _ (sym c.in_ok-insert.ensures.added ∙ c.if-not-branch.false) in
    let new = sym (any_topic c.as_str.result _ m _ c.as_str.ensures c.loop-i.invariant.topics_are) ∙ lacks in
    record {
      topics_are = ap (map (λ k. k.now)) c.in_ok-insert.ensures.keys ∙ topics_more _ _ _ m c.as_str.result c.loop-i-test.true c.index-min_leaders-i.is c.as_str.ensures c.loop-i.invariant.topics_are lacks;
      rest = repeat_from-next same_topic _ _ m c.loop-i-test.true c.index-min_leaders-i.is new ∙ c.loop-i.invariant.rest;
    }
