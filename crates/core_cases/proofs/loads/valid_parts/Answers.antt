use Rattle.std.proofs.Common.{◌+◌, ◌∙◌, true, false, ap, sym, arith, add-zero}
use Rattle.core_terms.specs.Input.{has_loads}
use Rattle.metric_windows.proofs.Values.{count-more}
use Rattle.core_cases.proofs.loads.valid_parts.Goals as goal
use Rattle.core_cases.proofs.loads.valid_parts.Goals.{then-has_loads, else-has_loads}

pub loop-part-preserved : goal.loop-part-preserved
loop-part-preserved c =
    elim c.if-has_loads.branch [
      | then-has_loads w ↦ record {
        few = omega arith;
        counted = λ samples h. w.valid-is ∙ ap (λ v. v + 1) (c.loop-part.invariant.counted samples h)
            ∙ sym (count-more (has_loads c.args.file.now samples) c.loop-part.part true (sym (c.has_loads.ensures samples h) ∙ w.if-has_loads.true));
      }
      | else-has_loads w ↦ record {
        few = omega arith;
        counted = λ samples h. w.valid-is ∙ c.loop-part.invariant.counted samples h
            ∙ sym (count-more (has_loads c.args.file.now samples) c.loop-part.part false (sym (c.has_loads.ensures samples h) ∙ w.if-has_loads.false) ∙ add-zero _);
      }
    ]
