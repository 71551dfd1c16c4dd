use Rattle.std.proofs.Common.{◌∙◌, length, ap, arith}
use Rattle.core_terms.specs.Asked.{part_asked}
use Rattle.core_cases.proofs.Changed.{parts_step}
use Rattle.core_cases.proofs.asked.ask_parts.Goals as goal

pub loop-place-preserved : goal.loop-place-preserved
loop-place-preserved c = record {
  long = c.ask_part.ensures.long ∙ c.loop-place.invariant.long;
  asked = λ ask h. parts_step c.args.case.now c.loop-place.case c.ask_part.new.case c.loop-place.place (part_asked ask) (omega (arith, ap length c.parts-end.ensures.value))
      (c.loop-place.invariant.asked ask h) (c.ask_part.ensures.one ask h);
}
