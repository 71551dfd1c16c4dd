use Rattle.std.proofs.Common.{◌∙◌, length, ap, arith}
use Rattle.metric_windows.specs.Samples.{load_of}
use Rattle.core_cases.proofs.LoadLemmas.{loaded-step, loaded-all}
use Rattle.core_cases.proofs.loads.load_parts.Goals as goal

pub loop-part-preserved : goal.loop-part-preserved
loop-part-preserved c = record {
  long = c.load_part.ensures.long ∙ c.loop-part.invariant.long;
  loads = λ samples h. loaded-step c.args.case.now c.loop-part.case c.load_part.new.case c.args.windows.now.rules samples c.loop-part.part
      (c.loop-part.invariant.loads samples h) (c.load_part.ensures.loads samples h) (omega (arith, ap length c.parts-end.ensures.value));
}

pub returns-clause-loads : goal.returns-clause-loads
returns-clause-loads c = λ samples h. loaded-all c.args.case.now c.loop-part.case (load_of c.args.windows.now.rules samples) c.loop-part.part (omega (arith, ap length c.parts-end.ensures.value)) (c.loop-part.invariant.loads samples h)
