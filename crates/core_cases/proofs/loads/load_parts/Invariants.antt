use Rattle.std.proofs.Common.{◌≡◌, ◌++◌, List, length, take, drop}
use Rattle.plan_terms.specs.declared.settings.Sample.{Sample}
use Rattle.metric_windows.specs.Samples.{load_of}
use Rattle.metric_windows.specs.StandsFor.{StandsFor}
use Rattle.core_terms.specs.Input.{loaded_from}
use Rattle.core_cases.proofs.loads.load_parts.Given as goal

abbrev pub invariant-loop-part : goal.invariant-loop-part
invariant-loop-part l = record {
  long : length l.case.parts ≡ length l.fn.case.parts;
  loads : (samples : List Sample) → StandsFor l.windows samples
      → l.case ≡ record l.fn.case { parts = loaded_from (load_of l.windows.rules samples) 0 (take l.part l.fn.case.parts) ++ drop l.part l.fn.case.parts };
}
