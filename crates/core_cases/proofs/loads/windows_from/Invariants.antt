use Rattle.std.proofs.Common.{◌≡◌, [], fold, take}
use Rattle.metric_windows.specs.StandsFor.{StandsFor}
use Rattle.core_terms.specs.Input.{and_accepted}
use Rattle.core_cases.proofs.loads.windows_from.Given as goal

abbrev pub invariant-loop-sample : goal.invariant-loop-sample
invariant-loop-sample l = record {
  stands : StandsFor l.windows (fold (and_accepted l.fn.rules) [] (take l.sample-index l.samples));
  rules : l.windows.rules ≡ l.fn.rules;
  parts : l.windows.parts ≡ l.fn.parts;
}
