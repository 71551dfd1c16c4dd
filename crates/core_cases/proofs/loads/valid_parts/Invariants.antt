use Rattle.std.proofs.Common.{◌≡◌, ◌≤◌, List}
use Rattle.std.specs.List.{count_by, range_with_len}
use Rattle.plan_terms.specs.declared.settings.Sample.{Sample}
use Rattle.metric_windows.specs.StandsFor.{StandsFor}
use Rattle.core_terms.specs.Input.{has_loads}
use Rattle.core_cases.proofs.loads.valid_parts.Given as goal

abbrev pub invariant-loop-part : goal.invariant-loop-part
invariant-loop-part l = record {
  few : l.valid ≤ l.part;
  counted : (samples : List Sample) → StandsFor l.windows samples → l.valid ≡ count_by (has_loads l.file samples) (range_with_len 0 l.part);
}
