use Rattle.std.proofs.Common.{◌≡◌, ◌≤◌, is_some}
use Rattle.std.specs.List.{count_by, range_with_len}
use Rattle.metric_windows.specs.Samples.{enough_mean}
use Rattle.metric_windows.specs.Tables.{values_in}
use Rattle.metric_windows.proofs.windows.Windows.coverage.Given as goal

abbrev pub invariant-loop-part : goal.invariant-loop-part
invariant-loop-part l =
    (l.valid ≡ count_by (λ p. is_some (enough_mean l.self.rules.need (values_in l.self p))) (range_with_len 0 l.part)) × (l.valid ≤ l.part)
