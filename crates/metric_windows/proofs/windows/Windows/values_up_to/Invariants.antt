use Rattle.std.proofs.Common.{◌≡◌, ◌≤◌}
use Rattle.std.specs.List.{filter_map, range_with_len}
use Rattle.metric_windows.specs.Tables.{tally_of, value_in, IsTally}
use Rattle.metric_windows.proofs.windows.Windows.values_up_to.Given as goal

abbrev pub invariant-loop-age : goal.invariant-loop-age
invariant-loop-age l =
    (l.tally ≡ tally_of (filter_map (value_in l.self l.part) (range_with_len l.oldest l.age))) × (l.tally.count ≤ l.age) × IsTally l.tally
