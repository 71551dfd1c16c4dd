use Rattle.std.proofs.Common.{◌≡◌, ℕ, ◌<◌, [], length, get_or}
use Rattle.load_model.proofs.table.Table.empty.Given as goal

abbrev pub invariant-loop-broker : goal.invariant-loop-broker
invariant-loop-broker l = record {
  one_each : length l.rows.items ≡ l._broker-index;
  long : (k : ℕ) → k < l._broker-index → length (get_or l.rows.items k []) ≡ l.columns;
  nothing : (k j : ℕ) → k < l._broker-index → get_or (get_or l.rows.items k []) j 0 ≡ 0;
}
