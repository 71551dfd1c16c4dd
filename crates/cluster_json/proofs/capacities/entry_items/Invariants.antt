use Rattle.std.proofs.Common.{◌≡◌, [], drop}
use Rattle.serde_json.specs.View.{items_view}
use Rattle.cluster_json.specs.Capacities.{entries_from}
use Rattle.cluster_json.proofs.capacities.entry_items.Given as goal

abbrev pub invariant-loop-index : goal.invariant-loop-index
invariant-loop-index l = entries_from l.index l.entries.entries (items_view (drop l.index l.values)) ≡ entries_from 0 [] (items_view l.values)
