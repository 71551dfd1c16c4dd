use Rattle.std.proofs.Common.{◌≡◌, drop}
use Rattle.serde_json.specs.View.{items_view}
use Rattle.cluster_json.specs.Partitions.{notes_from}
use Rattle.cluster_json.proofs.partitions.check_notes.Given as goal

abbrev pub invariant-loop-index : goal.invariant-loop-index
invariant-loop-index l = notes_from l.index (items_view (drop l.index l.values)) ≡ notes_from 0 (items_view l.values)
