use Rattle.std.proofs.Common.{◌≡◌, drop}
use Rattle.std.specs.List.{All}
use Rattle.serde_json.specs.View.{items_view}
use Rattle.cluster_json.specs.Shapes.{items_from}
use Rattle.cluster_json.proofs.Fails.{with_front}
use Rattle.cluster_json.proofs.shape.items.Given as goal

abbrev pub invariant-loop-index : goal.invariant-loop-index
invariant-loop-index g l = record {
  means : with_front l.all.items (items_from l.index (g.S.Shape.meaning l.fn.shape) (items_view (drop l.index l.values))) ≡ items_from 0 (g.S.Shape.meaning l.fn.shape) (items_view l.values);
  keep : All (g.S.Shape.Keeps l.fn.shape) l.all.items;
}
