use Rattle.std.proofs.Common.{◌≡◌, [], drop, map}
use Rattle.serde_json.specs.View.{items_view}
use Rattle.cluster_json.specs.Leaders.{leaders_from}
use Rattle.cluster_json.specs.Views.{texts_seen}
use Rattle.cluster_json.proofs.leaders.entry_items.Given as goal

abbrev pub invariant-loop-index : goal.invariant-loop-index
invariant-loop-index l = record {
  topics : texts_seen l.seen.keys ≡ map (λ m. m.topic) l.entries.items;
  rest : leaders_from l.index l.entries.items (items_view (drop l.index l.values)) ≡ leaders_from 0 [] (items_view l.values);
}
