use Rattle.std.proofs.Common.{◌≡◌, map}
use Rattle.serde_json.specs.View.{view}
use Rattle.cluster_gen.specs.Clusters.{broker_data, numbers_below}
use Rattle.cluster_gen.proofs.brokers.broker_values.Given as goal

abbrev pub invariant-loop-id : goal.invariant-loop-id
invariant-loop-id l = map view l.values.items ≡ map broker_data (numbers_below l.id)
