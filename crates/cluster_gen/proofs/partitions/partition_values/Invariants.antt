use Rattle.std.proofs.Common.{◌≡◌, ◌*◌, map}
use Rattle.serde_json.specs.View.{view}
use Rattle.cluster_gen.specs.Draws.{state_after}
use Rattle.cluster_gen.specs.Clusters.{partition_data, numbers_below}
use Rattle.cluster_gen.proofs.partitions.partition_values.Given as goal

abbrev pub invariant-loop-number : goal.invariant-loop-number
invariant-loop-number l = (map view l.values.items ≡ map (partition_data l.seed l.brokers) (numbers_below l.number)) × (l.draws.state ≡ state_after (5 * l.number) l.seed)
