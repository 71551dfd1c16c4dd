use Rattle.std.proofs.Common.{◌≡◌, ◌+◌, ◌%◌, map}
use Rattle.serde_json.specs.View.{view}
use Rattle.plain_json.specs.Numbers.{number_data}
use Rattle.cluster_gen.specs.Clusters.{numbers_below}
use Rattle.cluster_gen.proofs.partitions.replica_values.Given as goal

abbrev pub invariant-loop-place : goal.invariant-loop-place
invariant-loop-place l = map view l.replicas.items ≡ map number_data (map (λ k. (l.first + k) % l.brokers) (numbers_below l.place))
