-- A cluster file has no float, and nests no deeper than the reader goes.
use Rattle.std.proofs.Common.{◌≡◌, ℕ, ◌+◌, ◌≤◌, List, [], ◌∷◌, map, false, refl, arith}
use Rattle.serde_json.specs.Data.{Data, array, depth}
use Rattle.serde_json.specs.View.{items_of}
use Rattle.serde_json.specs.Written.{has_float}
use Rattle.plain_json.specs.Numbers.{number_data}
use Rattle.cluster_gen.specs.Clusters.{numbers_below, replicas_of, broker_data, partition_data, cluster_data}

-- no float, and at most so many levels
pub record IsPlain (levels : ℕ) (d : Data) : Type 0 where
  pub no_float : has_float d ≡ false
  pub flat : depth d ≤ levels

IsPlain-list : (f : ℕ → Data) (levels : ℕ) → ((k : ℕ) → IsPlain levels (f k)) → (ns : List ℕ) → IsPlain (levels + 1) (array (items_of (map f ns)))
IsPlain-list f levels h [] = record { no_float = refl; flat = omega arith }
IsPlain-list f levels h (n ∷ ns) =
    let rest = IsPlain-list f levels h ns in
    record { no_float = rw ((h n).no_float) rest.no_float; flat = omega (arith, (h n).flat, rest.flat) }

IsPlain-number : (n : ℕ) → IsPlain 0 (number_data n)
IsPlain-number n = record { no_float = refl; flat = omega arith }

IsPlain-broker : (k : ℕ) → IsPlain 1 (broker_data k)
IsPlain-broker k = record { no_float = refl; flat = omega arith }

IsPlain-partition : (seed b i : ℕ) → IsPlain 3 (partition_data seed b i)
IsPlain-partition seed b i =
    let replicas = IsPlain-list number_data 0 IsPlain-number (replicas_of seed b i) in
    record { no_float = rw (replicas.no_float); flat = omega (arith, replicas.flat) }

pub IsPlain-cluster : (seed b p : ℕ) → IsPlain 127 (cluster_data seed b p)
IsPlain-cluster seed b p =
    let brokers = IsPlain-list broker_data 1 IsPlain-broker (numbers_below b) in
    let partitions = IsPlain-list (partition_data seed b) 3 (IsPlain-partition seed b) (numbers_below p) in
    record { no_float = rw (brokers.no_float, partitions.no_float); flat = omega (arith, brokers.flat, partitions.flat) }
