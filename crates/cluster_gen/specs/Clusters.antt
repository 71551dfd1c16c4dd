-- The cluster file that is made from a seed, for b brokers and p partitions.
use Rattle.std.specs.Prelude.{ℕ, ◌+◌, ◌*◌, ◌/◌, ◌%◌, min, List, [], ◌∷◌, ◌++◌, map, codes, decimal}
use Rattle.std.specs.List.{range_with_len}
use Rattle.serde_json.specs.Data.{Data, string, array, object, member, no_members}
use Rattle.serde_json.specs.View.{items_of}
use Rattle.serde_json.specs.Written.{compact_text}
use Rattle.plain_json.specs.Numbers.{number_data, numbers_data}
use Rattle.cluster_gen.specs.declared.loads.Loads.{Loads}
use Rattle.cluster_gen.specs.Draws.{draw}

-- the numbers below n
abbrev pub numbers_below : ℕ → List ℕ
numbers_below n = range_with_len 0 n

-- broker k, in one of four racks
abbrev pub broker_data : ℕ → Data
broker_data k = object (member (codes "id") (number_data k)
    (member (codes "rack") (string (codes "r" ++ decimal (k % 4))) no_members))

-- what a broker can carry
abbrev pub capacity_data : Data
capacity_data = object (member (codes "CPU") (string (codes "10000"))
    (member (codes "DISK") (string (codes "500000"))
    (member (codes "NW_IN") (string (codes "50000"))
    (member (codes "NW_OUT") (string (codes "50000")) no_members))))

-- one capacity, which holds for each broker
abbrev pub capacities_data : Data
capacities_data = array (items_of (object (member (codes "brokerId") (string (codes "-1"))
    (member (codes "capacity") capacity_data no_members)) ∷ []))

-- up to three brokers in a row, from the first one on
abbrev pub in_a_row : ℕ → ℕ → List ℕ
in_a_row b first = map (λ k. (first + k) % b) (numbers_below (min 3 b))

-- the replicas of partition i: up to three brokers in a row from a drawn one on
abbrev pub replicas_of : ℕ → ℕ → ℕ → List ℕ
replicas_of seed b i = in_a_row b (draw seed (5 * i) b)

-- the loads of partition i, each drawn
abbrev pub loads_of : ℕ → ℕ → Loads
loads_of seed i = record {
  network_in = draw seed (5 * i + 1) 100;
  network_out = draw seed (5 * i + 2) 200;
  processor = draw seed (5 * i + 3) 10;
  disk = draw seed (5 * i + 4) 1000;
}

-- a follower's load: half of the processor, rounded down, and no network out
abbrev pub follower_data : Loads → Data
follower_data loads = object (member (codes "CPU") (number_data (loads.processor / 2))
    (member (codes "DISK") (number_data loads.disk)
    (member (codes "NW_IN") (number_data loads.network_in) no_members)))

-- the leader's load
abbrev pub leader_data : Loads → Data
leader_data loads = object (member (codes "CPU") (number_data loads.processor)
    (member (codes "DISK") (number_data loads.disk)
    (member (codes "NW_IN") (number_data loads.network_in)
    (member (codes "NW_OUT") (number_data loads.network_out) no_members))))

-- both
abbrev pub load_data : Loads → Data
load_data loads = object (member (codes "follower") (follower_data loads) (member (codes "leader") (leader_data loads) no_members))

-- partition i, in one of fifty topics
abbrev pub partition_data : ℕ → ℕ → ℕ → Data
partition_data seed b i = object (member (codes "load") (load_data (loads_of seed i))
    (member (codes "partition") (number_data (i / 50))
    (member (codes "replicas") (numbers_data (replicas_of seed b i))
    (member (codes "topic") (string (codes "t" ++ decimal (i % 50))) no_members))))

-- the whole: the capacities, the brokers, the partitions, and version 1 of the form
abbrev pub cluster_data : ℕ → ℕ → ℕ → Data
cluster_data seed b p = object (member (codes "brokerCapacities") capacities_data
    (member (codes "brokers") (array (items_of (map broker_data (numbers_below b))))
    (member (codes "partitions") (array (items_of (map (partition_data seed b) (numbers_below p))))
    (member (codes "version") (number_data 1) no_members))))

-- as a text, compact, with keys in the order of their bytes
unfoldable pub cluster_text : ℕ → ℕ → ℕ → List ℕ
cluster_text seed b p = compact_text (cluster_data seed b p)
