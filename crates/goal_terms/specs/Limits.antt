-- The limits of a cluster, and what is small within them.
use Rattle.std.specs.Prelude.{◌≡◌, ℕ, ◌^◌, ◌<◌, ◌≤◌, true, length, slice_index}
use Rattle.std.specs.List.{All}
use Rattle.plan_terms.specs.Cluster.{Cluster}
use Rattle.plan_terms.specs.Faults.{topics}
use Rattle.plan_terms.specs.declared.cluster.Part.{Part}
use Rattle.plan_terms.specs.declared.cluster.Broker.{Broker}
use Rattle.goal_terms.specs.PerBroker.{Bounds, distinct_ids}
use Rattle.goal_terms.specs.Quantity.{Weights}

-- each load value is below 2^32
pub record SmallLoads (p : Part) : Type 0 where
  pub lead : (r : ℕ) → slice_index p.loads.lead r < 4294967296
  pub follow : (r : ℕ) → slice_index p.loads.follow r < 4294967296

-- each capacity is below 2^40
pub record SmallCap (x : Broker) : Type 0 where
  pub each : (r : ℕ) → slice_index x.cap r < 1099511627776

-- at most 200 brokers, 1,000 topics and 10,000 partitions, small loads and capacities, and no broker twice
pub record Limits (c : Cluster) : Type 0 where
  pub few_brokers : length c.brokers ≤ 200
  pub few_topics : length (topics c.parts) ≤ 1000
  pub few_parts : length c.parts ≤ 10000
  pub loads : All SmallLoads c.parts
  pub caps : All SmallCap c.brokers
  pub ids : distinct_ids c.brokers ≡ true

-- no place carries more than a load value may be
pub record SmallWeights (w : Weights) (p : Part) : Type 0 where
  pub lead : w.lead p < 4294967296
  pub follow : w.follow p < 4294967296

-- the scale is at most 2^58, and each lower bound at most 2^110
pub record SmallBounds (b : Bounds) : Type 0 where
  pub scale : b.scale ≤ 2 ^ 58
  pub lower : (n : ℕ) (x : Broker) → n < 2 ^ 49 → SmallCap x → b.lower n x ≤ 2 ^ 110
