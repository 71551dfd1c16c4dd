-- The goals over brokers by name, with the thresholds of the cluster's options.
use Rattle.std.specs.Prelude.{ℕ, true, false, List, get_or}
use Rattle.std.specs.List.{All}
use Rattle.plan_terms.specs.Cluster.{Cluster}
use Rattle.plan_terms.specs.Fraction.{Fraction, IsRatio}
use Rattle.plan_terms.specs.Goal.{Meaning}
use Rattle.plan_terms.specs.declared.cluster.Options.{Options}
use Rattle.goal_terms.specs.Bands.{units_of, whole_cap, at_most, within_capacity, even, near_use, below_use}
use Rattle.goal_terms.specs.PerBroker.{per_broker}
use Rattle.goal_terms.specs.PerTopic.{per_topic, replica_rule}
use Rattle.goal_terms.specs.Quantity.{replica_weights, leader_weights, load_weights, potential_out_weights, leader_in_weights}
use Rattle.plan_terms.specs.Resources.{NW_IN, NW_OUT}

-- the threshold of a resource
abbrev pub ratio_at : List Fraction → ℕ → Fraction
ratio_at ratios r = get_or ratios r (record { num = 0; den = 1 })

-- every threshold is in range
pub record AreRatios (options : Options) : Type 0 where
  pub limits : All (λ f. IsRatio f.num f.den) options.limit
  pub balances : All (λ f. IsRatio f.num f.den) options.balance
  pub replicas : IsRatio options.replica_balance.num options.replica_balance.den
  pub leads : IsRatio options.leader_balance.num options.leader_balance.den
  pub topic : IsRatio options.topic_balance.num options.topic_balance.den

-- no broker holds more replicas than it may, which is hard
abbrev pub replica_capacity_goal : Cluster → Meaning
replica_capacity_goal c = per_broker true replica_weights (at_most c.options.max_replicas) c

-- no broker's load of the resource lies above its part of the capacity, which is hard
abbrev pub capacity_goal : ℕ → Cluster → Meaning
capacity_goal r c = per_broker true (load_weights r) (within_capacity (ratio_at c.options.limit r) r) c

-- replicas are spread evenly
abbrev pub replica_distribution_goal : Cluster → Meaning
replica_distribution_goal c = per_broker false replica_weights (even c.options.replica_balance (units_of c)) c

-- no broker would send more than its part of the capacity if it led all that it holds
abbrev pub potential_out_goal : Cluster → Meaning
potential_out_goal c = per_broker false potential_out_weights (within_capacity (ratio_at c.options.limit NW_OUT) NW_OUT) c

-- each broker uses the resource about as much as all brokers together
abbrev pub usage_distribution_goal : ℕ → Cluster → Meaning
usage_distribution_goal r c = per_broker false (load_weights r) (near_use (ratio_at c.options.balance r) r (whole_cap r c)) c

-- each topic's replicas are spread evenly
abbrev pub topic_distribution_goal : Cluster → Meaning
topic_distribution_goal c = per_topic false (replica_rule (even c.options.topic_balance (units_of c))) c

-- leaders are spread evenly
abbrev pub leader_distribution_goal : Cluster → Meaning
leader_distribution_goal c = per_broker false leader_weights (even c.options.leader_balance (units_of c)) c

-- no broker receives much more as a leader than all together
abbrev pub leader_in_goal : Cluster → Meaning
leader_in_goal c = per_broker false leader_in_weights (below_use (ratio_at c.options.balance NW_IN) NW_IN (whole_cap NW_IN c)) c
