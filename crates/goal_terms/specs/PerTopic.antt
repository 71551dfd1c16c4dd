-- Goals with one unit for each topic and broker, topic by topic.
use Rattle.std.specs.Prelude.{ℕ, Bool, ◌*◌, nat_lt, List, [], ◌∷◌, ◌++◌, map, length, get_or, bytes_eq, if◌then◌else◌}
use Rattle.std.specs.List.{list_any}
use Rattle.plan_terms.specs.Cluster.{Cluster, Lists}
use Rattle.plan_terms.specs.Faults.{topics}
use Rattle.plan_terms.specs.Goal.{Meaning}
use Rattle.plan_terms.specs.declared.cluster.Part.{Part}
use Rattle.plan_terms.specs.declared.actions.Action.{Action}
use Rattle.plan_terms.specs.declared.actions.Action.TheVariants.{Move, Lead, Swap}
use Rattle.goal_terms.specs.Quantity.{Weights, quantity}
use Rattle.goal_terms.specs.PerBroker.{Bounds, unit_brokers, broker_excess}
use Rattle.goal_terms.specs.Sides.{excess_with}
use Rattle.goal_terms.specs.declared.heat.Heat.{Heat}
use Rattle.goal_terms.specs.declared.heat.Heat.TheVariants.{Cold, Other}

-- what the first place of a partition of a topic counts for the topic, and each other place, and the topic's bounds
pub record TopicRule : Type 0 where
  pub lead : ℕ
  pub follow : ℕ
  pub bounds : List ℕ → Bounds

-- what each place counts for the topic: nothing in another topic
abbrev pub rule_weights : TopicRule → List ℕ → Weights
rule_weights r t = record { lead = λ p. if bytes_eq p.topic t then r.lead else 0; follow = λ p. if bytes_eq p.topic t then r.follow else 0 }

-- each replica counts as 1, and all topics have the same bounds
abbrev pub replica_rule : Bounds → TopicRule
replica_rule b = record { lead = 1; follow = 1; bounds = λ t. b }

-- the excess of each broker that isn't lost for each topic, topic by topic
abbrev pub topic_excesses : List (List ℕ) → TopicRule → Cluster → Lists → List ℕ
topic_excesses [] r c lists = []
topic_excesses (t ∷ ts) r c lists = map (broker_excess (rule_weights r t) (r.bounds t) c lists) (unit_brokers c.brokers) ++ topic_excesses ts r c lists

-- the goal that no broker's count of a topic lies outside its bounds, for each topic in order of its first partition
abbrev pub per_topic : Bool → TopicRule → Cluster → Meaning
per_topic hard r c = record {
  hard = hard;
  units = length (topics c.parts) * length (unit_brokers c.brokers);
  excess = λ lists u. get_or (topic_excesses (topics c.parts) r c lists) u 0;
}

-- the topic of the p-th partition
abbrev pub topic_at : List Part → ℕ → List ℕ
topic_at parts p = get_or (map (λ q. q.topic) parts) p []

-- the topic of the first of the partitions that an action touches
abbrev pub first_topic : List Part → Action → List ℕ
first_topic parts (Move p a b) = topic_at parts p
first_topic parts (Lead p b) = topic_at parts p
first_topic parts (Swap p a q b) = topic_at parts p

-- the topic of the second of them, or of the only one
abbrev pub second_topic : List Part → Action → List ℕ
second_topic parts (Move p a b) = topic_at parts p
second_topic parts (Lead p b) = topic_at parts p
second_topic parts (Swap p a q b) = topic_at parts q

-- whether the broker of the id has a positive excess for one of the topics
abbrev pub topic_heat : List (List ℕ) → TopicRule → Cluster → Lists → ℕ → Heat
topic_heat ts r c lists k = if list_any (λ t. nat_lt 0 (excess_with (rule_weights r t) (r.bounds t) c lists k (quantity (rule_weights r t) c.parts k lists))) ts then Other else Cold
