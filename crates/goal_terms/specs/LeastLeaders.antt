-- The goal that each broker that may lead leads at least as many partitions of a topic as the options ask.
use Rattle.std.specs.Prelude.{◌≡◌, ℕ, true, not, ◌-◌, ◌*◌, ◌<◌, ◌^◌, List, [], ◌∷◌, ◌++◌, map, length, get_or, find, bytes_eq, if◌then◌else◌, Option, option_map, is_some, unwrap_or}
use Rattle.std.specs.List.{All, filter}
use Rattle.plan_terms.specs.Cluster.{Cluster, Lists}
use Rattle.plan_terms.specs.Faults.{topics}
use Rattle.plan_terms.specs.Goal.{Meaning}
use Rattle.plan_terms.specs.Load.{topic_leaders}
use Rattle.plan_terms.specs.States.{is_demoted}
use Rattle.plan_terms.specs.declared.cluster.Broker.{Broker}
use Rattle.plan_terms.specs.declared.cluster.MinLeaders.{MinLeaders}
use Rattle.goal_terms.specs.PerBroker.{Bounds, unit_brokers}
use Rattle.goal_terms.specs.PerTopic.{TopicRule}
use Rattle.goal_terms.specs.Quantity.{Weights}

-- the least number of leaders of a topic, where it is named
abbrev pub floor_in : List MinLeaders → List ℕ → Option ℕ
floor_in ms t = option_map (λ m. m.leaders) (find (λ m. bytes_eq m.topic t) ms)

-- the least number of leaders of a topic, or 0
abbrev pub floor_of : Cluster → List ℕ → ℕ
floor_of c t = unwrap_or (floor_in c.options.min_leaders t) 0

-- the brokers that are neither lost nor demoted, in order
abbrev pub leading_brokers : List Broker → List Broker
leading_brokers brokers = filter (λ x. not (is_demoted x.state)) (unit_brokers brokers)

-- the topics of the cluster that are named, in order
abbrev pub floor_topics : Cluster → List (List ℕ) → List (List ℕ)
floor_topics c ts = filter (λ t. is_some (floor_in c.options.min_leaders t)) ts

-- how many leaders of the topic the broker lacks
abbrev pub floor_excess : Cluster → Lists → List ℕ → Broker → ℕ
floor_excess c lists t x = floor_of c t - topic_leaders c t x.id lists

-- the excess of each broker that may lead for each topic, topic by topic
abbrev pub floor_excesses : List (List ℕ) → Cluster → Lists → List ℕ
floor_excesses [] c lists = []
floor_excesses (t ∷ ts) c lists = map (floor_excess c lists t) (leading_brokers c.brokers) ++ floor_excesses ts c lists

-- the goal: its units are the named topics that have partitions, by the brokers that are neither lost nor demoted
abbrev pub least_leaders_goal : Cluster → Meaning
least_leaders_goal c = record {
  hard = true;
  units = length (floor_topics c (topics c.parts)) * length (leading_brokers c.brokers);
  excess = λ lists u. get_or (floor_excesses (floor_topics c (topics c.parts)) c lists) u 0;
}

-- each partition of the topic that a broker leads counts as 1
abbrev pub led_weights : List ℕ → Weights
led_weights t = record { lead = λ p. if bytes_eq p.topic t then 1 else 0; follow = λ p. if bytes_eq p.topic t then 0 else 0 }

-- a count of at least n where the broker isn't demoted; no count is above that of all brokers
abbrev pub at_least : ℕ → Bounds
at_least n = record { scale = 1; upper = λ all _. all; lower = λ _ x. if is_demoted x.state then 0 else n }

-- the same as a rule for every topic and broker: a topic that isn't named, and a broker that is demoted, has no excess
abbrev pub least_rule : Cluster → TopicRule
least_rule c = record { lead = 1; follow = 0; bounds = λ t. at_least (floor_of c t) }

-- each least number is below 2^32
abbrev pub AreFloors : Cluster → Type 0
AreFloors c = All (λ m. m.leaders < 2 ^ 32) c.options.min_leaders

-- the topics of the cluster, and beside each its least number where it is named, none of which is above a u32
pub record IsMadeFor (ts : List (List ℕ)) (floors : List (Option ℕ)) (c : Cluster) : Type 0 where
  pub topics_are : ts ≡ topics c.parts
  pub floors_are : floors ≡ map (floor_in c.options.min_leaders) ts
  pub small : AreFloors c
