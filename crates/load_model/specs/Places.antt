-- Places of brokers in a cluster, and of topics among its topics.
use Rattle.std.specs.Prelude.{◌≡◌, ◌<◌, ℕ, List, [], length, map, get_or}
use Rattle.std.specs.List.{count_by}
use Rattle.plan_terms.specs.Cluster.{Cluster}
use Rattle.plan_terms.specs.Faults.{IsCase, topics}
use Rattle.plan_terms.specs.States.{is_new}
use Rattle.plan_terms.specs.declared.cluster.Part.{Part}

-- the topic of the partition at place p
abbrev pub topic_of : List Part → ℕ → List ℕ
topic_of parts p = get_or (map (λ x. x.topic) parts) p []

-- the topic at place t among the topics
abbrev pub topic_at : List Part → ℕ → List ℕ
topic_at parts t = get_or (topics parts) t []

-- this text stands at place i of the texts
pub record StandsAt (texts : List (List ℕ)) (text : List ℕ) (i : ℕ) : Type 0 where
  pub within : i < length texts
  pub is : get_or texts i [] ≡ text

-- the place of each partition's topic among the topics, of which there are n
pub record AreTopicPlaces (parts : List Part) (places : List ℕ) (n : ℕ) : Type 0 where
  pub count_is : n ≡ length (topics parts)
  pub one_each : length places ≡ length parts
  pub each : (p : ℕ) → p < length parts → StandsAt (topics parts) (topic_of parts p) (get_or places p 0)

-- a case with the ids of its brokers, in order, the places of its partitions' topics, and how many brokers are being added
pub record IsIndexed (c : Cluster) (ids : List ℕ) (places : List ℕ) (n added : ℕ) : Type 0 where
  pub case_is : IsCase c
  pub ids_are : ids ≡ map (λ b. b.id) c.brokers
  pub places_are : AreTopicPlaces c.parts places n
  pub added_are : added ≡ count_by (λ b. is_new b.state) c.brokers
