-- A cluster, and an assignment of its partitions: one replica list each, whose first member leads.
use Rattle.std.specs.Prelude.{ℕ, Bool, false, ◌==◌, List, [], ◌∷◌, map, get_or, find, Option, is_some}
use Rattle.std.specs.List.{list_any}
use Rattle.std.specs.Option.{option_map_or}
use Rattle.plan_terms.specs.declared.cluster.Broker.{Broker}
use Rattle.plan_terms.specs.declared.cluster.Part.{Part}
use Rattle.plan_terms.specs.declared.cluster.Options.{Options}

-- the brokers and the partitions, each in their order, and the options of the request
pub record Cluster : Type 0 where
  pub brokers : List Broker
  pub parts : List Part
  pub options : Options

-- an assignment: the replica list of each partition
abbrev pub Lists : Type 0
Lists = List (List ℕ)

-- the list of partition p, or the empty one past the last partition
abbrev pub list_of : Lists → ℕ → List ℕ
list_of lists p = get_or lists p []

-- b is a member
abbrev pub has : List ℕ → ℕ → Bool
has list b = list_any (λ x. x == b) list

-- b is the first member
abbrev pub leads : List ℕ → ℕ → Bool
leads [] b = false
leads (x ∷ xs) b = x == b

-- the ids, in order
abbrev pub ids_of : List Broker → List ℕ
ids_of brokers = map (λ b. b.id) brokers

-- the id of the broker at a place
abbrev pub id_at : List Broker → ℕ → ℕ
id_at brokers i = get_or (ids_of brokers) i 0

-- the broker of this id
abbrev pub broker_of : List Broker → ℕ → Option Broker
broker_of brokers b = find (λ x. x.id == b) brokers

-- some broker has this id
abbrev pub is_known : Cluster → ℕ → Bool
is_known c b = is_some (broker_of c.brokers b)

-- some broker has this id, and it passes the test
abbrev pub some_broker : (Broker → Bool) → Cluster → ℕ → Bool
some_broker test c b = option_map_or test (broker_of c.brokers b) false
