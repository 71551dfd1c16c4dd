-- Goals with one unit for each broker that isn't lost, whose excess is how far a quantity lies outside its bounds.
use Rattle.std.specs.Prelude.{ℕ, Bool, not, ◌+◌, ◌-◌, ◌*◌, ◌==◌, List, [], ◌∷◌, map, length, get_or, if◌then◌else◌}
use Rattle.std.specs.List.{filter}
use Rattle.plan_terms.specs.Belongs.{distinct}
use Rattle.plan_terms.specs.Cluster.{Cluster, Lists, ids_of}
use Rattle.plan_terms.specs.Goal.{Meaning}
use Rattle.plan_terms.specs.States.{is_dead}
use Rattle.plan_terms.specs.declared.cluster.Broker.{Broker}
use Rattle.goal_terms.specs.Quantity.{Weights, quantity, total}

-- the broker isn't lost
abbrev pub is_unit : Broker → Bool
is_unit x = not (is_dead x.state)

-- the brokers that aren't lost, in order
abbrev pub unit_brokers : List Broker → List Broker
unit_brokers brokers = filter is_unit brokers

-- a scale of the quantity, and the greatest and the least scaled quantity that a broker may have, by what all brokers carry
pub record Bounds : Type 0 where
  pub scale : ℕ
  pub upper : ℕ → Broker → ℕ
  pub lower : ℕ → Broker → ℕ

-- how far x lies above high or below low
abbrev pub outside : ℕ → ℕ → ℕ → ℕ
outside low high x = (x - high) + (low - x)

-- the excess of a broker that carries q, where all carry w
unfoldable pub bound_excess : Bounds → ℕ → ℕ → Broker → ℕ
bound_excess b w q x = outside (b.lower w x) (b.upper w x) (q * b.scale)

-- the excess of a broker
abbrev pub broker_excess : Weights → Bounds → Cluster → Lists → Broker → ℕ
broker_excess w b c lists x = bound_excess b (total w c.parts lists) (quantity w c.parts x.id lists) x

-- the goal that no broker's quantity lies outside its bounds; unit u is the u-th of the brokers that aren't lost
abbrev pub per_broker : Bool → Weights → Bounds → Cluster → Meaning
per_broker hard w b c = record {
  hard = hard;
  units = length (unit_brokers c.brokers);
  excess = λ lists u. get_or (map (broker_excess w b c lists) (unit_brokers c.brokers)) u 0;
}

-- f of the first of the brokers that has the id, or 0
abbrev pub at_id : (Broker → ℕ) → List Broker → ℕ → ℕ
at_id f [] k = 0
at_id f (x ∷ xs) k = if x.id == k then f x else at_id f xs k

-- no id stands twice
abbrev pub distinct_ids : List Broker → Bool
distinct_ids brokers = distinct (ids_of brokers)
