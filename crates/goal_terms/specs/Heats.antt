-- Whether a broker's quantity lies above or below its bounds.
use Rattle.std.specs.Prelude.{ℕ, Bool, ◌*◌, ◌==◌, ◌&&◌, nat_lt, List, [], ◌∷◌, if◌then◌else◌}
use Rattle.std.specs.List.{list_any}
use Rattle.plan_terms.specs.Cluster.{Cluster, Lists, has, list_of}
use Rattle.plan_terms.specs.declared.cluster.Broker.{Broker}
use Rattle.goal_terms.specs.Quantity.{Weights, quantity, total}
use Rattle.goal_terms.specs.PerBroker.{Bounds, unit_brokers}
use Rattle.goal_terms.specs.declared.heat.Heat.{Heat}
use Rattle.goal_terms.specs.declared.heat.Heat.TheVariants.{Cold, Above, Below, Other}

-- of a broker that carries q, where all carry w
unfoldable pub bound_heat : Bounds → ℕ → ℕ → Broker → Heat
bound_heat b w q x = if nat_lt (b.upper w x) (q * b.scale) then Above else (if nat_lt (q * b.scale) (b.lower w x) then Below else Cold)

-- f of the first of the brokers that has the id, or Cold
abbrev pub heat_at_id : (Broker → Heat) → List Broker → ℕ → Heat
heat_at_id f [] k = Cold
heat_at_id f (x ∷ xs) k = if x.id == k then f x else heat_at_id f xs k

-- of the broker of the id: Cold where it is lost or unknown
abbrev pub broker_heat : Weights → Bounds → Cluster → Lists → ℕ → Heat
broker_heat w b c lists k = heat_at_id (bound_heat b (total w c.parts lists) (quantity w c.parts k lists)) (unit_brokers c.brokers) k

-- for a goal over partitions: whether the broker holds a member of a partition with a positive excess
abbrev pub partition_heat : (List ℕ → ℕ) → Lists → ℕ → Heat
partition_heat f lists k = if list_any (λ list. has list k && nat_lt 0 (f list)) lists then Other else Cold

-- for a goal over partitions: whether the partition has a positive excess
abbrev pub has_excess : (List ℕ → ℕ) → Lists → ℕ → Bool
has_excess f lists p = nat_lt 0 (f (list_of lists p))
