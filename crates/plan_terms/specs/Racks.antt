-- The rack goal: a partition's excess is its members minus their distinct racks.
use Rattle.std.specs.Prelude.{ℕ, Bool, true, false, ◌+◌, ◌-◌, ◌==◌, List, [], ◌∷◌, length, Option, Some, None, bytes_eq, if◌then◌else◌}
use Rattle.std.specs.List.{list_any}
use Rattle.std.specs.Option.{option_and_then}
use Rattle.plan_terms.specs.Cluster.{Cluster, broker_of}
use Rattle.plan_terms.specs.Goal.{Meaning, per_partition}

-- the rack of the broker of this id, where it has one
abbrev pub rack_of : Cluster → ℕ → Option (List ℕ)
rack_of c b = option_and_then (λ x. x.rack) (broker_of c.brokers b)

-- two names of racks that are there are the same
abbrev pub equal_racks : Option (List ℕ) → Option (List ℕ) → Bool
equal_racks None s = false
equal_racks (Some r) None = false
equal_racks (Some r) (Some s) = bytes_eq r s

-- a broker without a rack is a rack of its own
unfoldable pub same_rack : Cluster → ℕ → ℕ → Bool
same_rack c a b = if a == b then true else equal_racks (rack_of c a) (rack_of c b)

-- on how many racks the members stand: each counts where no later one stands on its rack
abbrev pub rack_count : Cluster → List ℕ → ℕ
rack_count c [] = 0
rack_count c (x ∷ xs) = rack_count c xs + (if list_any (same_rack c x) xs then 0 else 1)

-- members minus distinct racks
unfoldable pub rack_excess : Cluster → List ℕ → ℕ
rack_excess c list = length list - rack_count c list

-- the goal that the members of each partition stand on distinct racks, which is hard
abbrev pub rack_goal : Cluster → Meaning
rack_goal c = per_partition true (rack_excess c) c
