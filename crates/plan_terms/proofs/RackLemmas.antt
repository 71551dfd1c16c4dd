-- Laws of the rack goal.
use Rattle.std.proofs.Common.{ℕ, ◌+◌, ◌≤◌, true, false, List, [], ◌∷◌, length, suc, arith}
use Rattle.std.specs.Prelude.{if◌then◌else◌}
use Rattle.std.specs.List.{list_any}
use Rattle.plan_terms.specs.Cluster.{Cluster}
use Rattle.plan_terms.specs.Racks.{rack_count, rack_excess, same_rack}

pub rack_count-le : (c : Cluster) (list : List ℕ) → rack_count c list ≤ length list
rack_count-le c [] = omega arith
rack_count-le c (x ∷ xs) =
    elim (list_any (same_rack c x) xs) as (λ t. rack_count c xs + (if t then 0 else 1) ≤ suc (length xs)) [
      | true ↦ omega (arith, rack_count-le c xs)
      | false ↦ omega (arith, rack_count-le c xs)
    ]

pub rack_excess-le : (c : Cluster) (list : List ℕ) → rack_excess c list ≤ length list
unfolding rack_excess
rack_excess-le c list = omega arith
