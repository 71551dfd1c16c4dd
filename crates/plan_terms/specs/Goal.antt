-- What a goal means, and what it says of an action.
use Rattle.std.specs.Prelude.{ℕ, Bool, ◌+◌, ◌<◌, ◌≤◌, zero, suc, List, length}
use Rattle.plan_terms.specs.Cluster.{Cluster, Lists, list_of}
use Rattle.plan_terms.specs.Effect.{after}
use Rattle.plan_terms.specs.declared.actions.Action.{Action}

-- a goal for one cluster: whether it is hard, how many units it has, and how far the lists exceed it at each unit
pub record Meaning : Type 0 where
  pub hard : Bool
  pub units : ℕ
  pub excess : Lists → ℕ → ℕ

-- f 0 + f 1 + .. below n
abbrev pub sum_below : (ℕ → ℕ) → ℕ → ℕ
sum_below f zero = 0
sum_below f (suc n) = sum_below f n + f n

-- the sum of a goal's excesses: it is met where that is 0, and broken elsewhere
unfoldable pub measure : Meaning → Lists → ℕ
measure g lists = sum_below (g.excess lists) g.units

-- no unit's excess is greater afterwards
pub record Accepts (g : Meaning) (lists : Lists) (a : Action) : Type 0 where
  pub no_unit_rises : (u : ℕ) → u < g.units → g.excess (after a lists) u ≤ g.excess lists u

-- the measure is smaller afterwards
abbrev pub Lessens : Meaning → Lists → Action → Type 0
Lessens g lists a = measure g (after a lists) < measure g lists

-- a goal with one unit for each partition, whose excess is a number of its list
abbrev pub per_partition : Bool → (List ℕ → ℕ) → Cluster → Meaning
per_partition hard f c = record { hard = hard; units = length c.parts; excess = λ lists p. f (list_of lists p) }
