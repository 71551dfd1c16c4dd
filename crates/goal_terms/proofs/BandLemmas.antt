-- The bounds of the goals over brokers are small.
use Rattle.std.proofs.Common.{ℕ, ◌*◌, ◌^◌, ◌<◌, ◌≤◌, arith}
use Rattle.std.specs.Prelude.{slice_index}
use Rattle.std.specs.List.{All}
use Rattle.std.proofs.lemmas.List.Sums.{sum_by-le}
use Rattle.plan_terms.specs.Cluster.{Cluster}
use Rattle.goal_terms.specs.Limits.{Limits, SmallBounds}
use Rattle.goal_terms.specs.PerBroker.{unit_brokers}
use Rattle.goal_terms.specs.Bands.{whole_cap, low_of, at_most, within_capacity, even, near_use, below_use}
use Rattle.goal_terms.proofs.BoundLemmas.{product-le, All-units, length-units}
use Rattle.plan_terms.specs.declared.cluster.Broker.{Broker}
use Rattle.plan_terms.specs.Fraction.{Fraction, IsRatio}
use native.Mathlib.Nat.{div-le_self}

-- all capacities together are below 2^48
pub whole_cap-le : (r : ℕ) (c : Cluster) → Limits c → whole_cap r c < 2 ^ 48
whole_cap-le r c limits =
    let caps : All (λ x. slice_index x.cap r ≤ 1099511627775) (unit_brokers c.brokers) =
    All-units (λ x. slice_index x.cap r ≤ 1099511627775) c.brokers (λ k d l. omega (arith, (limits.caps k d l).each r)) in
    omega (
      arith,
      sum_by-le (λ (x : Broker). slice_index x.cap r) 1099511627775 (unit_brokers c.brokers) caps,
      length-units c.brokers,
      limits.few_brokers,
    )

-- a count's bounds are small
pub at_most-small : (most : ℕ) → SmallBounds (at_most most)
at_most-small most = record { scale = omega arith; lower = λ n x l h. omega arith }

-- so are those of a part of the capacity
pub within_capacity-small : (ratio : Fraction) (r : ℕ) → IsRatio ratio.num ratio.den → SmallBounds (within_capacity ratio r)
within_capacity-small ratio r h = record { scale = omega (arith, h.few); lower = λ n x l k. omega arith }

-- what a ratio is below 1 is at most 2, times its denominator
pub low-le : (ratio : Fraction) → IsRatio ratio.num ratio.den → low_of ratio ≤ 2000
low-le ratio h = omega (arith, h.few)

-- even shares are small
pub even-small : (ratio : Fraction) (n : ℕ) → IsRatio ratio.num ratio.den → SmallBounds (even ratio n)
even-small ratio n h = record {
  scale = omega arith;
  lower = λ all x l k. omega (arith, div-le_self (all * low_of ratio) (ratio.den * n), product-le all (low_of ratio) (2 ^ 49) 2000 (omega arith) (low-le ratio h));
}

-- the scale of a use is at most 2^58
pub use_scale-le : (ratio : Fraction) (r : ℕ) (c : Cluster) → IsRatio ratio.num ratio.den → Limits c → whole_cap r c * ratio.den ≤ 2 ^ 58
use_scale-le ratio r c h limits =
    let cap = whole_cap-le r c limits in
    omega (arith, product-le (whole_cap r c) ratio.den (2 ^ 48) 1000 (omega arith) h.few)

-- the bounds of a use near that of all are small
pub near_use-small : (ratio : Fraction) (r : ℕ) (c : Cluster) → IsRatio ratio.num ratio.den → Limits c → SmallBounds (near_use ratio r (whole_cap r c))
near_use-small ratio r c h limits = record {
  scale = use_scale-le ratio r c h limits;
  lower = λ all x l k.
      let low : low_of ratio * all ≤ 2000 * 2 ^ 49 = product-le (low_of ratio) all 2000 (2 ^ 49) (low-le ratio h) (omega arith) in
      let cap = k.each r in
      omega (arith, product-le (low_of ratio * all) (slice_index x.cap r) (2000 * 2 ^ 49) (2 ^ 40) low (omega arith));
}

-- so are those of a use at most that much above it
pub below_use-small : (ratio : Fraction) (r : ℕ) (c : Cluster) → IsRatio ratio.num ratio.den → Limits c → SmallBounds (below_use ratio r (whole_cap r c))
below_use-small ratio r c h limits = record { scale = use_scale-le ratio r c h limits; lower = λ n x l k. omega arith }

-- and the products fit 128 bits
pub use-fits : (num all cap : ℕ) → num ≤ 9999999 → all < 2 ^ 49 → cap < 1099511627776 → (num * all < 2 ^ 73) × (num * all * cap < 2 ^ 114)
use-fits num all cap h l k =
    let front : num * all ≤ 9999999 * 2 ^ 49 = product-le num all 9999999 (2 ^ 49) h (omega arith) in
    (omega arith, omega (arith, product-le (num * all) cap (9999999 * 2 ^ 49) (2 ^ 40) front (omega arith)))
