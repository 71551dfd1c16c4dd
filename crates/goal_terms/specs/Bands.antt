-- The bounds of the goals over brokers.
use Rattle.std.specs.Prelude.{ℕ, ◌+◌, ◌-◌, ◌*◌, ◌/◌, length, slice_index}
use Rattle.std.specs.List.{sum_by}
use Rattle.plan_terms.specs.Cluster.{Cluster}
use Rattle.plan_terms.specs.Fraction.{Fraction}
use Rattle.goal_terms.specs.PerBroker.{Bounds, unit_brokers}

-- how many brokers aren't lost
abbrev pub units_of : Cluster → ℕ
units_of c = length (unit_brokers c.brokers)

-- the capacities of the brokers that aren't lost, added up
abbrev pub whole_cap : ℕ → Cluster → ℕ
whole_cap r c = sum_by (λ x. slice_index x.cap r) (unit_brokers c.brokers)

-- as far below 1 as the ratio is above it, times its denominator, or 0
abbrev pub low_of : Fraction → ℕ
low_of ratio = 2 * ratio.den - ratio.num

-- a count of at most that many
abbrev pub at_most : ℕ → Bounds
at_most most = record { scale = 1; upper = λ _ _. most; lower = λ _ _. 0 }

-- at most that part of the broker's capacity
abbrev pub within_capacity : Fraction → ℕ → Bounds
within_capacity ratio r = record { scale = ratio.den; upper = λ _ x. ratio.num * slice_index x.cap r; lower = λ _ _. 0 }

-- the quotient, or the next whole number above it
abbrev pub rounded_up : ℕ → ℕ → ℕ
rounded_up x y = (x + y - 1) / y

-- a count near the n-th part of all
abbrev pub even : Fraction → ℕ → Bounds
even ratio n = record {
  scale = 1;
  upper = λ all _. rounded_up (all * ratio.num) (ratio.den * n);
  lower = λ all _. all * low_of ratio / (ratio.den * n);
}

-- a use near that of all brokers together, whose capacities have the sum t
abbrev pub near_use : Fraction → ℕ → ℕ → Bounds
near_use ratio r t = record {
  scale = t * ratio.den;
  upper = λ all x. ratio.num * all * slice_index x.cap r;
  lower = λ all x. low_of ratio * all * slice_index x.cap r;
}

-- a use at most that much above that of all brokers together
abbrev pub below_use : Fraction → ℕ → ℕ → Bounds
below_use ratio r t = record {
  scale = t * ratio.den;
  upper = λ all x. ratio.num * all * slice_index x.cap r;
  lower = λ _ _. 0;
}
