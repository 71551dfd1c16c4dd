-- The bounds of what brokers use of a resource.
use Rattle.std.specs.Prelude.{ℕ, Bool, true, false}
use Rattle.goal_terms.proofs.BandLemmas.{near_use-small, below_use-small}
use Rattle.goal_terms.specs.Bands.{near_use, below_use, whole_cap}
use Rattle.goal_terms.specs.Limits.{Limits, SmallBounds}
use Rattle.goal_terms.specs.PerBroker.{Bounds}
use Rattle.plan_terms.specs.Cluster.{Cluster}
use Rattle.plan_terms.specs.Fraction.{Fraction, IsRatio}

-- with a bound from below, or without
abbrev pub use_bounds : Bool → Fraction → ℕ → ℕ → Bounds
use_bounds true = near_use
use_bounds false = below_use

-- they are small
pub use_bounds-small : (floored : Bool) (ratio : Fraction) (r : ℕ) (c : Cluster) → IsRatio ratio.num ratio.den → Limits c
    → SmallBounds (use_bounds floored ratio r (whole_cap r c))
use_bounds-small true = near_use-small
use_bounds-small false = below_use-small
