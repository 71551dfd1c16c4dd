-- What a look shows.
use Rattle.std.specs.Prelude.{ℕ, List}
use Rattle.plan_terms.specs.Cluster.{Cluster, Lists}

-- the lost brokers, each with the moment since which it is known to be lost; the present cluster, and its settled lists
pub record LookedView : Type 0 where
  pub since : List (ℕ × ℕ)
  pub case : Cluster
  pub lists : Lists
