-- The range of loads.
use Rattle.plan_terms.specs.Resources.{CPU, NW_IN, NW_OUT, DISK}
use Rattle.std.specs.Prelude.{◌≡◌, ◌<◌, ℕ, List, slice_index}
use Rattle.plan_terms.specs.declared.cluster.Loads.{Loads}

-- the number of each resource is below the top
pub record EachBelow (top : ℕ) (xs : List ℕ) : Type 0 where
  pub cpu : slice_index xs CPU < top
  pub nw_in : slice_index xs NW_IN < top
  pub nw_out : slice_index xs NW_OUT < top
  pub disk : slice_index xs DISK < top

-- each number is below 2^32, and a follower sends nothing to clients
pub record IsLoads (x : Loads) : Type 0 where
  pub lead : EachBelow 4294967296 x.lead
  pub follow : EachBelow 4294967296 x.follow
  pub silent : slice_index x.follow NW_OUT ≡ 0
