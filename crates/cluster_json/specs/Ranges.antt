-- The ranges that a file that was read keeps.
use Rattle.std.specs.Prelude.{◌≡◌, ℕ, List, ◌^◌, ◌<◌, ◌≤◌, length, slice_index}
use Rattle.std.specs.List.{All}
use Rattle.plan_terms.specs.Belongs.{Belongs}
use Rattle.plan_terms.specs.Fraction.{Fraction}
use Rattle.plan_terms.specs.declared.cluster.Loads.{Loads}
use Rattle.plan_terms.specs.declared.settings.Caps.{Caps}
use Rattle.plan_terms.specs.declared.settings.WindowRules.{WindowRules}
use Rattle.cluster_json.specs.declared.file.ClusterFile.{ClusterFile}
use Rattle.plan_terms.specs.Resources.{NW_OUT}
use Rattle.plan_terms.specs.declared.settings.Sample.{Sample}

-- values below 2^32, and nothing sent to clients
pub record IsSilent (r : List ℕ) : Type 0 where
  pub small : All (λ x. x < 2 ^ 32) r
  pub silent : slice_index r NW_OUT ≡ 0

-- values below 2^32, and a follower that sends nothing to clients
pub record AreLoads (l : Loads) : Type 0 where
  pub lead : All (λ x. x < 2 ^ 32) l.lead
  pub follow : All (λ x. x < 2 ^ 32) l.follow
  pub silent : slice_index l.follow NW_OUT ≡ 0

-- each cap is 1 to 10,000
pub record AreCaps (c : Caps) : Type 0 where
  pub some_broker : 1 ≤ c.broker
  pub few_broker : c.broker ≤ 10000
  pub some_cluster : 1 ≤ c.cluster
  pub few_cluster : c.cluster ≤ 10000
  pub some_leader : 1 ≤ c.leader
  pub few_leader : c.leader ≤ 10000

-- the ranges of windows
pub record AreRules (r : WindowRules) : Type 0 where
  pub some_width : 1 ≤ r.width
  pub wide : r.width ≤ 86400000
  pub some_keep : 1 ≤ r.keep
  pub few_keep : r.keep ≤ 100
  pub some_least : 1 ≤ r.least
  pub few_least : r.least ≤ 65536
  pub some_need : 1 ≤ r.need
  pub few_need : r.need ≤ 100

-- at least the one and below the other
pub record IsWithin (least limit n : ℕ) : Type 0 where
  pub at_least : least ≤ n
  pub below : n < limit

-- at most 1
pub record IsShare (f : Fraction) : Type 0 where
  pub within : f.num ≤ f.den

-- a sample of one of n partitions
pub record IsSample (n : ℕ) (s : Sample) : Type 0 where
  pub known : s.part < n
  pub time : s.time < 2 ^ 53
  pub loads : AreLoads s.loads

-- what a file keeps that was read: its lists belong to its cluster, and caps, windows, ratio and samples are in their ranges
pub record IsFile (f : ClusterFile) : Type 0 where
  pub belongs : Belongs f.case f.lists
  pub caps : AreCaps f.caps
  pub rules : AreRules f.rules
  pub share : IsShare f.ratio
  pub one_each : length f.with_load.items ≡ length f.case.parts
  pub samples : All (IsSample (length f.case.parts)) f.samples.items
