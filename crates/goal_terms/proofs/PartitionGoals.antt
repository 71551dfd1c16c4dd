-- Goals over partitions about lost and demoted brokers are small.
use Rattle.std.proofs.Common.{ℕ, ◌^◌, ◌<◌, ◌≤◌, Bool, true, false, List, [], ◌∷◌, length, suc, arith}
use Rattle.std.specs.Prelude.{if◌then◌else◌}
use Rattle.std.proofs.lemmas.List.Sums.{count_by-le-length}
use Rattle.plan_terms.specs.Belongs.{Belongs}
use Rattle.plan_terms.specs.Cluster.{Cluster, Lists, some_broker}
use Rattle.plan_terms.specs.Goal.{measure}
use Rattle.plan_terms.specs.Legal.{is_lost}
use Rattle.plan_terms.specs.States.{is_demoted}
use Rattle.plan_terms.proofs.PartitionLemmas.{per_partition-fits_120_bits}
use Rattle.goal_terms.specs.Partitions.{lost_members, demoted_first, evacuation_goal, demotion_goal}

-- no more members are lost than there are
pub lost_members-le : (c : Cluster) (list : List ℕ) → lost_members c list ≤ length list
lost_members-le c list = count_by-le-length (is_lost c) list

-- only a list with a member has a first one
pub demoted_first-le : (c : Cluster) (list : List ℕ) → demoted_first c list ≤ length list
demoted_first-le c [] = omega arith
demoted_first-le c (x ∷ xs) = one (some_broker (λ y. is_demoted y.state) c x) where
  one : (t : Bool) → (if t then 1 else 0) ≤ suc (length xs)
  one true = omega arith
  one false = omega arith

-- both measures are small
pub evacuation-fits_120_bits : (c : Cluster) (lists : Lists) → length c.parts ≤ 10000 → Belongs c lists → measure (evacuation_goal c) lists < 2 ^ 120
evacuation-fits_120_bits c lists few belongs = per_partition-fits_120_bits true (lost_members c) c lists belongs few (lost_members-le c)

-- and so is that of leaders that are not to lead
pub demotion-fits_120_bits : (c : Cluster) (lists : Lists) → length c.parts ≤ 10000 → Belongs c lists → measure (demotion_goal c) lists < 2 ^ 120
demotion-fits_120_bits c lists few belongs = per_partition-fits_120_bits false (demoted_first c) c lists belongs few (demoted_first-le c)
