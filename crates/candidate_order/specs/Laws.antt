-- What is proved of lists of candidates. Each law is the contract of a function in `src/laws.rt`.
use Rattle.std.specs.Prelude.{◌≡◌, ℕ, Bool, ◌++◌, List}
use Rattle.std.specs.List.{filter}
use Rattle.plan_terms.specs.Belongs.{Belongs}
use Rattle.plan_terms.specs.Cluster.{Cluster, Lists}
use Rattle.plan_terms.specs.Goal.{Meaning}
use Rattle.plan_terms.specs.Trace.{Step, NoneLeft}
use Rattle.plan_terms.specs.declared.actions.Action.{Action}
use Rattle.candidate_order.specs.CandidateList.{NoStep, FirstStep, replicas_of, move_list, lead_list, swap_list, candidate_list}
use Rattle.candidate_order.specs.Order.{AreReplicasOf}
use Rattle.candidate_order.specs.First.{IsFirst, LeavesOutIdle}

-- where what does not serve is left out, the first that serves stays, and where none is left none was there; and the first
-- of two lists in a row is that of the one in front, or where none of that one serves that of the one behind
pub record FiltersKeepTheFirst (c : Cluster) (earlier : List Meaning) (goal : Meaning) (lists : Lists) : Type 0 where
  pub first : (keep : Action → Bool) (xs : List Action) (a : Action) → LeavesOutIdle keep (Step c earlier goal lists) xs
      → IsFirst (Step c earlier goal lists) (filter keep xs) a → IsFirst (Step c earlier goal lists) xs a
  pub none : (keep : Action → Bool) (xs : List Action) → LeavesOutIdle keep (Step c earlier goal lists) xs
      → NoStep c earlier goal lists (filter keep xs) → NoStep c earlier goal lists xs
  pub in_front : (xs ys : List Action) (a : Action) → IsFirst (Step c earlier goal lists) xs a → IsFirst (Step c earlier goal lists) (xs ++ ys) a
  pub passed : (xs ys : List Action) (a : Action) → NoStep c earlier goal lists xs
      → IsFirst (Step c earlier goal lists) ys a → IsFirst (Step c earlier goal lists) (xs ++ ys) a

-- the partitions of a broker's replicas, by their order and their members alone
pub record ReplicasAreUnique (c : Cluster) (lists : Lists) (b : ℕ) : Type 0 where
  pub are : AreReplicasOf c lists b (replicas_of c lists b)
  pub only : (xs : List ℕ) → AreReplicasOf c lists b xs → xs ≡ replicas_of c lists b

-- where no candidate is a step, no legal action is
abbrev pub CandidatesAreAll : Type 0
CandidatesAreAll = (c : Cluster) (earlier : List Meaning) (goal : Meaning) (lists : Lists) → Belongs c lists
    → NoStep c earlier goal lists (candidate_list c lists) → NoneLeft c earlier goal lists

-- the first step of the candidates is that of the moves, or where no move is one that of the leads, or else that of the swaps
pub record MovesComeFirst (c : Cluster) (earlier : List Meaning) (goal : Meaning) (lists : Lists) : Type 0 where
  pub moves : (a : Action) → IsFirst (Step c earlier goal lists) (move_list c lists) a → FirstStep c earlier goal lists a
  pub leads : (a : Action) → NoStep c earlier goal lists (move_list c lists) → IsFirst (Step c earlier goal lists) (lead_list c lists) a → FirstStep c earlier goal lists a
  pub swaps : (a : Action) → NoStep c earlier goal lists (move_list c lists) → NoStep c earlier goal lists (lead_list c lists)
      → IsFirst (Step c earlier goal lists) (swap_list c lists) a → FirstStep c earlier goal lists a
  pub none : NoStep c earlier goal lists (move_list c lists) → NoStep c earlier goal lists (lead_list c lists) → NoStep c earlier goal lists (swap_list c lists)
      → NoStep c earlier goal lists (candidate_list c lists)
