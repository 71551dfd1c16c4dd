-- The two brokers of an action, its partitions, and the laws by which a pair of brokers or a partition can be left out.
use Rattle.std.specs.Prelude.{◌≡◌, ℕ, ◌≤◌, Bool, false, ◌||◌, IsTrue, List, get_or}
use Rattle.plan_terms.specs.Cluster.{Lists, list_of}
use Rattle.plan_terms.specs.Goal.{Meaning, Lessens}
use Rattle.plan_terms.specs.Fits.{fits}
use Rattle.plan_terms.specs.declared.cluster.Part.{Part}
use Rattle.plan_terms.specs.declared.actions.Action.{Action}
use Rattle.plan_terms.specs.declared.actions.Action.TheVariants.{Move, Lead, Swap}
use Rattle.goal_terms.specs.Quantity.{Weights, trade}
use Rattle.goal_terms.specs.declared.heat.Heat.{Heat}
use Rattle.goal_terms.specs.declared.heat.Heat.TheVariants.{Cold, Above, Below}

-- the broker that a replica or the lead leaves
abbrev pub giver : Lists → Action → ℕ
giver lists (Move p a b) = a
giver lists (Lead p b) = get_or (list_of lists p) 0 0
giver lists (Swap p a q b) = a

-- the broker that takes it
abbrev pub taker : Action → ℕ
taker (Move p a b) = b
taker (Lead p b) = b
taker (Swap p a q b) = b

-- an action of two cold brokers does not lessen the goal
pub record ColdPairs (g : Meaning) (heat : ℕ → Heat) (lists : Lists) : Type 0 where
  pub none : (a : Action) → IsTrue (fits lists a) → heat (giver lists a) ≡ Cold → heat (taker a) ≡ Cold → Lessens g lists a → ⊥

-- one of the partitions that an action touches passes the test
abbrev pub touches : (ℕ → Bool) → Action → Bool
touches test (Move p a b) = test p
touches test (Lead p b) = test p
touches test (Swap p a q b) = test p || test q

-- an action none of whose partitions stirs does not lessen the goal
pub record StillParts (g : Meaning) (stirs : ℕ → Bool) (lists : Lists) : Type 0 where
  pub none : (a : Action) → IsTrue (fits lists a) → touches stirs a ≡ false → Lessens g lists a → ⊥

-- a trade of equal weights does not lessen the goal; nor does one by which a broker that isn't below its bounds gets no less
-- and one that isn't above them no more
pub record IdleTrades (g : Meaning) (heat : ℕ → Heat) (parts : List Part) (lists : Lists) (w : Weights) : Type 0 where
  pub equal : (a : Action) → IsTrue (fits lists a) → (trade w parts lists a).out ≡ (trade w parts lists a).back → Lessens g lists a → ⊥
  pub rising : (a : Action) → IsTrue (fits lists a) → (heat (giver lists a) ≡ Below → ⊥) → (heat (taker a) ≡ Above → ⊥)
      → (trade w parts lists a).out ≤ (trade w parts lists a).back → Lessens g lists a → ⊥
  pub falling : (a : Action) → IsTrue (fits lists a) → (heat (giver lists a) ≡ Above → ⊥) → (heat (taker a) ≡ Below → ⊥)
      → (trade w parts lists a).back ≤ (trade w parts lists a).out → Lessens g lists a → ⊥
