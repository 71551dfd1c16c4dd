-- What an action leaves as it is of what is said of another: everything, where the two share no broker and no partition.
use Rattle.std.specs.Prelude.{◌≡◌, ℕ, ◌==◌, true, false, ◌↔◌, IsTrue}
use Rattle.plan_terms.specs.Cluster.{Lists}
use Rattle.plan_terms.specs.Effect.{after}
use Rattle.plan_terms.specs.Fits.{fits}
use Rattle.plan_terms.specs.Goal.{Meaning, Accepts, Lessens}
use Rattle.plan_terms.specs.declared.actions.Action.{Action}
use Rattle.goal_terms.specs.Pairs.{giver, taker, touches}

-- the broker is neither of the two of the action
pub record IsNeither (lists : Lists) (x : Action) (k : ℕ) : Type 0 where
  pub gives : k ≡ giver lists x → ⊥
  pub takes : k ≡ taker x → ⊥

-- no partition of the second action is one of the first
pub record HaveOtherParts (x y : Action) : Type 0 where
  pub none : (p : ℕ) → touches (λ q. q == p) y ≡ true → touches (λ q. q == p) x ≡ false

-- the two actions share no broker and no partition
pub record AreApart (lists : Lists) (x y : Action) : Type 0 where
  pub from : IsNeither lists x (giver lists y)
  pub to : IsNeither lists x (taker y)
  pub parts : HaveOtherParts x y

-- the goal says the same of the action on both lists
pub record SaysTheSame (g : Meaning) (before later : Lists) (y : Action) : Type 0 where
  pub accepts : Accepts g before y ↔ Accepts g later y
  pub lessens : Lessens g before y ↔ Lessens g later y

-- an action leaves what the goal says of every other that is apart from it
pub record VerdictsStay (g : Meaning) (lists : Lists) : Type 0 where
  pub stay : (x y : Action) → IsTrue (fits lists x) → IsTrue (fits lists y) → AreApart lists x y → SaysTheSame g lists (after x lists) y
