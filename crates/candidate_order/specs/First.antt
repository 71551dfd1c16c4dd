-- The first of a list that serves.
use Rattle.std.specs.Prelude.{◌≡◌, ◌++◌, ◌∷◌, Bool, false, List}
use Rattle.std.specs.List.{All}

-- x serves, and nothing before it in the list does
pub record IsFirst {X : Type 0} (P : X → Type 0) (xs : List X) (x : X) : Type 0 where
  pub before : List X
  pub behind : List X
  pub is : xs ≡ before ++ x ∷ behind
  pub none_before : All (λ y. P y → ⊥) before
  pub serves : P x

-- what the test leaves out does not serve
pub record LeavesOutIdle {X : Type 0} (keep : X → Bool) (P : X → Type 0) (xs : List X) : Type 0 where
  pub idle : All (λ x. keep x ≡ false → P x → ⊥) xs
