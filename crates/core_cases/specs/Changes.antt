-- Lists with one member changed.
use Rattle.std.specs.Prelude.{ℕ, zero, suc, List, [], ◌∷◌, Option, Some, None}
use Rattle.plan_terms.specs.declared.cluster.Loads.{Loads}
use Rattle.plan_terms.specs.declared.cluster.Part.{Part}
use Rattle.load_model.specs.Changed.{with_loads}

-- the member at place i, if there is one, is changed by f
abbrev pub changed_at : {X : Type 0} → (X → X) → List X → ℕ → List X
changed_at f [] i = []
changed_at f (x ∷ xs) zero = f x ∷ xs
changed_at f (x ∷ xs) (suc i) = x ∷ changed_at f xs i

-- the partition at a place with other loads, where there are any
abbrev pub loaded_at : List Part → ℕ → Option Loads → List Part
loaded_at parts i None = parts
loaded_at parts i (Some loads) = with_loads parts i loads
