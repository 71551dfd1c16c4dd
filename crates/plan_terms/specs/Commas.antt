-- Lists that are parted by commas.
use Rattle.plan_terms.specs.Bytes.{comma}
use Rattle.std.specs.Prelude.{ℕ, ◌==◌, List, [], ◌∷◌, if◌then◌else◌}

-- the byte joins the first piece
abbrev pub onto_first : ℕ → List (List ℕ) → List (List ℕ)
onto_first b [] = (b ∷ []) ∷ []
onto_first b (piece ∷ pieces) = (b ∷ piece) ∷ pieces

-- the pieces between the commas
unfoldable pub pieces : List ℕ → List (List ℕ)
pieces [] = [] ∷ []
pieces (b ∷ bytes) = if b == comma then [] ∷ pieces bytes else onto_first b (pieces bytes)

-- the names in a text; an empty text has none
abbrev pub names_in : List ℕ → List (List ℕ)
names_in [] = []
names_in (b ∷ bytes) = pieces (b ∷ bytes)
