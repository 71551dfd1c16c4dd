-- Lists of names in the value of an option.
use Rattle.std.specs.Prelude.{ℕ, List, [], Option, Some, None}
use Rattle.plan_terms.specs.Commas.{names_in}

-- the names in the value of an option; where it isn't given there are none
abbrev pub names_of : Option (List ℕ) → List (List ℕ)
names_of None = []
names_of (Some text) = names_in text
