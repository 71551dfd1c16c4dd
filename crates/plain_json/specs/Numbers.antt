-- Whole numbers, as JSON.
use Rattle.std.specs.Prelude.{ℕ, List, map}
use Rattle.serde_json.specs.Data.{Data, number, unsigned, array}
use Rattle.serde_json.specs.View.{items_of}

-- a whole number
abbrev pub number_data : ℕ → Data
number_data n = number (unsigned n)

-- an array of whole numbers
abbrev pub numbers_data : List ℕ → Data
numbers_data ns = array (items_of (map number_data ns))
