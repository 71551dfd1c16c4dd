-- The lists that an admin tells.
use Rattle.std.specs.Prelude.{ℕ, List, Option, option_map, slice_set}

-- where lists are told, these are
abbrev pub installed : Option (List (List ℕ)) → List (List ℕ) → Option (List (List ℕ))
installed told lists = option_map (λ _. lists) told

-- what is told, with this list for the partition
abbrev pub with_list : Option (List (List ℕ)) → ℕ → List ℕ → Option (List (List ℕ))
with_list told part list = option_map (λ lists. slice_set lists part list) told
