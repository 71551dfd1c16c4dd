-- The calls of an admin.
use Rattle.std.specs.Prelude.{ℕ, List, [], ◌∷◌, ◌++◌, Option, option_map}

-- a call that went through: the lists of all partitions were set, or that of one to the union of its old and its new list, to its new one, or
-- back to its old one
pub data AdminCall : Type 0 where
  installed : List (List ℕ) → AdminCall
  begun : (part : ℕ) (union : List ℕ) → AdminCall
  committed : (part : ℕ) (after : List ℕ) → AdminCall
  cancelled : (part : ℕ) (before : List ℕ) → AdminCall

-- what is told, with this call at its end
abbrev pub with_call : Option (List AdminCall) → AdminCall → Option (List AdminCall)
with_call told call = option_map (λ calls. calls ++ call ∷ []) told
