-- The topics that a request leaves out, kept as a set.
use Rattle.std.specs.Prelude.{◌≡◌, ℕ, List, String, bytes_eq}
use Rattle.std.specs.HashSet.{HashSet, contains_text}
use Rattle.std.specs.List.{list_any}

-- the set has the topics of the list
abbrev pub HasTopics : {A S : Type 0} → HashSet (String A) S → List (List ℕ) → Type 0
HasTopics set topics = (topic : List ℕ) → contains_text set topic ≡ list_any (bytes_eq topic) topics
