-- An index from the names of partitions to their places.
use Rattle.std.specs.Prelude.{◌≡◌, ℕ, ◌==◌, ◌&&◌, Bool, List, bytes_eq, Some, None, if◌then◌else◌}
use Rattle.std.specs.Option.{option_or}
use Rattle.std.specs.Borrow.{Bor}
use Rattle.std.specs.Map.{lookup}
use Rattle.plan_terms.specs.declared.cluster.Part.{Part}
use Rattle.cluster_json.specs.Samples.{place_of}

-- a topic and a number
abbrev pub Name : Type 0
Name = Bor (List ℕ) × ℕ

abbrev pub same_name : Name → Name → Bool
same_name a b = bytes_eq a.0.now b.0.now && (a.1 == b.1)

-- the entries give each name its place
pub record ArePlaces (parts : List Part) (entries : List (Name × ℕ)) : Type 0 where
  pub each : (name : Name) → lookup (same_name name) entries ≡ place_of parts name.0.now name.1

-- the name has the place, unless it had one; each other keeps its own
pub record Notes (name : Name) (place : ℕ) (old new : List (Name × ℕ)) : Type 0 where
  pub each : (other : Name) → lookup (same_name other) new ≡ option_or (lookup (same_name other) old) (if same_name other name then Some place else None)
