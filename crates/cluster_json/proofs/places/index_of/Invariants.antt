use Rattle.std.proofs.Common.{◌≡◌, map, drop}
use Rattle.std.specs.Map.{lookup}
use Rattle.std.specs.Option.{option_or}
use Rattle.cluster_json.specs.Places.{Name, same_name}
use Rattle.cluster_json.specs.Samples.{is_named, place_from, place_of}
use Rattle.cluster_json.proofs.places.index_of.Given as goal

abbrev pub invariant-loop-place : goal.invariant-loop-place
invariant-loop-place l = (name : Name) → option_or (lookup (same_name name) l.index.entries) (place_from (is_named name.0.now name.1) l.place (map (λ p. p.part) (drop l.place l.parts)))
    ≡ place_of (map (λ p. p.part) l.parts) name.0.now name.1
