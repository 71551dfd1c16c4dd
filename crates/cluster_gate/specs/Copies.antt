-- The copies that a copier tells.
use Rattle.std.specs.Prelude.{List, [], ◌∷◌, ◌++◌, Option, option_map}
use Rattle.cluster_gate.specs.declared.copier.ChunkCopy.{ChunkCopy}

-- what is told, with this copy at its end
abbrev pub with_copy : Option (List ChunkCopy) → ChunkCopy → Option (List ChunkCopy)
with_copy told copy = option_map (λ copies. copies ++ copy ∷ []) told
