-- What memory tells.
use Rattle.std.specs.Prelude.{ℕ, ◌<◌, ⊤, List, length, find, option_map, Option, MatchOption, string_bytes, bytes_eq}
use Rattle.test_fakes.specs.declared.memory.MemoryFile.{MemoryFile}

-- the contents of the first file of that name
abbrev pub contents_of : List MemoryFile → List ℕ → Option (List ℕ)
contents_of files name = option_map (λ f. f.bytes.items) (find (λ f. bytes_eq (string_bytes f.name) name) files)

-- a file that is not loaded: there is none, or it is longer than files may be
abbrev pub IsRefused : Option (List ℕ) → Type 0
IsRefused told = MatchOption told ⊤ (λ bytes. 67108864 < length bytes)
