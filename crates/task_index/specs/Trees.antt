-- A tree of flags, level by level from the lowest, which has the flags.
use Rattle.std.specs.Prelude.{◌≡◌, ℕ, ◌+◌, ◌-◌, ◌*◌, ◌/◌, ◌<◌, ◌≤◌, Bool, false, ◌||◌, List, [], length, get_or}

-- the level at a height
abbrev pub level_at : List (List Bool) → ℕ → List Bool
level_at levels h = get_or levels h []

-- the flag at a place of a level is up
abbrev pub flag_at : List (List Bool) → ℕ → ℕ → Bool
flag_at levels h k = get_or (level_at levels h) k false

-- one of the two flags is up that place k of the next level stands for
abbrev pub pair_at : List (List Bool) → ℕ → ℕ → Bool
pair_at levels h k = flag_at levels h (2 * k) || flag_at levels h (2 * k + 1)

-- a flag above the lowest level is up where one of its two is; each flag has one above it; the highest level has one at most
pub record AreLevels (levels : List (List Bool)) : Type 0 where
  pub some : 0 < length levels
  pub few : (h : ℕ) → length (level_at levels h) < 4294967296
  pub wide : (h p : ℕ) → h + 1 < length levels → p < length (level_at levels h) → p / 2 < length (level_at levels (h + 1))
  pub pairs : (h k : ℕ) → h + 1 < length levels → flag_at levels (h + 1) k ≡ pair_at levels h k
  pub top : length (level_at levels (length levels - 1)) ≤ 1
