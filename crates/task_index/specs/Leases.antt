-- The leases that are out, by task, and in order of their numbers.
use Rattle.std.specs.Prelude.{◌≡◌, ℕ, ◌<◌, ◌≤◌, Bool, false, ◌==◌, List, length, get_or, Option, Some, None, is_some}
use Rattle.std.specs.List.{count_by}

-- the task's lease has this number
abbrev pub is_number : ℕ → Option ℕ → Bool
is_number n None = false
is_number n (Some m) = m == n

-- the number of the lease of the task at a place
abbrev pub lease_at : List (Option ℕ) → ℕ → Option ℕ
lease_at leases i = get_or leases i None

-- the task has the lease of this number already, or the number is above those of all leases that are out
pub record IsNext (leases : List (Option ℕ)) (i n : ℕ) : Type 0 where
  pub above : (lease_at leases i ≡ Some n → ⊥) → (j m : ℕ) → lease_at leases j ≡ Some m → m < n

-- a place of the numbers has this one, and the holders beside it this task
pub record IsFiled (numbers holders : List ℕ) (i n : ℕ) : Type 0 where
  pub place : ℕ
  pub within : place < length numbers
  pub number : get_or numbers place 0 ≡ n
  pub holder : get_or holders place 0 ≡ i

-- the numbers of the leases that are out rise, and beside each is the task that has it
pub record AreOut (leases : List (Option ℕ)) (numbers holders : List ℕ) : Type 0 where
  pub same : length holders ≡ length numbers
  pub rising : (a b : ℕ) → a < b → b < length numbers → get_or numbers a 0 < get_or numbers b 0
  pub each : (a : ℕ) → a < length numbers → lease_at leases (get_or holders a 0) ≡ Some (get_or numbers a 0)
  pub all : (i n : ℕ) → lease_at leases i ≡ Some n → IsFiled numbers holders i n
  pub count : length numbers ≡ count_by is_some leases

-- the same, and there is room for a lease of each task
pub record AreFiled (leases : List (Option ℕ)) (numbers holders : List ℕ) (room room' : ℕ) : Type 0 where
  pub few : length leases < 4294967296
  pub out : AreOut leases numbers holders
  pub numbers_fit : length leases ≤ room
  pub holders_fit : length leases ≤ room'
