-- Lists of at most 16 brokers.
use Rattle.std.specs.Prelude.{◌≤◌, ℕ, List, length}
use Rattle.std.specs.List.{All}

-- each list has at most 16 members
abbrev pub AreFew : List (List ℕ) → Type 0
AreFew lists = All (λ list. length list ≤ 16) lists
