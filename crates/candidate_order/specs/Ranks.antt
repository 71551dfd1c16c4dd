-- How a row in order changes.
use Rattle.std.specs.Prelude.{◌≡◌, ℕ, ◌<◌, ◌≤◌, List, length, get_or}
use Rattle.std.specs.List.{insert, remove}

-- x, which weighs n, goes before y, which weighs m: it weighs more, or as much and is less
pub record IsAhead (n x m y : ℕ) : Type 0 where
  pub falls : m ≤ n
  pub ties : n ≤ m → x < y

-- x, which weighs n, goes to the i-th place of a row in order
pub record IsPlaceFor (f : ℕ → ℕ) (n x : ℕ) (xs : List ℕ) (i : ℕ) : Type 0 where
  pub within : i ≤ length xs
  pub before : (k : ℕ) → k < i → IsAhead (f (get_or xs k 0)) (get_or xs k 0) n x
  pub behind : (k : ℕ) → i ≤ k → k < length xs → IsAhead n x (f (get_or xs k 0)) (get_or xs k 0)

-- x, which weighs n, came to its place
pub record IsPut (f : ℕ → ℕ) (n x : ℕ) (xs ys : List ℕ) : Type 0 where
  pub place : ℕ
  pub fits : IsPlaceFor f n x xs place
  pub is : ys ≡ insert xs place x

-- x went
pub record IsTaken (x : ℕ) (xs ys : List ℕ) : Type 0 where
  pub place : ℕ
  pub within : place < length xs
  pub at : get_or xs place 0 ≡ x
  pub is : ys ≡ remove xs place

-- x went, and then y, which weighs n, came to its place
pub record IsTraded (f : ℕ → ℕ) (x n y : ℕ) (xs ys : List ℕ) : Type 0 where
  pub between : List ℕ
  pub taken : IsTaken x xs between
  pub put : IsPut f n y between ys
