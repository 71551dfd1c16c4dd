-- How a count changes with one element of a list, or with all of them.
use Rattle.std.proofs.Common.{◌≡◌, ℕ, ◌+◌, ◌<◌, ◌≤◌, Bool, true, false, cond, List, [], ◌∷◌, map, length, get_or, set, arith, refl, zero, suc}
use Rattle.std.specs.List.{count_by, All}
use Rattle.std.proofs.lemmas.Bool.{false≢true, cond-true, cond-false}
use Rattle.std.proofs.lemmas.List.Sums.{sum_by-cons, sum_by-set}

-- a test that holds only where another held counts at most as much
pub one_le : (b c : Bool) → (b ≡ true → c ≡ true) → cond b 1 0 ≤ cond c 1 0
one_le true true h = omega arith
one_le true false h = absurd (false≢true (h refl))
one_le false true h = omega arith
one_le false false h = omega arith

pub one_le_one : (b : Bool) → cond b 1 0 ≤ 1
one_le_one true = omega arith
one_le_one false = omega arith

pub count_by-map : {X : Type 0} (p : X → Bool) (f : X → X) (quiet : (x : X) → p (f x) ≡ true → p x ≡ true) (xs : List X) → count_by p (map f xs) ≤ count_by p xs
count_by-map p f quiet [] = omega arith
count_by-map p f quiet (x ∷ xs) =
    omega (
      arith,
      sum_by-cons (λ y. cond (p y) 1 0) (f x) (map f xs),
      sum_by-cons (λ y. cond (p y) 1 0) x xs,
      one_le (p (f x)) (p x) (quiet x),
      count_by-map p f quiet xs,
    )

pub count_by-set : {X : Type 0} (p : X → Bool) (xs : List X) (i : ℕ) (y d : X) → i < length xs → (p y ≡ true → p (get_or xs i d) ≡ true) → count_by p (set xs i y) ≤ count_by p xs
count_by-set p xs i y d l h =
    omega (arith, sum_by-set (λ x. cond (p x) 1 0) xs i y d l, one_le (p y) (p (get_or xs i d)) h)

-- one element more at most
pub count_by-set_one : {X : Type 0} (p : X → Bool) (xs : List X) (i : ℕ) (y d : X) → i < length xs → count_by p (set xs i y) ≤ count_by p xs + 1
count_by-set_one p xs i y d l =
    omega (arith, sum_by-set (λ x. cond (p x) 1 0) xs i y d l, one_le_one (p y))

-- an element that passes is counted
pub count_by_some : {X : Type 0} (p : X → Bool) (xs : List X) (i : ℕ) (d : X) → i < length xs → p (get_or xs i d) ≡ true → 1 ≤ count_by p xs
count_by_some p [] i d l h = absurd (omega arith)
count_by_some p (x ∷ xs) zero d l h = omega (arith, sum_by-cons (λ y. cond (p y) 1 0) x xs, cond-true {A = ℕ} (p x) 1 0 h)
count_by_some p (x ∷ xs) (suc i) d l h = omega (arith, sum_by-cons (λ y. cond (p y) 1 0) x xs, count_by_some p xs i d (omega arith) h)

-- where none passes the count is 0
pub count_by_none : {X : Type 0} (p : X → Bool) (xs : List X) → All (λ x. p x ≡ false) xs → count_by p xs ≡ 0
count_by_none p [] h = refl
count_by_none p (x ∷ xs) h =
    omega (
      arith,
      sum_by-cons (λ y. cond (p y) 1 0) x xs,
      cond-false {A = ℕ} (p x) 1 0 (h 0 x (omega arith)),
      count_by_none p xs (λ k d l. h (suc k) d (omega arith)),
    )
