-- How a count of a list changes, exactly, with one element of it or one more.
use Rattle.std.proofs.Common.{◌≡◌, ℕ, ◌+◌, ◌<◌, Bool, true, false, cond, List, length, get_or, set, arith, ap}
use Rattle.std.specs.Prelude.{None}
use Rattle.std.specs.List.{count_by, position}
use Rattle.std.proofs.lemmas.Bool.{cond-true, cond-false}
use Rattle.std.proofs.lemmas.List.Sums.{sum_by-set}
use Rattle.exec_terms.proofs.Counts.{count_by_none}
use Rattle.exec_terms.proofs.WorkLeft.{position-None}

-- where no element passes the count is 0
pub count_by-absent : {X : Type 0} (p : X → Bool) (xs : List X) (d : X) → position p xs ≡ None → count_by p xs ≡ 0
count_by-absent p xs d e = count_by_none p xs (λ k d l. position-None p xs k d e l)

-- an element that passed no longer does
pub count_by-drop : {X : Type 0} (p : X → Bool) (xs : List X) (i : ℕ) (y d : X) → i < length xs → p (get_or xs i d) ≡ true → p y ≡ false → count_by p (set xs i y) + 1 ≡ count_by p xs
count_by-drop p xs i y d l h k =
    omega (arith, sum_by-set (λ x. cond (p x) 1 0) xs i y d l, cond-true {A = ℕ} (p (get_or xs i d)) 1 0 h, cond-false {A = ℕ} (p y) 1 0 k)

-- an element that didn't pass does
pub count_by-gain : {X : Type 0} (p : X → Bool) (xs : List X) (i : ℕ) (y d : X) → i < length xs → p (get_or xs i d) ≡ false → p y ≡ true → count_by p (set xs i y) ≡ count_by p xs + 1
count_by-gain p xs i y d l h k =
    omega (arith, sum_by-set (λ x. cond (p x) 1 0) xs i y d l, cond-false {A = ℕ} (p (get_or xs i d)) 1 0 h, cond-true {A = ℕ} (p y) 1 0 k)

-- an element changes and the test doesn't
pub count_by-same : {X : Type 0} (p : X → Bool) (xs : List X) (i : ℕ) (y d : X) → i < length xs → p y ≡ p (get_or xs i d) → count_by p (set xs i y) ≡ count_by p xs
count_by-same p xs i y d l e =
    omega (arith, sum_by-set (λ x. cond (p x) 1 0) xs i y d l, ap (λ (b : Bool). cond {A = ℕ} b 1 0) e)
