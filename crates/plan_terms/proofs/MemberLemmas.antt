-- Members of a list, and what replacing one does to them.
use Rattle.std.specs.Prelude.{if◌then◌else◌}
use Rattle.std.proofs.Common.{◌≡◌, ℕ, ◌<◌, Bool, true, false, eqb, List, [], ◌∷◌, length, get_or, set, zero, suc, refl, ap, sym, arith, eq-eqb, inl, inr}
use Rattle.std.specs.Prelude.{not}
use Rattle.std.specs.List.{list_all}
use Rattle.std.proofs.lemmas.List.{length-set}
use Rattle.std.proofs.lemmas.Bool.{or_left, or_right, ne_eqb, and_parts, and_from, or_parts, or_from, false≢true, eqb-true, eqb-false, not-true, not_from_false, cases_Bool, or_cases, both_ways}
use Rattle.plan_terms.specs.Cluster.{has, leads}
use Rattle.plan_terms.specs.Effect.{replace, exchange_first, exchange_at}
use Rattle.plan_terms.specs.Belongs.{IsReplicaList, distinct}

-- a test of equality goes both ways
pub eqb-sym : (a b : ℕ) → eqb a b ≡ false → eqb b a ≡ false
eqb-sym a b h = ne_eqb b a (λ e. eqb-false a b h (sym e))

pub length-replace : (a b : ℕ) (xs : List ℕ) → length (replace a b xs) ≡ length xs
length-replace a b [] = refl
length-replace a b (x ∷ xs) =
    elim (eqb x a) as (λ t. length (if t then b ∷ xs else x ∷ replace a b xs) ≡ suc (length xs)) [ true ↦ refl | false ↦ ap suc (length-replace a b xs) ]

pub length-exchange_first : (b : ℕ) (xs : List ℕ) → length (exchange_first b xs) ≡ length xs
length-exchange_first b [] = refl
length-exchange_first b (x ∷ xs) = ap suc (length-replace b x xs)

-- who is no member and does not come stays none
pub has-replace : (a b y : ℕ) (xs : List ℕ) → has xs y ≡ false → eqb b y ≡ false → has (replace a b xs) y ≡ false
has-replace a b y [] h n = refl
has-replace a b y (x ∷ xs) h n =
    let parts = or_parts (eqb x y) (has xs y) h in
    elim (eqb x a) as (λ t. has (if t then b ∷ xs else x ∷ replace a b xs) y ≡ false) [
      | true ↦ or_from (eqb b y) (has xs y) n parts.1
      | false ↦ or_from (eqb x y) (has (replace a b xs) y) parts.0 (has-replace a b y xs parts.1 n)
    ]

-- where the list has no member twice, the one that is replaced is gone
pub has-replaced : (a b : ℕ) (xs : List ℕ) → distinct xs ≡ true → eqb b a ≡ false → has (replace a b xs) a ≡ false
has-replaced a b [] d n = refl
has-replaced a b (x ∷ xs) d n =
    let parts = and_parts (not (has xs x)) (distinct xs) d in
    elim (cases_Bool (eqb x a)) as (λ _. has (if eqb x a then b ∷ xs else x ∷ replace a b xs) a ≡ false) [
      | inl same ↦
          let gone : has xs x ≡ false = not-true (has xs x) parts.0 in
          rw same (or_from (eqb b a) (has xs a) n (rw (eqb-true x a same) at gone))
      | inr other ↦ rw other (or_from (eqb x a) (has (replace a b xs) a) other (has-replaced a b xs parts.1 n))
    ]

-- the list stays without a member twice
pub distinct-replace : (a b : ℕ) (xs : List ℕ) → distinct xs ≡ true → has xs b ≡ false → distinct (replace a b xs) ≡ true
distinct-replace a b [] d n = refl
distinct-replace a b (x ∷ xs) d n =
    let parts = and_parts (not (has xs x)) (distinct xs) d in
    let none = or_parts (eqb x b) (has xs b) n in
    elim (eqb x a) as (λ t. distinct (if t then b ∷ xs else x ∷ replace a b xs) ≡ true) [
      | true ↦ and_from (not (has xs b)) (distinct xs) (not_from_false (has xs b) none.1) parts.1
      | false ↦
          let stays : has (replace a b xs) x ≡ false = has-replace a b x xs (not-true (has xs x) parts.0) (eqb-sym x b none.0) in
          and_from (not (has (replace a b xs) x)) (distinct (replace a b xs)) (not_from_false _ stays) (distinct-replace a b xs parts.1 none.1)
    ]

-- a member that is not the first is one of the rest
pub has-later : (b x : ℕ) (xs : List ℕ) → has (x ∷ xs) b ≡ true → leads (x ∷ xs) b ≡ false → has xs b ≡ true
has-later b x xs h n = elim (or_cases (eqb x b) (has xs b) h) as (λ _. has xs b ≡ true) [
  | inl first ↦ absurd (both_ways (eqb x b) n first)
  | inr later ↦ later
]

pub distinct-exchange_first : (b : ℕ) (xs : List ℕ) → distinct xs ≡ true → leads xs b ≡ false → distinct (exchange_first b xs) ≡ true
distinct-exchange_first b [] d n = refl
distinct-exchange_first b (x ∷ xs) d n =
    let parts = and_parts (not (has xs x)) (distinct xs) d in
    let gone : has (replace b x xs) b ≡ false = has-replaced b x xs parts.1 n in
    and_from (not (has (replace b x xs) b)) (distinct (replace b x xs)) (not_from_false _ gone) (distinct-replace b x xs parts.1 (not-true (has xs x) parts.0))

-- replica lists stay replica lists
pub IsReplicaList-replace : (a b : ℕ) (xs : List ℕ) → IsReplicaList xs → has xs b ≡ false → IsReplicaList (replace a b xs)
IsReplicaList-replace a b xs h n =
    let same = length-replace a b xs in
    let some = h.some in
    let few = h.few in
    record { some = omega arith; few = omega arith; once = distinct-replace a b xs h.once n }

pub IsReplicaList-exchange_first : (b : ℕ) (xs : List ℕ) → IsReplicaList xs → leads xs b ≡ false → IsReplicaList (exchange_first b xs)
IsReplicaList-exchange_first b xs h n =
    let same = length-exchange_first b xs in
    let some = h.some in
    let few = h.few in
    record { some = omega arith; few = omega arith; once = distinct-exchange_first b xs h.once n }

-- what holds of every member and of who comes holds of every member afterwards
pub list_all-replace : (p : ℕ → Bool) (a b : ℕ) (xs : List ℕ) → list_all p xs ≡ true → p b ≡ true → list_all p (replace a b xs) ≡ true
list_all-replace p a b [] h k = refl
list_all-replace p a b (x ∷ xs) h k =
    let parts = and_parts (p x) (list_all p xs) h in
    elim (eqb x a) as (λ t. list_all p (if t then b ∷ xs else x ∷ replace a b xs) ≡ true) [
      | true ↦ and_from (p b) (list_all p xs) k parts.1
      | false ↦ and_from (p x) (list_all p (replace a b xs)) parts.0 (list_all-replace p a b xs parts.1 k)
    ]

pub list_all-member : (p : ℕ → Bool) (b : ℕ) (xs : List ℕ) → list_all p xs ≡ true → has xs b ≡ true → p b ≡ true
list_all-member p b [] h m = absurd (false≢true m)
list_all-member p b (x ∷ xs) h m =
    let parts = and_parts (p x) (list_all p xs) h in
    elim (or_cases (eqb x b) (has xs b) m) as (λ _. p b ≡ true) [
      | inl same ↦ rw (eqb-true x b same) at parts.0
      | inr later ↦ list_all-member p b xs parts.1 later
    ]

pub list_all-exchange_first : (p : ℕ → Bool) (b : ℕ) (xs : List ℕ) → list_all p xs ≡ true → has xs b ≡ true → list_all p (exchange_first b xs) ≡ true
list_all-exchange_first p b [] h m = refl
list_all-exchange_first p b (x ∷ xs) h m =
    let parts = and_parts (p x) (list_all p xs) h in
    and_from (p b) (list_all p (replace b x xs)) (list_all-member p b (x ∷ xs) h m) (list_all-replace p b x xs parts.1 parts.0)

-- a replacement that is undone
pub replace-replace : (a b : ℕ) (xs : List ℕ) → has xs b ≡ false → replace b a (replace a b xs) ≡ xs
replace-replace a b [] n = refl
replace-replace a b (x ∷ xs) n =
    let none = or_parts (eqb x b) (has xs b) n in
    elim (cases_Bool (eqb x a)) as (λ _. replace b a (if eqb x a then b ∷ xs else x ∷ replace a b xs) ≡ x ∷ xs) [
      | inl same ↦ rw (same, eq-eqb b b refl) (ap (λ y. y ∷ xs) (sym (eqb-true x a same)))
      | inr other ↦ rw (other, none.0) (ap (λ ys. x ∷ ys) (replace-replace a b xs none.1))
    ]

-- the first member comes back to its place
pub exchange_first-undone : (b x : ℕ) (xs : List ℕ) → has xs x ≡ false → exchange_first x (exchange_first b (x ∷ xs)) ≡ x ∷ xs
exchange_first-undone b x xs n = ap (λ ys. x ∷ ys) (replace-replace b x xs n)

-- a member that is none comes to one place
has-set : (xs : List ℕ) (i b y : ℕ) → has xs y ≡ false → eqb b y ≡ false → has (set xs i b) y ≡ false
has-set [] i b y h n = refl
has-set (x ∷ xs) zero b y h n = or_from (eqb b y) (has xs y) n (or_parts (eqb x y) (has xs y) h).1
has-set (x ∷ xs) (suc i) b y h n =
    let parts = or_parts (eqb x y) (has xs y) h in
    or_from (eqb x y) (has (set xs i b) y) parts.0 (has-set xs i b y parts.1 n)

distinct-set : (xs : List ℕ) (i b : ℕ) → distinct xs ≡ true → has xs b ≡ false → distinct (set xs i b) ≡ true
distinct-set [] i b d n = refl
distinct-set (x ∷ xs) zero b d n =
    and_from (not (has xs b)) (distinct xs) (not_from_false _ (or_parts (eqb x b) (has xs b) n).1) (and_parts (not (has xs x)) (distinct xs) d).1
distinct-set (x ∷ xs) (suc i) b d n =
    let parts = and_parts (not (has xs x)) (distinct xs) d in
    let none = or_parts (eqb x b) (has xs b) n in
    and_from _ _ (not_from_false _ (has-set xs i b x (not-true (has xs x) parts.0) (eqb-sym x b none.0))) (distinct-set xs i b parts.1 none.1)

pub IsReplicaList-set : (xs : List ℕ) (i b : ℕ) → IsReplicaList xs → has xs b ≡ false → IsReplicaList (set xs i b)
IsReplicaList-set xs i b h n = record { some = rw length-set h.some; few = rw length-set h.few; once = distinct-set xs i b h.once n }

-- a member other than the first has one place, and is replaced there
get-member : (xs : List ℕ) (i : ℕ) → i < length xs → has xs (get_or xs i 0) ≡ true
get-member [] i l = absurd (omega arith)
get-member (x ∷ xs) zero l = or_left (eqb x x) (has xs x) (eq-eqb x x refl)
get-member (x ∷ xs) (suc i) l = or_right (eqb x (get_or xs i 0)) (has xs (get_or xs i 0)) (get-member xs i (omega arith))

replace-at : (xs : List ℕ) (i b : ℕ) → distinct xs ≡ true → i < length xs → replace (get_or xs i 0) b xs ≡ set xs i b
replace-at [] i b d l = absurd (omega arith)
replace-at (x ∷ xs) zero b d l = rw (eq-eqb x x refl)
replace-at (x ∷ xs) (suc i) b d l =
    let parts = and_parts (not (has xs x)) (distinct xs) d in
    let other : eqb x (get_or xs i 0) ≡ false = ne_eqb x (get_or xs i 0) (λ e.
    let stands : has xs x ≡ true = rw e (get-member xs i (omega arith)) in both_ways (has xs x) (not-true (has xs x) parts.0) stands) in
    rw other (ap (λ ys. x ∷ ys) (replace-at xs i b parts.1 (omega arith)))

exchange_at-first : (xs : List ℕ) (i : ℕ) → distinct xs ≡ true → suc i < length xs → exchange_at (suc i) xs ≡ exchange_first (get_or xs (suc i) 0) xs
exchange_at-first [] i d l = absurd (omega arith)
exchange_at-first (x ∷ xs) i d l =
    let parts = and_parts (not (has xs x)) (distinct xs) d in
    ap (λ ys. get_or xs i 0 ∷ ys) (sym (replace-at xs i x parts.1 (omega arith)))

pub IsReplicaList-exchange_at : (xs : List ℕ) (i : ℕ) → IsReplicaList xs → i < length xs → IsReplicaList (exchange_at i xs)
IsReplicaList-exchange_at [] i h l = absurd (omega arith)
IsReplicaList-exchange_at (x ∷ xs) zero h l = h
IsReplicaList-exchange_at (x ∷ xs) (suc i) h l =
    let parts = and_parts (not (has xs x)) (distinct xs) h.once in
    let later : eqb x (get_or xs i 0) ≡ false = ne_eqb x (get_or xs i 0) (λ e.
    let stands : has xs x ≡ true = rw e (get-member xs i (omega arith)) in both_ways (has xs x) (not-true (has xs x) parts.0) stands) in
    rw (exchange_at-first (x ∷ xs) i h.once l) (IsReplicaList-exchange_first (get_or xs i 0) (x ∷ xs) h later)
