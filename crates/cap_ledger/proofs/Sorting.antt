-- Brokers in rising order, and what a search among them finds.
use Rattle.std.proofs.Common.{◌≡◌, ℕ, ◌+◌, ◌<◌, ◌≤◌, Bool, true, false, not, cond, List, [], ◌∷◌, map, length, get_or, arith, refl, sym, ap, ◌∙◌, zero, suc, inl, inr}
use Rattle.std.specs.Prelude.{◌==◌, is_some, Option, Some, None}
use Rattle.std.specs.List.{count_by}
use Rattle.std.specs.List.Sorted.{IsPermutation, IsNonDecreasing, IsStrictlyIncreasing}
use Rattle.std.proofs.lemmas.Bool.{cases_eq, cases_lt, eq-eqb, eqb-true, or_parts, and_parts, and_from, not-true, false_from_ne_true, true≢false, cond-true, cond-false}
use Rattle.std.proofs.lemmas.List.{get_or_read, get_or-map, length-map}
use Rattle.std.proofs.lemmas.List.Folds.{Any-from_list_any}
use Rattle.std.proofs.lemmas.List.Sums.{sum_by-cons}
use Rattle.std.proofs.lemmas.List.Sorted.{sum_by-IsPermutation, list_any-IsPermutation}
use Rattle.exec_terms.proofs.Counts.{count_by_some}
use Rattle.exec_terms.proofs.WorkLeft.{same_place}
use Rattle.plan_terms.specs.Belongs.{distinct}
use Rattle.plan_terms.specs.Cluster.{has}
use Rattle.cap_ledger.specs.declared.entry.Entry.{Entry}
use Rattle.cap_ledger.specs.Entries.{AreInOrder, empty_entry}
use Rattle.cap_ledger.specs.Ledger.{entry_of, IsEmpty}
use Rattle.cap_ledger.proofs.Find.{brokers_of, brokers_of-mapped, brokers_of-empty, entry_at, is_some-entry_of}
use Rattle.cap_ledger.proofs.Changes.{IsEmpty-new}

-- how often a number stands in a list
abbrev times : ℕ → List ℕ → ℕ
times v xs = count_by (λ x. x == v) xs

times_none : (v : ℕ) (xs : List ℕ) → has xs v ≡ false → times v xs ≡ 0
times_none v [] h = refl
times_none v (x ∷ xs) h =
    let p = or_parts (x == v) (has xs v) h in
    omega (arith, sum_by-cons (λ y. cond (y == v) 1 0) x xs, cond-false {A = ℕ} (x == v) 1 0 p.0, times_none v xs p.1)

times_some : (v : ℕ) (xs : List ℕ) → has xs v ≡ true → 1 ≤ times v xs
times_some v xs h =
    let (k, x, m, same, e) = Any-from_list_any (λ x. x == v) xs h in
    count_by_some (λ x. x == v) xs k x m (rw same e)

-- no number stands twice where each stands once at most
once_each : (xs : List ℕ) → distinct xs ≡ true → (v : ℕ) → times v xs ≤ 1
once_each [] h v = omega arith
once_each (x ∷ xs) h v =
    let p = and_parts (not (has xs x)) (distinct xs) h in
    elim (cases_eq x v) as (λ _. times v (x ∷ xs) ≤ 1) [
      | inl e ↦ omega (arith, sum_by-cons (λ y. cond (y == v) 1 0) x xs, one (x == v), times_none v xs (rw e at (not-true (has xs x) p.0)))
      | inr ne ↦ omega (arith, sum_by-cons (λ y. cond (y == v) 1 0) x xs, cond-false {A = ℕ} (x == v) 1 0 (false_from_ne_true (x == v) (λ q. ne (eqb-true x v q))), once_each xs p.1 v)
    ] where
      one : (b : Bool) → cond b 1 0 ≤ 1
      one true = omega arith
      one false = omega arith

each_once : (xs : List ℕ) → ((v : ℕ) → times v xs ≤ 1) → distinct xs ≡ true
each_once [] h = refl
each_once (x ∷ xs) h =
    and_from (not (has xs x)) (distinct xs)
    (ap not (false_from_ne_true (has xs x) (λ m. absurd (omega (arith, h x, sum_by-cons (λ y. cond (y == x) 1 0) x xs, cond-true {A = ℕ} (x == x) 1 0 (eq-eqb x x refl), times_some x xs m)))))
    (each_once xs (λ v. omega (arith, h v, sum_by-cons (λ y. cond (y == v) 1 0) x xs)))

-- a sort keeps the brokers, each once
pub same_members : (xs ys : List ℕ) → IsPermutation xs ys → (b : ℕ) → has ys b ≡ has xs b
same_members xs ys p b = sym (list_any-IsPermutation (λ x. x == b) xs ys p)

same_times : (xs ys : List ℕ) → IsPermutation xs ys → (v : ℕ) → times v ys ≡ times v xs
same_times xs ys p v = sum_by-IsPermutation (λ x. cond (x == v) 1 0) xs ys p

rising : (xs : List ℕ) → IsNonDecreasing xs → ((v : ℕ) → times v xs ≤ 1) → IsStrictlyIncreasing xs
rising xs up once = λ k l. elim (cases_eq (get_or xs k 0) (get_or xs (k + 1) 0)) [
  | inl e ↦ absurd (let same : k ≡ k + 1 = same_place (λ x. x == get_or xs k 0) xs k (k + 1) 0 (omega arith) l (eq-eqb (get_or xs k 0) (get_or xs k 0) refl) (eq-eqb (get_or xs (k + 1) 0) (get_or xs k 0) (sym e)) (once (get_or xs k 0)) in omega (arith, same))
  | inr ne ↦ omega (arith, up k (k + 1) 0 (omega arith) l, ne)
]

pub sorted_once : (brokers ids : List ℕ) → distinct brokers ≡ true → IsPermutation brokers ids → IsNonDecreasing ids → IsStrictlyIncreasing ids × (distinct ids ≡ true)
sorted_once brokers ids once p up =
    let each : (v : ℕ) → times v ids ≤ 1 = λ v. omega (arith, same_times brokers ids p v, once_each brokers once v) in
    (rising ids up each, each_once ids each)

-- empty entries of sorted brokers
pub empty_in_order : (brokers ids : List ℕ) (entries : List Entry) → distinct brokers ≡ true → IsPermutation brokers ids → IsNonDecreasing ids → entries ≡ map empty_entry ids → AreInOrder ids entries
empty_in_order brokers ids entries once p up e =
    let s = sorted_once brokers ids once p up in
    record { brokers_are = rw e (brokers_of-empty ids); rising = s.0; once = s.1 }

pub IsEmpty-sorted : (brokers ids : List ℕ) (entries : List Entry) → IsPermutation brokers ids → entries ≡ map empty_entry ids → IsEmpty brokers (record { entries = entries; replica = 0; leader = 0 })
IsEmpty-sorted brokers ids entries p e =
    let empty = IsEmpty-new ids entries e in
    record { known = λ b. empty.known b ∙ same_members brokers ids p b; adding = empty.adding; removing = empty.removing; replica = empty.replica; leader = empty.leader }

-- all entries change and keep their brokers
pub order_kept : (f : Entry → Entry) → ((e : Entry) → (f e).broker ≡ e.broker) → (ids : List ℕ) (es es' : List Entry) → es' ≡ map f es → AreInOrder ids es → AreInOrder ids es'
order_kept f h ids es es' e order = record { brokers_are = rw e (brokers_of-mapped f h es) ∙ order.brokers_are; rising = order.rising; once = order.once }

pub brokers_once : (ids : List ℕ) (es : List Entry) → AreInOrder ids es → distinct (brokers_of es) ≡ true
brokers_once ids es order = rw order.brokers_are order.once

-- what a search finds
rises : (xs : List ℕ) → IsStrictlyIncreasing xs → (i j : ℕ) → i ≤ j → j < length xs → get_or xs i 0 ≤ get_or xs j 0
rises xs up i zero le l = let e : i ≡ 0 = omega (arith, le) in rw e (omega arith)
rises xs up i (suc j) le l = elim (cases_eq i (suc j)) as (λ _. get_or xs i 0 ≤ get_or xs (suc j) 0) [
  | inl e ↦ rw e (omega arith)
  | inr ne ↦ (let step : get_or xs j 0 < get_or xs (j + 1) 0 = up j (omega (arith, l)) in let s : j + 1 ≡ suc j = omega arith in omega (arith, rises xs up i j (omega (arith, le, ne)) (omega (arith, l)), rw s at step))
]

pub in_order : (ids : List ℕ) (es : List Entry) → AreInOrder ids es → (i j : ℕ) → i ≤ j → j < length ids → get_or ids i 0 ≤ get_or ids j 0
in_order ids es order = rises ids order.rising

module _ (ids : List ℕ) (es : List Entry) (b : ℕ) (order : AreInOrder ids es) where
  pub place_within : (i : ℕ) → i < length ids → i < length es
  place_within i l = omega (arith, l, length-map es (λ (e : Entry). e.broker), ap (λ (xs : List ℕ). length xs) order.brokers_are)

  pub found_at : (i : ℕ) (x : Entry) → (i < length ids) × (get_or ids i 0 ≡ b) → x ≡ get_or es i x → Some x ≡ entry_of es b
  found_at i x at read =
      let l : i < length es = place_within i at.0 in
      let broker : x.broker ≡ b = ap (λ (e : Entry). e.broker) read ∙ sym (get_or-map (λ (e : Entry). e.broker) es i x 0 l) ∙ ap (λ (xs : List ℕ). get_or xs i 0) order.brokers_are ∙ at.1 in
      let here : entry_of es (get_or es i x).broker ≡ Some (get_or es i x) = entry_at es i x (brokers_once ids es order) l in
      let mine : entry_of es x.broker ≡ Some x = rw (← read) at here in
      sym (ap (entry_of es) (sym broker) ∙ mine)

  none_of : (o : Option Entry) → is_some o ≡ false → o ≡ None
  none_of None h = refl
  none_of (Some e) h = absurd (true≢false h)

  pub found_none : (i : ℕ) → (i ≤ length ids) × ((k : ℕ) → k < i → get_or ids k 0 < b) × ((k : ℕ) → i ≤ k → k < length ids → b < get_or ids k 0) → None ≡ entry_of es b
  found_none i out = sym (none_of (entry_of es b) (is_some-entry_of b es ∙ rw order.brokers_are (false_from_ne_true (has ids b) (λ h.
      let (k, x, m, same, e) = Any-from_list_any (λ x. x == b) ids h in
      let is : x ≡ get_or ids k 0 = get_or_read ids k x m (sym same) 0 in
      let x_is : x ≡ b = eqb-true x b e in
      elim (cases_lt k i) [
        | inl l ↦ absurd (omega (arith, out.1 k l, is, x_is))
        | inr g ↦ absurd (omega (arith, out.2 k g m, is, x_is))
      ]))))
