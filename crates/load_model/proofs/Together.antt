-- What all brokers carry together is what one would that had every place.
use Rattle.std.proofs.Common.{◌≡◌, ◌∙◌, ℕ, ◌+◌, ◌-◌, ◌<◌, ◌≤◌, ◌^◌, cond, eqb, false, List, [], ◌∷◌, length, get_or, set, map, take, zero, suc, refl, sym, ap, arith}
use Rattle.std.specs.List.{count_by}
use Rattle.std.proofs.lemmas.Bool.{ne_eqb}
use Rattle.std.proofs.lemmas.List.{length-map, length-take, map-append, take_more}
use Rattle.std.proofs.lemmas.List.Sums.{sum_by-cons}
use Rattle.plan_terms.specs.Cluster.{Cluster, Lists, list_of}
use Rattle.plan_terms.specs.Faults.{IsCase}
use Rattle.plan_terms.specs.Load.{list_load, sum_parts}
use Rattle.plan_terms.specs.declared.cluster.Part.{Part}
use Rattle.load_model.specs.declared.amounts.Amount.{Amount}
use Rattle.load_model.specs.Amounts.{InRange, amount, lead_of, follow_of, lead_at, follow_at}
use Rattle.load_model.specs.Tables.{AreTotals, IsChanged, all_at, column, columns, weight_at}
use Rattle.load_model.specs.Totals.{list_whole, whole}
use Rattle.load_model.proofs.Sums.{Short, amount-below, list-below}
use Rattle.load_model.proofs.Tabled.{IsChanged-more, amount-none, amount-push}

abbrev blank : List ℕ → List ℕ
blank = map (λ _. 0)

blank-same : (xs ys : List ℕ) → length xs ≡ length ys → blank xs ≡ blank ys
blank-same [] [] e = refl
blank-same [] (y ∷ ys) e = absurd (omega arith)
blank-same (x ∷ xs) [] e = absurd (omega arith)
blank-same (x ∷ xs) (y ∷ ys) e = ap (λ zs. 0 ∷ zs) (blank-same xs ys (omega arith))

count-blank : (xs : List ℕ) → count_by (λ x. eqb x 0) (blank xs) ≡ length xs
count-blank [] = refl
count-blank (x ∷ xs) = omega (arith, sum_by-cons (λ (y : ℕ). cond (eqb y 0) 1 0) 0 (blank xs), count-blank xs)

list_load-blank : (lead follow : ℕ) (list : List ℕ) → list_load lead follow 0 (blank list) ≡ list_whole lead follow (length list)
list_load-blank lead follow [] = refl
list_load-blank lead follow (x ∷ xs) =
    let some : eqb (suc (length xs)) 0 ≡ false = ne_eqb (suc (length xs)) 0 (λ e. absurd (omega arith)) in
    let one : suc (length xs) - 1 ≡ length xs = omega arith in
    rw (some, one, count-blank xs) refl

module _ (g h : Part → ℕ) where
  sum_parts-all : (ps : List Part) (lists : Lists) → sum_parts (λ p list. list_load (g p) (h p) 0 list) ps (all_at 0 lists) ≡ whole g h ps lists
  sum_parts-all [] lists = refl
  sum_parts-all (p ∷ ps) [] = refl
  sum_parts-all (p ∷ ps) (list ∷ lists) = omega (arith, list_load-blank (g p) (h p) list, sum_parts-all ps lists)

-- in the words of the readers
pub amount-all : (kind : Amount) (ps : List Part) (lists : Lists) → amount kind ps 0 (all_at 0 lists) ≡ whole (lead_of kind ps) (follow_of kind ps) ps lists
unfolding amount
amount-all kind ps lists = sum_parts-all (lead_of kind ps) (follow_of kind ps) ps lists

pub Short-all : (lists : Lists) → Short lists → Short (all_at 0 lists)
Short-all lists h = record { each = by lists h.each } where
  by : (ls : Lists) → ((i : ℕ) → length (list_of ls i) ≤ 8) → (i : ℕ) → length (list_of (all_at 0 ls) i) ≤ 8
  by [] k i = k i
  by (l ∷ ls) k zero = rw (length-map l (λ (x : ℕ). zero)) (k 0)
  by (l ∷ ls) k (suc i) = by ls (λ j. k (suc j)) i

-- a list of the same length in place of another
all_at-set : (lists : Lists) (p : ℕ) (new : List ℕ) → length new ≡ length (list_of lists p) → all_at 0 (set lists p new) ≡ all_at 0 lists
all_at-set [] p new e = refl
all_at-set (l ∷ ls) zero new e = ap (λ xs. xs ∷ all_at 0 ls) (blank-same new l e)
all_at-set (l ∷ ls) (suc p) new e = ap (λ xs. blank l ∷ xs) (all_at-set ls p new e)

pub AreTotals-set : (ps : List Part) (lists : Lists) (p : ℕ) (new row : List ℕ) → length new ≡ length (list_of lists p) → AreTotals ps lists row → AreTotals ps (set lists p new) row
AreTotals-set ps lists p new row e h = rw (all_at-set lists p new e) h

-- no list, and one more
pub AreTotals-none : (ps : List Part) (row : List ℕ) → length row ≡ columns ps → ((j : ℕ) → get_or row j 0 ≡ 0) → AreTotals ps [] row
AreTotals-none ps row long nothing = record { long = long; each = λ kind r. nothing (column kind) ∙ sym (amount-none kind ps 0) }

pub AreTotals-more : (ps : List Part) (lists : Lists) (i : ℕ) (row new : List ℕ) → i < length lists → i < length ps → AreTotals ps (take i lists) row
    → IsChanged ps (λ kind. 0) (λ kind. list_load (lead_at kind ps i) (follow_at kind ps i) 0 (blank (list_of lists i))) row new
    → AreTotals ps (take (i + 1) lists) new
AreTotals-more ps lists i row new l m h changed =
    let here : length (all_at 0 (take i lists)) ≡ i = omega (arith, length-map (take i lists) blank, length-take i lists) in
    rw (take_more lists i [] l, map-append blank (take i lists) (list_of lists i ∷ []))
    (record {
      long = changed.long ∙ h.long;
      each = λ kind r.
          let push = rw here at (amount-push kind ps 0 (all_at 0 (take i lists)) (blank (list_of lists i)) (rw here m)) in
          omega (arith, changed.each kind r, h.each kind r, push);
    })

-- every total is small
pub totals-below : (c : Cluster) (lists : Lists) (row : List ℕ) → IsCase c → Short lists → AreTotals c.parts lists row → (kind : Amount) → InRange kind c.parts → get_or row (column kind) 0 < 2 ^ 49
totals-below c lists row h s t kind r = omega (arith, t.each kind r, amount-below kind c 0 (all_at 0 lists) h (Short-all lists s))

-- the places of one list, one more
get_or-blank : (xs : List ℕ) (i : ℕ) → get_or (blank xs) i 0 ≡ 0
get_or-blank [] i = refl
get_or-blank (x ∷ xs) zero = refl
get_or-blank (x ∷ xs) (suc i) = get_or-blank xs i

pub IsChanged-place : (ps : List Part) (p i : ℕ) (list : List ℕ) (old mid new : List ℕ) → i < length list
    → IsChanged ps (λ kind. 0) (λ kind. list_load (lead_at kind ps p) (follow_at kind ps p) 0 (take i (map (λ _. 0) list))) old mid
    → IsChanged ps (λ kind. 0) (λ kind. weight_at kind ps p (eqb i 0)) mid new
    → IsChanged ps (λ kind. 0) (λ kind. list_load (lead_at kind ps p) (follow_at kind ps p) 0 (take (i + 1) (map (λ _. 0) list))) old new
IsChanged-place ps p i list old mid new l h k =
    IsChanged-more ps p 0 i (blank list) old mid new (rw (length-map list (λ (x : ℕ). zero)) l) h (record {
      long = k.long;
      each = λ kind r. rw (get_or-blank list i) (k.each kind r);
    })

-- what the places of a short list carry
pub blank-below : (kind : Amount) (c : Cluster) (p i : ℕ) (list : List ℕ) → IsCase c → length list ≤ 8
    → list_load (lead_at kind c.parts p) (follow_at kind c.parts p) 0 (take i (map (λ _. 0) list)) ≤ 34359738360
blank-below kind c p i list h short = list-below kind c p 0 (take i (blank list)) h (omega (arith, length-take i (blank list), length-map list (λ (x : ℕ). zero)))
