-- What a change of one place does to the table.
use Rattle.std.proofs.Common.{◌≡◌, ◌∙◌, ℕ, ◌+◌, ◌*◌, ◌<◌, ◌≤◌, ◌^◌, Bool, true, false, cond, eqb, List, [], ◌∷◌, ◌++◌, length, get_or, set, map, take, zero, suc, refl, sym, ap, arith, mul-add, mul-one, mul-zero, inl, inr, lt_irrefl}
use Rattle.std.specs.List.{count_by}
use Rattle.std.proofs.lemmas.Bool.{cases_eq, ne_eqb, eq-eqb}
use Rattle.std.proofs.lemmas.List.{get_or-set_same, get_or-set_other, length-set, length-take, set-set, take_more}
use Rattle.std.proofs.lemmas.List.Sums.{sum_by_push, sum_by-set}
use Rattle.plan_terms.specs.Cluster.{Cluster, Lists, list_of, id_at}
use Rattle.plan_terms.specs.Effect.{exchange_at}
use Rattle.plan_terms.specs.Faults.{IsCase, topics}
use Rattle.plan_terms.specs.Load.{list_load, sum_parts}
use Rattle.plan_terms.specs.declared.cluster.Part.{Part}
use Rattle.load_model.specs.declared.amounts.Amount.{Amount}
use Rattle.load_model.specs.declared.amounts.Amount.TheVariants.{Load, Replicas, Leaders, PotentialOut, LeaderIn, OfTopic, LedInTopic}
use Rattle.load_model.specs.Amounts.{InRange, amount, lead_of, follow_of, lead_at, follow_at, share}
use Rattle.load_model.specs.Places.{topic_at, topic_of}
use Rattle.load_model.specs.Tables.{AreBelow, IsChanged, IsTable, column, columns, kind_at, put_on, weight_at}
use Rattle.load_model.proofs.Sums.{Short, amount-below, topic_test, weight-below}

-- the kinds of the first eight places
pub column-kind_at : (j : ℕ) → j < 8 → column (kind_at j) ≡ j
column-kind_at zero l = refl
column-kind_at (suc zero) l = refl
column-kind_at (suc (suc zero)) l = refl
column-kind_at (suc (suc (suc zero))) l = refl
column-kind_at (suc (suc (suc (suc zero)))) l = refl
column-kind_at (suc (suc (suc (suc (suc zero))))) l = refl
column-kind_at (suc (suc (suc (suc (suc (suc zero)))))) l = refl
column-kind_at (suc (suc (suc (suc (suc (suc (suc zero))))))) l = refl
column-kind_at (suc (suc (suc (suc (suc (suc (suc (suc j)))))))) l = absurd (omega arith)

pub InRange-kind_at : (j : ℕ) (parts : List Part) → j < 8 → InRange (kind_at j) parts
InRange-kind_at zero parts l = omega arith
InRange-kind_at (suc zero) parts l = omega arith
InRange-kind_at (suc (suc zero)) parts l = omega arith
InRange-kind_at (suc (suc (suc zero))) parts l = omega arith
InRange-kind_at (suc (suc (suc (suc zero)))) parts l = tt
InRange-kind_at (suc (suc (suc (suc (suc zero))))) parts l = tt
InRange-kind_at (suc (suc (suc (suc (suc (suc zero)))))) parts l = tt
InRange-kind_at (suc (suc (suc (suc (suc (suc (suc zero))))))) parts l = tt
InRange-kind_at (suc (suc (suc (suc (suc (suc (suc (suc j)))))))) parts l = absurd (omega arith)

kind_at-load : (r : ℕ) → r < 4 → kind_at r ≡ Load r
kind_at-load zero l = refl
kind_at-load (suc zero) l = refl
kind_at-load (suc (suc zero)) l = refl
kind_at-load (suc (suc (suc zero))) l = refl
kind_at-load (suc (suc (suc (suc r)))) l = absurd (omega arith)

-- a place carries nothing in another topic
other_topic : (ps : List Part) (i n t : ℕ) → i < length ps → t < length (topics ps) → topic_at ps n ≡ topic_of ps i
    → ((s : ℕ) → s < length (topics ps) → topic_at ps s ≡ topic_of ps i → s ≡ n) → (t ≡ n → ⊥) → (first : Bool)
    → (weight_at (OfTopic t) ps i first ≡ 0) × (weight_at (LedInTopic t) ps i first ≡ 0)
other_topic ps i n t l m named only ne first =
    let none : lead_at (OfTopic t) ps i ≡ 0 = sym (topic_test ps i n t l m named only) ∙ ap {B = ℕ} (λ b. cond b 1 0) (ne_eqb n t (λ e. ne (sym e))) in
    by none first
  where
    nothing : (qs : List Part) (j : ℕ) → get_or (map (follow_of (LedInTopic t) ps) qs) j 0 ≡ zero
    nothing [] j = refl
    nothing (q ∷ qs) zero = refl
    nothing (q ∷ qs) (suc j) = nothing qs j

    by : lead_at (OfTopic t) ps i ≡ zero → (b : Bool) → (weight_at (OfTopic t) ps i b ≡ zero) × (weight_at (LedInTopic t) ps i b ≡ zero)
    by none true = (none, none)
    by none false = (none, nothing ps i)

-- the first eight places and the two of one topic changed, one after another
pub IsChanged-places : (ps : List Part) (i n : ℕ) (first : Bool) (minus plus : Amount → ℕ) (old mid more new : List ℕ) → i < length ps → n < length (topics ps) → topic_at ps n ≡ topic_of ps i
    → ((s : ℕ) → s < length (topics ps) → topic_at ps s ≡ topic_of ps i → s ≡ n)
    → ((kind : Amount) → weight_at kind ps i first ≡ 0 → (minus kind ≡ 0) × (plus kind ≡ 0))
    → length mid ≡ length old
    → ((j : ℕ) → j < 8 → get_or mid j 0 + minus (kind_at j) ≡ get_or old j 0 + plus (kind_at j))
    → ((j : ℕ) → 8 ≤ j → get_or mid j 0 ≡ get_or old j 0)
    → length more ≡ length mid
    → get_or more (2 * n + 8) 0 + minus (OfTopic n) ≡ get_or mid (2 * n + 8) 0 + plus (OfTopic n)
    → ((j : ℕ) → (j ≡ 2 * n + 8 → ⊥) → get_or more j 0 ≡ get_or mid j 0)
    → length new ≡ length more
    → get_or new (2 * n + 9) 0 + minus (LedInTopic n) ≡ get_or more (2 * n + 9) 0 + plus (LedInTopic n)
    → ((j : ℕ) → (j ≡ 2 * n + 9 → ⊥) → get_or new j 0 ≡ get_or more j 0)
    → IsChanged ps minus plus old new
IsChanged-places ps i n first minus plus old mid more new l m named only nothing long1 low rest long2 here others long3 led elsewhere = record { long = long3 ∙ long2 ∙ long1; each = each } where
  plain : (j : ℕ) → j < 8 → get_or new j 0 + minus (kind_at j) ≡ get_or old j 0 + plus (kind_at j)
  plain j k = omega (arith, elsewhere j (λ e. lt_irrefl j (omega arith)), others j (λ e. lt_irrefl j (omega arith)), low j k)

  each : (kind : Amount) → InRange kind ps → get_or new (column kind) 0 + minus kind ≡ get_or old (column kind) 0 + plus kind
  each (Load r) k = rw (kind_at-load r k) at (plain r (omega arith))
  each Replicas k = plain 4 (omega arith)
  each Leaders k = plain 5 (omega arith)
  each PotentialOut k = plain 6 (omega arith)
  each LeaderIn k = plain 7 (omega arith)
  each (OfTopic t) k = elim (cases_eq t n) as (λ _. get_or new (2 * t + 8) 0 + minus (OfTopic t) ≡ get_or old (2 * t + 8) 0 + plus (OfTopic t)) [
    | inl e ↦ rw e (omega (arith, here, rest (2 * n + 8) (omega arith), elsewhere (2 * n + 8) (λ e. lt_irrefl n (omega arith))))
    | inr ne ↦
        let zeros = nothing (OfTopic t) (other_topic ps i n t l k named only ne first).0 in
        omega (arith, elsewhere (2 * t + 8) (λ e. lt_irrefl n (omega arith)), others (2 * t + 8) (λ e. ne (omega arith)), rest (2 * t + 8) (omega arith), zeros.0, zeros.1)
  ]
  each (LedInTopic t) k = elim (cases_eq t n) as (λ _. get_or new (2 * t + 9) 0 + minus (LedInTopic t) ≡ get_or old (2 * t + 9) 0 + plus (LedInTopic t)) [
    | inl e ↦ rw e (omega (arith, led, rest (2 * n + 9) (omega arith), others (2 * n + 9) (λ e. lt_irrefl n (omega arith))))
    | inr ne ↦
        let zeros = nothing (LedInTopic t) (other_topic ps i n t l k named only ne first).1 in
        omega (arith, elsewhere (2 * t + 9) (λ e. ne (omega arith)), others (2 * t + 9) (λ e. lt_irrefl n (omega arith)), rest (2 * t + 9) (omega arith), zeros.0, zeros.1)
  ]

abbrev if_so : Bool → ℕ → ℕ
if_so t w = cond t w 0

-- the same in every list but one place
even : (w n : ℕ) (t : Bool) → w * (n + cond t 1 0) ≡ w * n + if_so t w
even w n true = mul-add w n 1 ∙ ap (λ m. w * n + m) (mul-one w)
even w n false = mul-add w n 0 ∙ ap (λ m. w * n + m) (mul-zero w)

-- one place of a list changed
list_load-set : (lead follow b x i : ℕ) (list : List ℕ) → i < length list
    → list_load lead follow b (set list i x) + if_so (eqb (get_or list i 0) b) (cond (eqb i 0) lead follow) ≡ list_load lead follow b list + if_so (eqb x b) (cond (eqb i 0) lead follow)
list_load-set lead follow b x i [] l = absurd (omega arith)
list_load-set lead follow b x zero (y ∷ ys) l = omega arith
list_load-set lead follow b x (suc i) (y ∷ ys) l =
    let later : eqb (suc i) 0 ≡ false = ne_eqb (suc i) 0 (λ e. lt_irrefl 0 (omega arith)) in
    let counts = sum_by-set (λ z. cond (eqb z b) 1 0) ys i x 0 (omega arith) in
    let scaled : follow * count_by (λ z. eqb z b) (set ys i x) + if_so (eqb (get_or ys i 0) b) follow ≡ follow * count_by (λ z. eqb z b) ys + if_so (eqb x b) follow =
    sym (even follow _ (eqb (get_or ys i 0) b)) ∙ ap (λ n. follow * n) counts ∙ even follow _ (eqb x b) in
    rw later (omega (arith, scaled))

-- one more place at the end
list_load-push : (lead follow b x : ℕ) (list : List ℕ) → list_load lead follow b (list ++ x ∷ []) ≡ list_load lead follow b list + if_so (eqb x b) (cond (eqb (length list) 0) lead follow)
list_load-push lead follow b x [] = omega (arith, mul-zero follow)
list_load-push lead follow b x (y ∷ ys) =
    let counts : count_by (λ z. eqb z b) (ys ++ x ∷ []) ≡ count_by (λ z. eqb z b) ys + cond (eqb x b) 1 0 = sum_by_push (λ z. cond (eqb z b) 1 0) ys x in
    let later : eqb (length (y ∷ ys)) 0 ≡ false = ne_eqb (suc (length ys)) 0 (λ e. lt_irrefl 0 (omega arith)) in
    rw later (omega (arith, ap (λ n. follow * n) counts, even follow (count_by (λ z. eqb z b) ys) (eqb x b)))

module _ (g h : Part → ℕ) (b : ℕ) where
  sum_parts-set : (ps : List Part) (lists : Lists) (p : ℕ) (new : List ℕ) → p < length lists → length lists ≤ length ps
      → sum_parts (λ q list. list_load (g q) (h q) b list) ps (set lists p new) + list_load (get_or (map g ps) p 0) (get_or (map h ps) p 0) b (list_of lists p)
      ≡ sum_parts (λ q list. list_load (g q) (h q) b list) ps lists + list_load (get_or (map g ps) p 0) (get_or (map h ps) p 0) b new
  sum_parts-set ps [] p new l m = absurd (omega arith)
  sum_parts-set [] (list ∷ lists) p new l m = absurd (omega arith)
  sum_parts-set (q ∷ ps) (list ∷ lists) zero new l m = omega arith
  sum_parts-set (q ∷ ps) (list ∷ lists) (suc p) new l m = omega (arith, sum_parts-set ps lists p new (omega arith) (omega arith))

  sum_parts-push : (ps : List Part) (lists : Lists) (list : List ℕ) → length lists < length ps
      → sum_parts (λ q l. list_load (g q) (h q) b l) ps (lists ++ list ∷ [])
      ≡ sum_parts (λ q l. list_load (g q) (h q) b l) ps lists + list_load (get_or (map g ps) (length lists) 0) (get_or (map h ps) (length lists) 0) b list
  sum_parts-push [] lists list m = absurd (omega arith)
  sum_parts-push (q ∷ []) [] list m = omega arith
  sum_parts-push (q ∷ r ∷ ps) [] list m = omega arith
  sum_parts-push (q ∷ ps) (first ∷ lists) list m = omega (arith, sum_parts-push ps lists list (omega arith))

-- what a broker carries after one place of one list changed
pub amount-put : (kind : Amount) (ps : List Part) (b : ℕ) (lists : Lists) (p i x : ℕ) → p < length lists → length lists ≤ length ps → i < length (list_of lists p)
    → amount kind ps b (set lists p (set (list_of lists p) i x)) + put_on (get_or (list_of lists p) i 0) b kind ps p (eqb i 0) ≡ amount kind ps b lists + put_on x b kind ps p (eqb i 0)
unfolding amount
amount-put kind ps b lists p i x l m k =
    omega (
      arith,
      sum_parts-set (lead_of kind ps) (follow_of kind ps) b ps lists p (set (list_of lists p) i x) l m,
      list_load-set (lead_at kind ps p) (follow_at kind ps p) b x i (list_of lists p) k,
    )

-- and after one more list
pub amount-push : (kind : Amount) (ps : List Part) (b : ℕ) (lists : Lists) (list : List ℕ) → length lists < length ps
    → amount kind ps b (lists ++ list ∷ []) ≡ amount kind ps b lists + list_load (lead_at kind ps (length lists)) (follow_at kind ps (length lists)) b list
unfolding amount
amount-push kind ps b lists list l = sum_parts-push (lead_of kind ps) (follow_of kind ps) b ps lists list l

pub amount-none : (kind : Amount) (ps : List Part) (b : ℕ) → amount kind ps b [] ≡ 0
unfolding amount
amount-none kind ps b = none ps where
  none : (qs : List Part) → sum_parts (share kind ps b) qs [] ≡ 0
  none [] = refl
  none (q ∷ qs) = refl

-- the table after one place of one list changed
module _ (c : Cluster) (lists : Lists) (p i x : ℕ) (rows : List (List ℕ)) (l : p < length lists) (m : length lists ≤ length c.parts) (k : i < length (list_of lists p)) (h : IsTable c lists rows) where
  pub shift-enough : (n : ℕ) → n < length c.brokers → (kind : Amount) → InRange kind c.parts
      → put_on (get_or (list_of lists p) i 0) (id_at c.brokers n) kind c.parts p (eqb i 0) ≤ get_or (get_or rows n []) (column kind) 0 + put_on x (id_at c.brokers n) kind c.parts p (eqb i 0)
  shift-enough n q kind r = omega (arith, (h.each n q).each kind r, amount-put kind c.parts (id_at c.brokers n) lists p i x l m k)

  pub IsTable-shift : (new : List (List ℕ)) → length new ≡ length rows
      → ((n : ℕ) → n < length c.brokers → IsChanged c.parts (λ kind. put_on (get_or (list_of lists p) i 0) (id_at c.brokers n) kind c.parts p (eqb i 0)) (λ kind. put_on x (id_at c.brokers n) kind c.parts p (eqb i 0)) (get_or rows n []) (get_or new n []))
      → IsTable c (set lists p (set (list_of lists p) i x)) new
  IsTable-shift new e each = record {
    one_each = e ∙ h.one_each;
    each = λ n q. record {
      long = (each n q).long ∙ (h.each n q).long;
      each = λ kind r. omega (arith, (each n q).each kind r, (h.each n q).each kind r, amount-put kind c.parts (id_at c.brokers n) lists p i x l m k);
    };
  }

-- the table after one more list
pub IsTable-push : (c : Cluster) (lists : Lists) (list : List ℕ) (rows new : List (List ℕ)) → length lists < length c.parts → IsTable c lists rows → length new ≡ length rows
    → ((n : ℕ) → n < length c.brokers → IsChanged c.parts (λ kind. 0) (λ kind. list_load (lead_at kind c.parts (length lists)) (follow_at kind c.parts (length lists)) (id_at c.brokers n) list) (get_or rows n []) (get_or new n []))
    → IsTable c (lists ++ list ∷ []) new
IsTable-push c lists list rows new l h e each = record {
  one_each = e ∙ h.one_each;
  each = λ n q. record {
    long = (each n q).long ∙ (h.each n q).long;
    each = λ kind r. omega (arith, (each n q).each kind r, (h.each n q).each kind r, amount-push kind c.parts (id_at c.brokers n) lists list l);
  };
}

-- the table of no lists
pub IsTable-none : (c : Cluster) (rows : List (List ℕ)) → length rows ≡ length c.brokers → ((k : ℕ) → k < length c.brokers → length (get_or rows k []) ≡ columns c.parts)
    → ((k j : ℕ) → k < length c.brokers → get_or (get_or rows k []) j 0 ≡ 0) → IsTable c [] rows
IsTable-none c rows e long nothing = record {
  one_each = e;
  each = λ k l. record { long = long k l; each = λ kind r. nothing k (column kind) l ∙ sym (amount-none kind c.parts (id_at c.brokers k)) };
}

-- every number of a table is small
pub AreBelow-table : (c : Cluster) (lists : Lists) (rows : List (List ℕ)) → IsCase c → Short lists → IsTable c lists rows → AreBelow (2 ^ 49) c rows
AreBelow-table c lists rows h s t k l kind r = omega (arith, (t.each k l).each kind r, amount-below kind c (id_at c.brokers k) lists h s)

pub AreBelow-more : (low high : ℕ) (c : Cluster) (rows : List (List ℕ)) → low ≤ high → AreBelow low c rows → AreBelow high c rows
AreBelow-more low high c rows e h k l kind r = omega (arith, h k l kind r)

-- a place of the broker of one id, on or off, in each row
zero_if : (t : Bool) → if_so t 0 ≡ 0
zero_if true = refl
zero_if false = refl

module _ (c : Cluster) (id p : ℕ) (first gains : Bool) (rows : List (List ℕ)) where
  untouched : (k : ℕ) → eqb id (id_at c.brokers k) ≡ false → (row : List ℕ)
      → IsChanged c.parts (λ kind. cond gains 0 (put_on id (id_at c.brokers k) kind c.parts p first)) (λ kind. cond gains (put_on id (id_at c.brokers k) kind c.parts p first) 0) row row
  untouched k e row = record { long = refl; each = λ kind r. rw (e, zero_if gains) refl }

  pub changed-none : ((k : ℕ) → k < length c.brokers → id_at c.brokers k ≡ id → ⊥) → (k : ℕ) → k < length c.brokers
      → IsChanged c.parts (λ kind. cond gains 0 (put_on id (id_at c.brokers k) kind c.parts p first)) (λ kind. cond gains (put_on id (id_at c.brokers k) kind c.parts p first) 0) (get_or rows k []) (get_or rows k [])
  changed-none none k l = untouched k (ne_eqb id _ (λ e. none k l (sym e))) (get_or rows k [])

  pub changed-one : (broker : ℕ) (row : List ℕ) → broker < length rows → id_at c.brokers broker ≡ id → ((k : ℕ) → k < length c.brokers → id_at c.brokers k ≡ id → k ≡ broker)
      → IsChanged c.parts (λ kind. cond gains 0 (weight_at kind c.parts p first)) (λ kind. cond gains (weight_at kind c.parts p first) 0) (get_or rows broker []) row
      → (k : ℕ) → k < length c.brokers
      → IsChanged c.parts (λ kind. cond gains 0 (put_on id (id_at c.brokers k) kind c.parts p first)) (λ kind. cond gains (put_on id (id_at c.brokers k) kind c.parts p first) 0) (get_or rows k []) (get_or (set rows broker row) k [])
  changed-one broker row l at only h k m =
      elim (cases_eq k broker) as (λ _. IsChanged c.parts (λ kind. cond gains 0 (put_on id (id_at c.brokers k) kind c.parts p first)) (λ kind. cond gains (put_on id (id_at c.brokers k) kind c.parts p first) 0) (get_or rows k []) (get_or (set rows broker row) k [])) [
        | inl e ↦ rw (e, get_or-set_same rows broker row [] l) (record { long = h.long; each = λ kind r. rw (eq-eqb id _ (sym at)) (h.each kind r) })
        | inr ne ↦ rw (get_or-set_other rows broker k row [] (λ e. ne e)) (untouched k (ne_eqb id _ (λ e. ne (only k m (sym e)))) (get_or rows k []))
      ]

-- one change after another
pub IsChanged-both : (ps : List Part) (minus plus more less : Amount → ℕ) (old mid new : List ℕ) → IsChanged ps minus plus old mid → IsChanged ps less more mid new
    → IsChanged ps (λ kind. minus kind + less kind) (λ kind. plus kind + more kind) old new
IsChanged-both ps minus plus more less old mid new h k = record { long = k.long ∙ h.long; each = λ kind r. omega (arith, h.each kind r, k.each kind r) }

-- what weighs nothing changes nothing
abbrev if_not : Bool → ℕ → ℕ
if_not t w = cond t 0 w

pub nothing_if : (t : Bool) (w : ℕ) → w ≡ 0 → (if_not t w ≡ 0) × (if_so t w ≡ 0)
nothing_if true w z = (refl, z)
nothing_if false w z = (z, refl)

-- the places of a list, one more
pub IsChanged-more : (ps : List Part) (p b i : ℕ) (list : List ℕ) (old mid new : List ℕ) → i < length list
    → IsChanged ps (λ kind. 0) (λ kind. list_load (lead_at kind ps p) (follow_at kind ps p) b (take i list)) old mid
    → IsChanged ps (λ kind. 0) (λ kind. put_on (get_or list i 0) b kind ps p (eqb i 0)) mid new
    → IsChanged ps (λ kind. 0) (λ kind. list_load (lead_at kind ps p) (follow_at kind ps p) b (take (i + 1) list)) old new
IsChanged-more ps p b i list old mid new l h k = record {
  long = k.long ∙ h.long;
  each = λ kind r.
      let more : list_load (lead_at kind ps p) (follow_at kind ps p) b (take (i + 1) list) ≡ list_load (lead_at kind ps p) (follow_at kind ps p) b (take i list) + put_on (get_or list i 0) b kind ps p (eqb (length (take i list)) 0) =
      ap (list_load (lead_at kind ps p) (follow_at kind ps p) b) (take_more list i 0 l) ∙ list_load-push (lead_at kind ps p) (follow_at kind ps p) b (get_or list i 0) (take i list) in
      let here : length (take i list) ≡ i = omega (arith, length-take i list) in
      omega (arith, rw here at more, h.each kind r, k.each kind r);
}

-- and the lists, one more
pub IsTable-more : (c : Cluster) (lists : Lists) (i : ℕ) (rows new : List (List ℕ)) → i < length lists → i < length c.parts → IsTable c (take i lists) rows → length new ≡ length rows
    → ((n : ℕ) → n < length c.brokers → IsChanged c.parts (λ kind. 0) (λ kind. list_load (lead_at kind c.parts i) (follow_at kind c.parts i) (id_at c.brokers n) (list_of lists i)) (get_or rows n []) (get_or new n []))
    → IsTable c (take (i + 1) lists) new
IsTable-more c lists i rows new l m h e each =
    let here : length (take i lists) ≡ i = omega (arith, length-take i lists) in
    rw (take_more lists i [] l) (IsTable-push c (take i lists) (list_of lists i) rows new (rw here m) h e (rw here each))

pub Short-take : (lists : Lists) (n : ℕ) → Short lists → Short (take n lists)
Short-take lists n h = record { each = by lists n h.each } where
  by : (ls : Lists) (m : ℕ) → ((i : ℕ) → length (list_of ls i) ≤ 8) → (i : ℕ) → length (list_of (take m ls) i) ≤ 8
  by [] zero k i = k i
  by [] (suc m) k i = k i
  by (l ∷ ls) zero k i = omega arith
  by (l ∷ ls) (suc m) k zero = k 0
  by (l ∷ ls) (suc m) k (suc i) = by ls m (λ j. k (suc j)) i

pub Short-set : (lists : Lists) (p : ℕ) (new : List ℕ) → Short lists → p < length lists → length new ≡ length (list_of lists p) → Short (set lists p new)
Short-set lists p new h l e = record {
  each = λ i. elim (cases_eq i p) as (λ _. length (list_of (set lists p new) i) ≤ 8) [
    | inl s ↦ rw (s, get_or-set_same lists p new [] l, e) (h.each p)
    | inr ne ↦ rw (get_or-set_other lists p i new [] (λ s. ne s)) (h.each i)
  ];
}

-- the first member and another exchanged: the other's place first, and then the first one
module _ (c : Cluster) (lists : Lists) (p i : ℕ) (l : p < length lists) (m : length lists ≤ length c.parts) (k : i < length (list_of lists p)) where
  abbrev pub half : Lists
  half = set lists p (set (list_of lists p) i (get_or (list_of lists p) 0 0))

  half-list : list_of half p ≡ set (list_of lists p) i (get_or (list_of lists p) 0 0)
  half-list = get_or-set_same lists p (set (list_of lists p) i (get_or (list_of lists p) 0 0)) [] l

  half-first : get_or (list_of half p) 0 0 ≡ get_or (list_of lists p) 0 0
  half-first = ap (λ xs. get_or xs 0 0) half-list ∙ elim (cases_eq 0 i) as (λ _. get_or (set (list_of lists p) i (get_or (list_of lists p) 0 0)) 0 0 ≡ get_or (list_of lists p) 0 0) [
    | inl e ↦ rw (← e) (get_or-set_same (list_of lists p) 0 (get_or (list_of lists p) 0 0) 0 (omega arith))
    | inr ne ↦ get_or-set_other (list_of lists p) i 0 (get_or (list_of lists p) 0 0) 0 (λ e. ne e)
  ]

  within-half : 0 < length (list_of half p)
  within-half = rw (half-list, length-set) (omega arith)

  pub Short-half : Short lists → Short half
  Short-half h = Short-set lists p (set (list_of lists p) i (get_or (list_of lists p) 0 0)) h l (length-set (list_of lists p) i (get_or (list_of lists p) 0 0))

  module _ (rows : List (List ℕ)) (h : IsTable c half rows) where
    pub exchange-enough : (n : ℕ) → n < length c.brokers → (kind : Amount) → InRange kind c.parts
        → put_on (get_or (list_of lists p) 0 0) (id_at c.brokers n) kind c.parts p true ≤ get_or (get_or rows n []) (column kind) 0 + put_on (get_or (list_of lists p) i 0) (id_at c.brokers n) kind c.parts p true
    exchange-enough = rw half-first at (shift-enough c half p 0 (get_or (list_of lists p) i 0) rows (rw length-set l) (rw length-set m) within-half h)

    pub IsTable-exchange : (new : List (List ℕ)) → length new ≡ length rows
        → ((n : ℕ) → n < length c.brokers → IsChanged c.parts (λ kind. put_on (get_or (list_of lists p) 0 0) (id_at c.brokers n) kind c.parts p true) (λ kind. put_on (get_or (list_of lists p) i 0) (id_at c.brokers n) kind c.parts p true) (get_or rows n []) (get_or new n []))
        → IsTable c (set lists p (exchange_at i (list_of lists p))) new
    IsTable-exchange new e each =
        let whole = IsTable-shift c half p 0 (get_or (list_of lists p) i 0) rows (rw length-set l) (rw length-set m) within-half h new e (rw half-first each) in
        rw (half-list, set-set) at whole

pub put_on-below : (id b : ℕ) (kind : Amount) (c : Cluster) (p : ℕ) (first : Bool) → IsCase c → put_on id b kind c.parts p first < 2 ^ 32
put_on-below id b kind c p first h = by (eqb id b) first where
  by : (t u : Bool) → if_so t (cond u (lead_at kind c.parts p) (follow_at kind c.parts p)) < 2 ^ 32
  by false u = omega arith
  by true true = (weight-below kind c p h).0
  by true false = (weight-below kind c p h).1
