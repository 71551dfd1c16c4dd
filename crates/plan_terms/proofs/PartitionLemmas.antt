-- Laws of goals with one unit for each partition: what a change of one or two lists does to them.
use Rattle.std.proofs.Common.{◌≡◌, ℕ, ◌+◌, ◌^◌, ◌<◌, ◌≤◌, Bool, List, length, set, refl, ap, sym, arith, inl, inr}
use Rattle.std.specs.Prelude.{IsTrue, nat_lt, ◌↔◌}
use Rattle.std.proofs.lemmas.Bool.{cases_eq, ltb-true, lt-ltb}
use Rattle.std.proofs.lemmas.List.{get_or-set_same, get_or-set_other, length-set}
use Rattle.plan_terms.specs.Cluster.{Cluster, Lists, list_of}
use Rattle.plan_terms.specs.Effect.{after}
use Rattle.plan_terms.specs.Goal.{Accepts, Lessens, measure, sum_below, per_partition}
use Rattle.plan_terms.specs.Belongs.{Belongs}
use Rattle.plan_terms.proofs.GoalLemmas.{sum_below-but, sum_below-bound}
use Rattle.plan_terms.proofs.EffectLemmas.{short-at}
use Rattle.plan_terms.specs.declared.actions.Action.{Action}

-- the lists after a write
pub list_of-same : (lists : Lists) (p : ℕ) (list : List ℕ) → p < length lists → list_of (set lists p list) p ≡ list
list_of-same lists p list l = get_or-set_same lists p list _ l

pub list_of-other : (lists : Lists) (p q : ℕ) (list : List ℕ) → (q ≡ p → ⊥) → list_of (set lists p list) q ≡ list_of lists q
list_of-other lists p q list ne = get_or-set_other lists p q list _ ne

-- the sum over the lists changes as the one list does
total-set : (f : List ℕ → ℕ) (lists : Lists) (n p : ℕ) (list : List ℕ) → p < length lists → p < n
    → sum_below (λ u. f (list_of (set lists p list) u)) n + f (list_of lists p) ≡ sum_below (λ u. f (list_of lists u)) n + f list
total-set f lists n p list l m =
    rw (list_of-same lists p list l) at (sum_below-but (λ u. f (list_of (set lists p list) u)) (λ u. f (list_of lists u)) n p m (λ k h ne. ap f (list_of-other lists p k list ne)))

module _ (hard : Bool) (f : List ℕ → ℕ) (c : Cluster) (lists : Lists) (fits : Belongs c lists) where
  -- one list changes
  pub one-accepts : (a : Action) (p : ℕ) (list : List ℕ) → p < length lists → after a lists ≡ set lists p list → f list ≤ f (list_of lists p) → Accepts (per_partition hard f c) lists a
  one-accepts a p list l e h = record {
    no_unit_rises = λ u m. elim (cases_eq u p) as (λ _. f (list_of (after a lists) u) ≤ f (list_of lists u)) [
      | inl same ↦ rw (e, same, list_of-same lists p list l) h
      | inr ne ↦ rw (e, list_of-other lists p u list ne) (omega arith)
    ];
  }

  pub accepts-one : (a : Action) (p : ℕ) (list : List ℕ) → p < length lists → after a lists ≡ set lists p list → Accepts (per_partition hard f c) lists a → f list ≤ f (list_of lists p)
  accepts-one a p list l e h =
      let n : p < length c.parts = omega (arith, fits.one_each) in
      rw (e, list_of-same lists p list l) at (h.no_unit_rises p n)

  pub one-lessens : (a : Action) (p : ℕ) (list : List ℕ) → p < length lists → after a lists ≡ set lists p list → f list < f (list_of lists p) → Lessens (per_partition hard f c) lists a
  unfolding measure
  one-lessens a p list l e h =
      let n : p < length c.parts = omega (arith, fits.one_each) in
      rw e (omega (arith, total-set f lists (length c.parts) p list l n))

  pub lessens-one : (a : Action) (p : ℕ) (list : List ℕ) → p < length lists → after a lists ≡ set lists p list → Lessens (per_partition hard f c) lists a → f list < f (list_of lists p)
  unfolding measure
  lessens-one a p list l e h =
      let n : p < length c.parts = omega (arith, fits.one_each) in
      let less = rw e at h in
      omega (arith, total-set f lists (length c.parts) p list l n)

  -- two lists change
  module _ (a : Action) (p q : ℕ) (one two : List ℕ) (l : p < length lists) (m : q < length lists) (apart : p ≡ q → ⊥) (e : after a lists ≡ set (set lists p one) q two) where
    at_q : q < length (set lists p one)
    at_q = rw length-set m

    at_p : list_of (set (set lists p one) q two) p ≡ one
    at_p = rw (list_of-other (set lists p one) q p two apart) (list_of-same lists p one l)

    pub two-accepts : f one ≤ f (list_of lists p) → f two ≤ f (list_of lists q) → Accepts (per_partition hard f c) lists a
    two-accepts h k = record {
      no_unit_rises = λ u r. elim (cases_eq u q) as (λ _. f (list_of (after a lists) u) ≤ f (list_of lists u)) [
        | inl same ↦ rw (e, same, list_of-same (set lists p one) q two at_q) k
        | inr other ↦ elim (cases_eq u p) as (λ _. f (list_of (after a lists) u) ≤ f (list_of lists u)) [
          | inl same ↦ rw (e, same, at_p) h
          | inr ne ↦ rw (e, list_of-other (set lists p one) q u two other, list_of-other lists p u one ne) (omega arith)
        ]
      ];
    }

    pub accepts-two : Accepts (per_partition hard f c) lists a → (f one ≤ f (list_of lists p)) × (f two ≤ f (list_of lists q))
    accepts-two h =
        let n : p < length c.parts = omega (arith, fits.one_each) in
        let o : q < length c.parts = omega (arith, fits.one_each) in
        (rw (e, at_p) at (h.no_unit_rises p n), rw (e, list_of-same (set lists p one) q two at_q) at (h.no_unit_rises q o))

    totals : (n : ℕ) → n ≡ length c.parts
        → sum_below (λ u. f (list_of (set (set lists p one) q two) u)) n + f (list_of lists p) + f (list_of lists q) ≡ sum_below (λ u. f (list_of lists u)) n + f one + f two
    totals n i =
        let apart' : q ≡ p → ⊥ = λ x. apart (sym x) in
        omega (arith, total-set f lists n p one l (omega (arith, fits.one_each)), rw (list_of-other lists p q one apart') at (total-set f (set lists p one) n q two at_q (omega (arith, fits.one_each))))

    pub two-lessens : f one + f two < f (list_of lists p) + f (list_of lists q) → Lessens (per_partition hard f c) lists a
    unfolding measure
    two-lessens h = rw e (omega (arith, totals (length c.parts) refl))

    pub lessens-two : Lessens (per_partition hard f c) lists a → f one + f two < f (list_of lists p) + f (list_of lists q)
    unfolding measure
    lessens-two h = let less = rw e at h in omega (arith, totals (length c.parts) refl)

  -- few short lists have a small measure
  pub per_partition-small : length c.parts ≤ 10000 → ((list : List ℕ) → f list ≤ length list) → measure (per_partition hard f c) lists ≤ 80000
  unfolding measure
  per_partition-small few h =
      omega (arith, sum_below-bound (λ p. f (list_of lists p)) (length c.parts) 8 (λ p l. omega (arith, h (list_of lists p), short-at c lists p fits)))

  pub per_partition-fits_120_bits : length c.parts ≤ 10000 → ((list : List ℕ) → f list ≤ length list) → measure (per_partition hard f c) lists < 2 ^ 120
  per_partition-fits_120_bits few h = omega (arith, per_partition-small few h)

  -- a test of the one excess, or of the two, decides whether an action lessens the goal
  pub Lessens-one : (a : Action) (p : ℕ) (list : List ℕ) (x y : ℕ) → p < length lists → after a lists ≡ set lists p list → x ≡ f list → y ≡ f (list_of lists p)
      → IsTrue (nat_lt x y) ↔ Lessens (per_partition hard f c) lists a
  Lessens-one a p list x y l e i j =
      (λ t. one-lessens a p list l e (omega (arith, ltb-true x y t)), λ h. lt-ltb x y (omega (arith, lessens-one a p list l e h)))

  pub Lessens-two : (a : Action) (p q : ℕ) (one two : List ℕ) (x x' y y' : ℕ) → p < length lists → q < length lists → (p ≡ q → ⊥) → after a lists ≡ set (set lists p one) q two
      → x ≡ f one → x' ≡ f two → y ≡ f (list_of lists p) → y' ≡ f (list_of lists q)
      → IsTrue (nat_lt (x + x') (y + y')) ↔ Lessens (per_partition hard f c) lists a
  Lessens-two a p q one two x x' y y' l m apart e i i' j j' =
      (λ t. two-lessens a p q one two l m apart e (omega (arith, ltb-true (x + x') (y + y') t)), λ h. lt-ltb (x + x') (y + y') (omega (arith, lessens-two a p q one two l m apart e h)))
