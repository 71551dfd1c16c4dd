-- Lists in order with the same members are the same.
use Rattle.std.specs.Prelude.{◌==◌, ◌||◌, ◌&&◌, nat_lt, nat_le, Bool}
use Rattle.std.proofs.Common.{◌≡◌, ℕ, ◌<◌, ◌≤◌, ◌++◌, true, false, List, [], ◌∷◌, zero, suc, length, get_or, refl, ap, ◌∙◌, sym, arith, inl, inr, eq-eqb}
use Rattle.std.specs.List.{All, filter}
use Rattle.std.proofs.lemmas.Bool.{cases_Bool, cases_eq, cases_lt, ne_eqb, false≢true, leb-true, leb-false, lt-ltb, le-ltb}
use Rattle.std.proofs.lemmas.List.Elements.{All-nil, All-append, All-filter}
use Rattle.plan_terms.specs.Cluster.{Cluster, Lists, list_of, has}
use Rattle.candidate_order.specs.CandidateList.{put_by, by_falling, numbers, disk_of, replicas_of}
use Rattle.candidate_order.specs.Order.{GoesBefore, IsInOrder, AreReplicasOf}
use Rattle.candidate_order.proofs.RowLemmas.{All-put, All-front}

-- a member has what all have
pub member-All : (P : ℕ → Type 0) (xs : List ℕ) (p : ℕ) → has xs p ≡ true → All P xs → P p
member-All P [] p h a = absurd (false≢true h)
member-All P (x ∷ xs) p h a = elim (cases_eq x p) as (λ _. P p) [
  | inl e ↦ rw (← e) (a 0 x (omega arith))
  | inr n ↦ member-All P xs p (rw (ne_eqb x p n) at h) (λ k d l. a (suc k) d (omega arith))
]

-- the first is a member
has-head : (x : ℕ) (xs : List ℕ) → has (x ∷ xs) x ≡ true
has-head x xs = rw (eq-eqb x x refl) refl

has-miss : (x p : ℕ) (xs : List ℕ) → (x ≡ p → ⊥) → has (x ∷ xs) p ≡ has xs p
has-miss x p xs n = rw (ne_eqb x p n) refl

module _ (f : ℕ → ℕ) where
  -- what goes before all of a list is none of it
  apart : (x : ℕ) (xs : List ℕ) → All (GoesBefore f x) xs → has xs x ≡ false
  apart x xs a = elim (cases_Bool (has xs x)) as (λ _. has xs x ≡ false) [
    | inl t ↦ let b = member-All (GoesBefore f x) xs x t a in absurd (omega (arith, b.ties (omega arith)))
    | inr e ↦ e
  ]

  -- two lists in order begin alike
  same-head : (x y : ℕ) (xs ys : List ℕ) → All (GoesBefore f x) xs → All (GoesBefore f y) ys → has (y ∷ ys) x ≡ true → has (x ∷ xs) y ≡ true → x ≡ y
  same-head x y xs ys a b h i = elim (cases_eq x y) as (λ _. x ≡ y) [
    | inl e ↦ e
    | inr n ↦
        let one = member-All (GoesBefore f y) ys x (sym (has-miss y x ys (λ e. n (sym e))) ∙ h) b in
        let two = member-All (GoesBefore f x) xs y (sym (has-miss x y xs n) ∙ i) a in
        absurd (omega (arith, one.ties, two.ties, one.falls, two.falls))
  ]

  pub same-members : (xs ys : List ℕ) → IsInOrder f xs → IsInOrder f ys → ((p : ℕ) → has xs p ≡ has ys p) → xs ≡ ys
  same-members [] [] a b h = refl
  same-members [] (y ∷ ys) a b h = absurd (false≢true (h y ∙ has-head y ys))
  same-members (x ∷ xs) [] a b h = absurd (false≢true (sym (h x) ∙ has-head x xs))
  same-members (x ∷ xs) (y ∷ ys) a b h =
      let e : x ≡ y = same-head x y xs ys a.0 b.0 (sym (h x) ∙ has-head x xs) (h y ∙ has-head y ys) in
      let t : xs ≡ ys = same-members xs ys a.1 b.1 (tails e) in
      cc where
        tails : x ≡ y → (p : ℕ) → has xs p ≡ has ys p
        tails e p = elim (cases_eq x p) as (λ _. has xs p ≡ has ys p) [
          | inl i ↦ rw (← i) (apart x xs a.0 ∙ rw e (sym (apart y ys b.0)))
          | inr n ↦ sym (has-miss x p xs n) ∙ h p ∙ has-miss y p ys (λ j. n (e ∙ j))
        ]

  -- a sort puts in order
  order-put : (x : ℕ) (ys : List ℕ) → All (λ y. x < y) ys → IsInOrder f ys → IsInOrder f (put_by f x ys)
  order-put x [] l o = (All-nil (GoesBefore f x), tt)
  order-put x (y ∷ ys) l o = elim (cases_Bool (nat_le (f y) (f x))) as (λ _. IsInOrder f (put_by f x (y ∷ ys))) [
    | inl e ↦
        let le = leb-true _ _ e in
        rw e (
          (λ k d m. record {
            falls = elim (cases_lt k 1) as (λ _. f (get_or (y ∷ ys) k d) ≤ f x) [ inl z ↦ first k d z le | inr s ↦ later k d s m le ];
            ties = λ _. l k d m;
          }),
          o,
        )
    | inr e ↦
        let lt = leb-false _ _ e in
        rw e (
          All-put (GoesBefore f y) f x ys (record { falls = omega arith; ties = λ t. absurd (omega arith) }) o.0,
          order-put x ys (λ k d m. l (suc k) d (omega arith)) o.1,
        )
  ] where
    first : (k d : ℕ) → k < 1 → f y ≤ f x → f (get_or (y ∷ ys) k d) ≤ f x
    first zero d z h = h
    first (suc k) d z h = absurd (omega arith)

    later : (k d : ℕ) → 1 ≤ k → k < length (y ∷ ys) → f y ≤ f x → f (get_or (y ∷ ys) k d) ≤ f x
    later zero d z m h = absurd (omega arith)
    later (suc k) d z m h = omega (arith, (o.0 k d (omega arith)).falls)

  -- each is less than all behind it
  abbrev Rises : List ℕ → Type 0
  Rises [] = Unit {0}
  Rises (x ∷ xs) = All (λ y. x < y) xs × Rises xs

  All-sorted : (P : ℕ → Type 0) (xs : List ℕ) → All P xs → All P (by_falling f xs)
  All-sorted P [] t = t
  All-sorted P (x ∷ xs) t = All-put P f x (by_falling f xs) (t 0 x (omega arith)) (All-sorted P xs (λ k d l. t (suc k) d (omega arith)))

  pub order-sorted : (xs : List ℕ) → Rises xs → IsInOrder f (by_falling f xs)
  order-sorted [] r = tt
  order-sorted (x ∷ xs) r = order-put x (by_falling f xs) (All-sorted (λ y. x < y) xs r.0) (order-sorted xs r.1)

  -- and keeps the members
  or-swap : (a b c : Bool) → (b || (a || c)) ≡ (a || (b || c))
  or-swap true true c = refl
  or-swap true false c = refl
  or-swap false true c = refl
  or-swap false false c = refl

  has-put : (x : ℕ) (ys : List ℕ) (p : ℕ) → has (put_by f x ys) p ≡ has (x ∷ ys) p
  has-put x [] p = refl
  has-put x (y ∷ ys) p = elim (cases_Bool (nat_le (f y) (f x))) as (λ _. has (put_by f x (y ∷ ys)) p ≡ has (x ∷ y ∷ ys) p) [
    | inl e ↦ rw e refl
    | inr e ↦ rw e (ap (λ b. (y == p) || b) (has-put x ys p) ∙ or-swap (x == p) (y == p) (has ys p))
  ]

  pub has-sorted : (xs : List ℕ) (p : ℕ) → has (by_falling f xs) p ≡ has xs p
  has-sorted [] p = refl
  has-sorted (x ∷ xs) p = has-put x (by_falling f xs) p ∙ ap (λ b. (x == p) || b) (has-sorted xs p)

-- the numbers rise
rises-append : (f : ℕ → ℕ) (xs : List ℕ) (n : ℕ) → Rises f xs → All (λ y. y < n) xs → Rises f (xs ++ n ∷ [])
rises-append f [] n r l = (All-nil (λ y. n < y), tt)
rises-append f (x ∷ xs) n r l =
    (All-append (λ y. x < y) xs (n ∷ []) r.0 (All-front (λ y. x < y) n [] (l 0 x (omega arith)) (All-nil (λ y. x < y))), rises-append f xs n r.1 (λ k d m. l (suc k) d (omega arith)))

rises-filter : (f : ℕ → ℕ) (q : ℕ → Bool) (xs : List ℕ) → Rises f xs → Rises f (filter q xs)
rises-filter f q [] r = tt
rises-filter f q (x ∷ xs) r = elim (cases_Bool (q x)) as (λ _. Rises f (filter q (x ∷ xs))) [
  | inl e ↦ rw e (All-filter q (λ y. x < y) xs r.0, rises-filter f q xs r.1)
  | inr e ↦ rw e (rises-filter f q xs r.1)
]

numbers-below : (n m : ℕ) → n ≤ m → All (λ p. p < m) (numbers n)
numbers-below zero m l = All-nil (λ p. p < m)
numbers-below (suc n) m l = All-append (λ p. p < m) (numbers n) (n ∷ []) (numbers-below n m (omega arith)) (All-front (λ p. p < m) n [] (omega arith) (All-nil (λ p. p < m)))

rises-numbers : (f : ℕ → ℕ) (n : ℕ) → Rises f (numbers n)
rises-numbers f zero = tt
rises-numbers f (suc n) = rises-append f (numbers n) n (rises-numbers f n) (numbers-below n n (omega arith))

-- the members of a filter, and of the numbers
has-filter : (q : ℕ → Bool) (xs : List ℕ) (p : ℕ) → has (filter q xs) p ≡ (has xs p && q p)
has-filter q [] p = refl
has-filter q (x ∷ xs) p = elim (cases_Bool (q x)) as (λ _. has (filter q (x ∷ xs)) p ≡ (has (x ∷ xs) p && q p)) [
  | inl e ↦ rw e (elim (cases_eq x p) as (λ _. has (x ∷ filter q xs) p ≡ (has (x ∷ xs) p && q p)) [
    | inl i ↦ rw (eq-eqb x p i) (sym e ∙ ap q i)
    | inr n ↦ rw (ne_eqb x p n) (has-filter q xs p)
  ])
  | inr e ↦ rw e (elim (cases_eq x p) as (λ _. has (filter q xs) p ≡ (has (x ∷ xs) p && q p)) [
    | inl i ↦ rw (eq-eqb x p i) (has-filter q xs p ∙ none (has xs p) (q p) (sym (ap q i) ∙ e) ∙ sym (sym (ap q i) ∙ e))
    | inr n ↦ rw (ne_eqb x p n) (has-filter q xs p)
  ])
] where
  none : (a b : Bool) → b ≡ false → (a && b) ≡ false
  none true b h = h
  none false b h = refl

has-append : (xs ys : List ℕ) (p : ℕ) → has (xs ++ ys) p ≡ (has xs p || has ys p)
has-append [] ys p = refl
has-append (x ∷ xs) ys p = elim (cases_eq x p) as (λ _. has ((x ∷ xs) ++ ys) p ≡ (has (x ∷ xs) p || has ys p)) [
  | inl e ↦ rw (eq-eqb x p e) refl
  | inr n ↦ rw (ne_eqb x p n) (has-append xs ys p)
]

has-numbers : (n p : ℕ) → has (numbers n) p ≡ nat_lt p n
has-numbers zero p = sym (le-ltb p zero (omega arith))
has-numbers (suc n) p = has-append (numbers n) (n ∷ []) p ∙ ap (λ b. b || has (n ∷ []) p) (has-numbers n p) ∙ elim (cases_lt p n) as (λ _. (nat_lt p n || has (n ∷ []) p) ≡ nat_lt p (suc n)) [
  | inl l ↦ rw (lt-ltb p n l) (sym (lt-ltb p (suc n) (omega arith)))
  | inr l ↦ rw (le-ltb p n l) (elim (cases_eq n p) as (λ _. has (n ∷ []) p ≡ nat_lt p (suc n)) [
    | inl e ↦ rw (eq-eqb n p e) (sym (lt-ltb p (suc n) (omega arith)))
    | inr d ↦ rw (ne_eqb n p d) (sym (le-ltb p (suc n) (omega arith)))
  ])
]

pub replicas-are : (c : Cluster) (lists : Lists) (b : ℕ) → AreReplicasOf c lists b (replicas_of c lists b)
replicas-are c lists b = record {
  in_order = order-sorted (disk_of c lists b) _ (rises-filter (disk_of c lists b) (λ p. has (list_of lists p) b) (numbers (length lists)) (rises-numbers (disk_of c lists b) (length lists)));
  members = λ p. has-sorted (disk_of c lists b) (filter (λ p. has (list_of lists p) b) (numbers (length lists))) p
      ∙ has-filter (λ p. has (list_of lists p) b) (numbers (length lists)) p
      ∙ ap (λ t. t && has (list_of lists p) b) (has-numbers (length lists) p);
}

pub replicas-only : (c : Cluster) (lists : Lists) (b : ℕ) (xs : List ℕ) → AreReplicasOf c lists b xs → xs ≡ replicas_of c lists b
replicas-only c lists b xs h =
    let mine = replicas-are c lists b in
    same-members (disk_of c lists b) xs (replicas_of c lists b) h.in_order mine.in_order (λ p. h.members p ∙ sym (mine.members p))
