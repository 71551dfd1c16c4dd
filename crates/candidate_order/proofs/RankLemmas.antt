-- Rows in order: what comes and what goes.
use Rattle.std.specs.Prelude.{◌⊎◌, ◌==◌, ◌||◌, ◌&&◌, not, nat_lt, nat_le, Bool}
use Rattle.std.proofs.Common.{◌≡◌, ℕ, ◌+◌, ◌<◌, ◌≤◌, true, false, List, [], ◌∷◌, zero, suc, length, get_or, refl, ap, ◌∙◌, sym, arith, inl, inr, eq-eqb}
use Rattle.std.specs.List.{All, filter, insert, remove}
use Rattle.std.proofs.lemmas.Bool.{cases_Bool, cases_eq, cases_lt, ne_eqb, false≢true, ltb-true, and_parts, not-true, lt-ltb, le-ltb}
use Rattle.std.proofs.lemmas.List.{get_or_default, length_push}
use Rattle.plan_terms.specs.Cluster.{Cluster, Lists, list_of, has, leads}
use Rattle.goal_terms.specs.Quantity.{part_weight, load_weights}
use Rattle.candidate_order.specs.CandidateList.{put_by, by_falling, numbers, disk_of}
use Rattle.candidate_order.specs.Order.{GoesBefore, IsInOrder, AreReplicasOf}
use Rattle.candidate_order.specs.Ranks.{IsAhead, IsPut, IsTaken, IsTraded}
use Rattle.candidate_order.proofs.RowLemmas.{All-front}
use Rattle.candidate_order.proofs.OrderLemmas.{replicas-only, member-All}

pub ahead-trans : {n x m y l z : ℕ} → IsAhead n x m y → IsAhead m y l z → IsAhead n x l z
ahead-trans a b = record { falls = omega (arith, a.falls, b.falls); ties = λ t. omega (arith, a.ties (omega (arith, b.falls)), b.ties (omega (arith, a.falls))) }

-- an element is a member
pub has-at : (xs : List ℕ) (k d : ℕ) → k < length xs → has xs (get_or xs k d) ≡ true
has-at [] k d l = absurd (omega arith)
has-at (x ∷ xs) zero d l = rw (eq-eqb x x refl) refl
has-at (x ∷ xs) (suc k) d l = elim (cases_Bool (x == get_or xs k d)) as (λ _. has (x ∷ xs) (get_or xs k d) ≡ true) [
  | inl e ↦ rw e refl
  | inr e ↦ rw e (has-at xs k d (omega arith))
]

or-swap : (a b c : Bool) → (b || (a || c)) ≡ (a || (b || c))
or-swap true true c = refl
or-swap true false c = refl
or-swap false true c = refl
or-swap false false c = refl

and-true : (a : Bool) → (a && true) ≡ a
and-true true = refl
and-true false = refl

and-false : (a : Bool) → (a && false) ≡ false
and-false true = refl
and-false false = refl

pub All-inserted : (P : ℕ → Type 0) (xs : List ℕ) (i p : ℕ) → P p → All P xs → All P (insert xs i p)
All-inserted P xs zero p h a = All-front P p xs h a
All-inserted P [] (suc i) p h a = All-front P p [] h a
All-inserted P (x ∷ xs) (suc i) p h a = All-front P x (insert xs i p) (a 0 x (omega arith)) (All-inserted P xs i p h (λ k d l. a (suc k) d (omega arith)))

pub All-removed : (P : ℕ → Type 0) (xs : List ℕ) (i : ℕ) → All P xs → All P (remove xs i)
All-removed P [] zero a = a
All-removed P [] (suc i) a = a
All-removed P (x ∷ xs) zero a = λ k d l. a (suc k) d (omega arith)
All-removed P (x ∷ xs) (suc i) a = All-front P x (remove xs i) (a 0 x (omega arith)) (All-removed P xs i (λ k d l. a (suc k) d (omega arith)))

pub length-removed : (xs : List ℕ) (i : ℕ) → length (remove xs i) ≤ length xs
length-removed [] zero = omega arith
length-removed [] (suc i) = omega arith
length-removed (x ∷ xs) zero = omega arith
length-removed (x ∷ xs) (suc i) = let h : length (remove xs i) ≤ length xs = length-removed xs i in omega arith

pub has-inserted : (xs : List ℕ) (i p q : ℕ) → has (insert xs i p) q ≡ ((p == q) || has xs q)
has-inserted xs zero p q = refl
has-inserted [] (suc i) p q = refl
has-inserted (x ∷ xs) (suc i) p q = ap (λ b. (x == q) || b) (has-inserted xs i p q) ∙ or-swap (p == q) (x == q) (has xs q)

module _ (g : ℕ → ℕ) where
  order-at : (xs : List ℕ) → IsInOrder g xs → (i j : ℕ) → i < j → j < length xs → GoesBefore g (get_or xs i 0) (get_or xs j 0)
  order-at [] o i j l m = absurd (omega arith)
  order-at (x ∷ xs) o zero zero l m = absurd (omega arith)
  order-at (x ∷ xs) o zero (suc j) l m = o.0 j 0 (omega arith)
  order-at (x ∷ xs) o (suc i) zero l m = absurd (omega arith)
  order-at (x ∷ xs) o (suc i) (suc j) l m = order-at xs o.1 i j (omega arith) (omega arith)

  pub ahead-at : (xs : List ℕ) → IsInOrder g xs → (i j : ℕ) → i < j → j < length xs → IsAhead (g (get_or xs i 0)) (get_or xs i 0) (g (get_or xs j 0)) (get_or xs j 0)
  ahead-at xs o i j l m = let h = order-at xs o i j l m in record { falls = h.falls; ties = h.ties }

  -- what goes before all of a list is none of it
  apart : (x : ℕ) (xs : List ℕ) → All (GoesBefore g x) xs → has xs x ≡ false
  apart x xs a = elim (cases_Bool (has xs x)) as (λ _. has xs x ≡ false) [
    | inl t ↦ let b = member-All (GoesBefore g x) xs x t a in absurd (omega (arith, b.ties (omega arith)))
    | inr e ↦ e
  ]

  pub order-inserted : (xs : List ℕ) (i p : ℕ) → IsInOrder g xs → i ≤ length xs → ((k : ℕ) → k < i → GoesBefore g (get_or xs k 0) p)
      → ((k : ℕ) → i ≤ k → k < length xs → GoesBefore g p (get_or xs k 0)) → IsInOrder g (insert xs i p)
  order-inserted xs zero p o l a b = ((λ k d m. rw (get_or_default xs k d 0 m) (b k (omega arith) m)), o)
  order-inserted [] (suc i) p o l a b = absurd (omega arith)
  order-inserted (x ∷ xs) (suc i) p o l a b = (
    All-inserted (GoesBefore g x) xs i p (a 0 (omega arith)) o.0,
    order-inserted xs i p o.1 (omega arith) (λ k m. a (suc k) (omega arith)) (λ k m n. b (suc k) (omega arith) (omega arith)),
  )

  pub order-removed : (xs : List ℕ) (i : ℕ) → IsInOrder g xs → IsInOrder g (remove xs i)
  order-removed [] zero o = tt
  order-removed [] (suc i) o = tt
  order-removed (x ∷ xs) zero o = o.1
  order-removed (x ∷ xs) (suc i) o = (All-removed (GoesBefore g x) xs i o.0, order-removed xs i o.1)

  pub has-removed : (xs : List ℕ) → IsInOrder g xs → (i : ℕ) → i < length xs → (q : ℕ) → has (remove xs i) q ≡ (has xs q && not (get_or xs i 0 == q))
  has-removed [] o i l q = absurd (omega arith)
  has-removed (x ∷ xs) o zero l q = elim (cases_eq x q) as (λ _. has xs q ≡ (((x == q) || has xs q) && not (x == q))) [
    | inl e ↦ rw (eq-eqb x q e, ← e) (apart x xs o.0)
    | inr n ↦ rw (ne_eqb x q n) (sym (and-true (has xs q)))
  ]
  has-removed (x ∷ xs) o (suc i) l q = elim (cases_eq x q) as (λ _. ((x == q) || has (remove xs i) q) ≡ (((x == q) || has xs q) && not (get_or xs i 0 == q))) [
    | inl e ↦
        let h = o.0 i 0 (omega arith) in
        let n : get_or xs i 0 ≡ q → ⊥ = λ f. no h (e ∙ sym f) in
        rw (eq-eqb x q e, ne_eqb (get_or xs i 0) q n) refl
    | inr n ↦ rw (ne_eqb x q n) (has-removed xs o.1 i (omega arith) q)
  ] where
    no : {y : ℕ} → GoesBefore g x y → x ≡ y → ⊥
    no {y} h e = omega (arith, h.ties (rw e (omega arith)))

  pub order-same : (f : ℕ → ℕ) (xs : List ℕ) → All (λ y. g y ≡ f y) xs → IsInOrder f xs → IsInOrder g xs
  order-same f [] e o = tt
  order-same f (x ∷ xs) e o = (
    (λ k d l.
        let h = o.0 k d l in
        let one = e 0 x (omega arith) in
        let other = e (suc k) d (omega arith) in
        record { falls = omega (arith, h.falls, one, other); ties = λ t. h.ties (omega (arith, t, one, other)) }),
    order-same f xs (λ k d l. e (suc k) d (omega arith)) o.1,
  )

-- a row is no longer than there are partitions
length-put : (f : ℕ → ℕ) (x : ℕ) (ys : List ℕ) → length (put_by f x ys) ≡ suc (length ys)
length-put f x [] = refl
length-put f x (y ∷ ys) = elim (cases_Bool (nat_le (f y) (f x))) as (λ _. length (put_by f x (y ∷ ys)) ≡ suc (length (y ∷ ys))) [
  | inl e ↦ rw e refl
  | inr e ↦ rw e (ap suc (length-put f x ys))
]

length-sorted : (f : ℕ → ℕ) (xs : List ℕ) → length (by_falling f xs) ≡ length xs
length-sorted f [] = refl
length-sorted f (x ∷ xs) = length-put f x (by_falling f xs) ∙ ap suc (length-sorted f xs)

length-passed : (p : ℕ → Bool) (xs : List ℕ) → length (filter p xs) ≤ length xs
length-passed p [] = omega arith
length-passed p (x ∷ xs) =
    let h : length (filter p xs) ≤ length xs = length-passed p xs in
    elim (cases_Bool (p x)) as (λ _. length (filter p (x ∷ xs)) ≤ length (x ∷ xs)) [ inl e ↦ rw e (omega arith) | inr e ↦ rw e (omega arith) ]

length-numbers : (n : ℕ) → length (numbers n) ≡ n
length-numbers zero = refl
length-numbers (suc n) = length_push (numbers n) n ∙ (let h : length (numbers n) ≡ n = length-numbers n in omega arith)

pub few-replicas : (c : Cluster) (lists : Lists) (b : ℕ) (xs : List ℕ) → AreReplicasOf c lists b xs → length xs ≤ length lists
few-replicas c lists b xs h =
    let q : ℕ → Bool = λ p. has (list_of lists p) b in
    let e = ap length (replicas-only c lists b xs h) ∙ length-sorted (disk_of c lists b) (filter q (numbers (length lists))) in
    omega (arith, e, length-passed q (numbers (length lists)), length-numbers (length lists))

-- the lists differ for a broker in one partition alone
pub record SameBut (lists later : Lists) (b p : ℕ) : Type 0 where
  pub count : length later ≡ length lists
  pub has_same : (q : ℕ) → (q ≡ p → ⊥) → has (list_of later q) b ≡ has (list_of lists q) b
  pub leads_same : (q : ℕ) → (q ≡ p → ⊥) → leads (list_of later q) b ≡ leads (list_of lists q) b

module _ (c : Cluster) (lists later : Lists) (b p : ℕ) (s : SameBut lists later b p) where
  disk-same : (q : ℕ) → (q ≡ p → ⊥) → disk_of c later b q ≡ disk_of c lists b q
  disk-same q n = ap (part_weight (load_weights 3) c.parts q) (s.leads_same q n)

  -- without its place
  pub lose : has (list_of later p) b ≡ false → (xs ys : List ℕ) → AreReplicasOf c lists b xs → IsTaken p xs ys → AreReplicasOf c later b ys
  lose gone xs ys h t = record {
    in_order = rw t.is (order-same (disk_of c later b) (disk_of c lists b) (remove xs t.place) same (order-removed (disk_of c lists b) xs t.place h.in_order));
    members = λ q. rw (t.is, s.count) (has-removed (disk_of c lists b) xs h.in_order t.place t.within q ∙ rw (t.at, h.members q) (left q));
  } where
    same : All (λ y. disk_of c later b y ≡ disk_of c lists b y) (remove xs t.place)
    same k d l =
        let y = get_or (remove xs t.place) k d in
        let m = sym (has-removed (disk_of c lists b) xs h.in_order t.place t.within y) ∙ has-at (remove xs t.place) k d l in
        disk-same y (λ e. false≢true (sym (not-true (p == y) (and_parts (has xs y) (not (p == y)) (rw t.at at m)).1) ∙ eq-eqb p y (sym e)))

    left : (q : ℕ) → ((nat_lt q (length lists) && has (list_of lists q) b) && not (p == q)) ≡ (nat_lt q (length lists) && has (list_of later q) b)
    left q = elim (cases_eq p q) as (λ _. ((nat_lt q (length lists) && has (list_of lists q) b) && not (p == q)) ≡ (nat_lt q (length lists) && has (list_of later q) b)) [
      | inl e ↦ rw (eq-eqb p q e, ← e, gone) (and-false (nat_lt p (length lists) && has (list_of lists p) b) ∙ sym (and-false (nat_lt p (length lists))))
      | inr n ↦ rw (ne_eqb p q n, s.has_same q (λ e. n (sym e))) (and-true (nat_lt q (length lists) && has (list_of lists q) b))
    ]

  -- with a place more
  pub gain : has (list_of lists p) b ≡ false → has (list_of later p) b ≡ true → p < length lists → (f : ℕ → ℕ) (n : ℕ) → n ≡ disk_of c later b p
      → (xs ys : List ℕ) → All (λ y. f y ≡ disk_of c lists b y) xs → AreReplicasOf c lists b xs → IsPut f n p xs ys → AreReplicasOf c later b ys
  gain none comes within f n w xs ys fs h t = record {
    in_order = rw t.is (order-inserted (disk_of c later b) xs t.place p (order-same (disk_of c later b) (disk_of c lists b) xs same h.in_order) t.fits.within
        (λ k l.
        let a = t.fits.before k l in
        let e = same k 0 (omega (arith, t.fits.within)) in
        let e' = fs k 0 (omega (arith, t.fits.within)) in
        record { falls = omega (arith, a.falls, e, e', w); ties = λ u. a.ties (omega (arith, u, e, e', w)) })
        (λ k l m.
        let a = t.fits.behind k l m in
        let e = same k 0 m in
        let e' = fs k 0 m in
        record { falls = omega (arith, a.falls, e, e', w); ties = λ u. a.ties (omega (arith, u, e, e', w)) }));
    members = λ q. rw (t.is, s.count) (has-inserted xs t.place p q ∙ rw (h.members q) (more q));
  } where
    same : All (λ y. disk_of c later b y ≡ disk_of c lists b y) xs
    same k d l =
        let y = get_or xs k d in
        let m = sym (h.members y) ∙ has-at xs k d l in
        disk-same y (λ e. false≢true (sym none ∙ rw e at (and_parts (nat_lt y (length lists)) (has (list_of lists y) b) m).1))

    more : (q : ℕ) → ((p == q) || (nat_lt q (length lists) && has (list_of lists q) b)) ≡ (nat_lt q (length lists) && has (list_of later q) b)
    more q = elim (cases_eq p q) as (λ _. ((p == q) || (nat_lt q (length lists) && has (list_of lists q) b)) ≡ (nat_lt q (length lists) && has (list_of later q) b)) [
      | inl e ↦ rw (eq-eqb p q e, ← e, comes, lt-ltb p (length lists) within) refl
      | inr n ↦ rw (ne_eqb p q n, s.has_same q (λ e. n (sym e))) refl
    ]

-- the lists are the same for a broker
pub keeps : (c : Cluster) (lists later : Lists) (b : ℕ) → length later ≡ length lists → ((q : ℕ) → has (list_of later q) b ≡ has (list_of lists q) b)
    → ((q : ℕ) → leads (list_of later q) b ≡ leads (list_of lists q) b) → (xs : List ℕ) → AreReplicasOf c lists b xs → AreReplicasOf c later b xs
keeps c lists later b count h l xs a = record {
  in_order = order-same (disk_of c later b) (disk_of c lists b) xs (λ k d m. ap (part_weight (load_weights 3) c.parts (get_or xs k d)) (l (get_or xs k d))) a.in_order;
  members = λ q. rw (count, h q) (a.members q);
}

-- one place goes and another comes
pub traded : (c : Cluster) (lists between later : Lists) (b p q : ℕ) → SameBut lists between b p → has (list_of between p) b ≡ false
    → SameBut between later b q → has (list_of between q) b ≡ false → has (list_of later q) b ≡ true → q < length lists
    → (n : ℕ) → n ≡ disk_of c later b q → (xs ys : List ℕ) → AreReplicasOf c lists b xs → IsTraded (disk_of c lists b) p n q xs ys → AreReplicasOf c later b ys
traded c lists between later b p q s gone s' none comes within n w xs ys h t =
    let m = lose c lists between b p s gone xs t.between h t.taken in
    gain c between later b q s' none comes (omega (arith, s.count, within)) (disk_of c lists b) n w t.between ys
    (λ k d l.
    let y = get_or t.between k d in
    let e = sym (m.members y) ∙ has-at t.between k d l in
    sym (disk-same c lists between b p s y (λ f. false≢true (sym gone ∙ rw f at (and_parts (nat_lt y (length between)) (has (list_of between y) b) e).1))))
    m t.put

-- the partitions of replicas are partitions
pub members-within : (c : Cluster) (lists : Lists) (b : ℕ) (xs : List ℕ) → AreReplicasOf c lists b xs → All (λ q. q < length lists) xs
members-within c lists b xs h k d l =
    let y = get_or xs k d in
    ltb-true y (length lists) (and_parts (nat_lt y (length lists)) (has (list_of lists y) b) (sym (h.members y) ∙ has-at xs k d l)).0

-- a row without a place
module _ (g : ℕ → ℕ) (p : ℕ) (xs ys : List ℕ) (t : IsTaken p xs ys) where
  pub taken-order : IsInOrder g xs → IsInOrder g ys
  taken-order o = rw t.is (order-removed g xs t.place o)

  pub taken-within : (n : ℕ) → All (λ q. q < n) xs → All (λ q. q < n) ys
  taken-within n a = rw t.is (All-removed (λ q. q < n) xs t.place a)

  pub taken-few : length ys ≤ length xs
  taken-few = rw t.is (length-removed xs t.place)

  pub taken-none : IsInOrder g xs → (q : ℕ) → (has xs q ≡ false) ⊎ (q ≡ p) → has ys q ≡ false
  taken-none o q (inl n) = rw t.is (has-removed g xs o t.place t.within q ∙ rw n refl)
  taken-none o q (inr e) = rw t.is (has-removed g xs o t.place t.within q ∙ rw (t.at, eq-eqb p q (sym e)) (and-false (has xs q)))

-- where one does not go before another, the other does
pub ahead-other : (n x m y : ℕ) → (x ≡ y → ⊥) → (IsAhead n x m y → ⊥) → IsAhead m y n x
ahead-other n x m y d never = elim (cases_lt m n) as (λ _. IsAhead m y n x) [
  | inl l ↦ absurd (never (record { falls = omega arith; ties = λ t. absurd (omega arith) }))
  | inr g ↦ elim (cases_lt x y) as (λ _. IsAhead m y n x) [
    | inl l ↦ record { falls = g; ties = λ t. absurd (never (record { falls = t; ties = λ _. l })) }
    | inr k ↦ record { falls = g; ties = λ t. omega (arith, d) }
  ]
]

-- a row that grows partition by partition
pub record Grows (c : Cluster) (lists : Lists) (b n : ℕ) (xs : List ℕ) : Type 0 where
  pub in_order : IsInOrder (disk_of c lists b) xs
  pub members : (q : ℕ) → has xs q ≡ (nat_lt q n && has (list_of lists q) b)
  pub few : length xs ≤ n

length-inserted : (xs : List ℕ) (i p : ℕ) → i ≤ length xs → length (insert xs i p) ≡ length xs + 1
length-inserted xs zero p l = omega arith
length-inserted [] (suc i) p l = absurd (omega arith)
length-inserted (x ∷ xs) (suc i) p l = let h : length (insert xs i p) ≡ length xs + 1 = length-inserted xs i p (omega arith) in omega arith

module _ (c : Cluster) (lists : Lists) (b n : ℕ) (xs : List ℕ) (h : Grows c lists b n xs) where
  pub grows-within : All (λ q. q < n) xs
  grows-within k d l =
      let y = get_or xs k d in
      ltb-true y n (and_parts (nat_lt y n) (has (list_of lists y) b) (sym (h.members y) ∙ has-at xs k d l)).0

  pub grows-new : has xs n ≡ false
  grows-new = h.members n ∙ rw (le-ltb n n (omega arith)) refl

  later-lt : (q : ℕ) → (n ≡ q → ⊥) → nat_lt q n ≡ nat_lt q (n + 1)
  later-lt q d = elim (cases_lt q n) as (λ _. nat_lt q n ≡ nat_lt q (n + 1)) [
    | inl l ↦ lt-ltb q n l ∙ sym (lt-ltb q (n + 1) (omega arith))
    | inr g ↦ le-ltb q n g ∙ sym (le-ltb q (n + 1) (omega (arith, d)))
  ]

  pub grows-skip : has (list_of lists n) b ≡ false → Grows c lists b (n + 1) xs
  grows-skip none = record {
    in_order = h.in_order;
    members = λ q. h.members q ∙ elim (cases_eq n q) as (λ _. (nat_lt q n && has (list_of lists q) b) ≡ (nat_lt q (n + 1) && has (list_of lists q) b)) [
      | inl e ↦ rw (← e, none) (and-false (nat_lt n n) ∙ sym (and-false (nat_lt n (n + 1))))
      | inr d ↦ rw (later-lt q d) refl
    ];
    few = omega (arith, h.few);
  }

  pub grows-put : has (list_of lists n) b ≡ true → (w : ℕ) → w ≡ disk_of c lists b n → (ys : List ℕ) → IsPut (disk_of c lists b) w n xs ys → Grows c lists b (n + 1) ys
  grows-put comes w e ys t = record {
    in_order = rw t.is (order-inserted (disk_of c lists b) xs t.place n h.in_order t.fits.within
        (λ k l. let a = t.fits.before k l in record { falls = omega (arith, a.falls, e); ties = λ u. a.ties (omega (arith, u, e)) })
        (λ k l m. let a = t.fits.behind k l m in record { falls = omega (arith, a.falls, e); ties = λ u. a.ties (omega (arith, u, e)) }));
    members = λ q. rw t.is (has-inserted xs t.place n q ∙ rw (h.members q) (elim (cases_eq n q) as (λ _. ((n == q) || (nat_lt q n && has (list_of lists q) b)) ≡ (nat_lt q (n + 1) && has (list_of lists q) b)) [
      | inl f ↦ rw (eq-eqb n q f, ← f, comes, lt-ltb n (n + 1) (omega arith)) refl
      | inr d ↦ rw (ne_eqb n q d, later-lt q d) refl
    ]));
    few = rw t.is (omega (arith, length-inserted xs t.place n t.fits.within, h.few));
  }
