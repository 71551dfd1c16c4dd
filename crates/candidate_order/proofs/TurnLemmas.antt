-- What an action changes in the rows of brokers.
use Rattle.std.specs.Prelude.{◌==◌, ◌||◌, is_some}
use Rattle.std.proofs.Common.{◌≡◌, ℕ, ◌<◌, Bool, true, false, List, [], ◌∷◌, suc, length, map, get_or, set, refl, ap, ◌∙◌, sym, arith, inl, inr, eq-eqb}
use Rattle.std.proofs.lemmas.Bool.{cases_Bool, cases_eq, lt-ltb, ne_eqb, false≢true, eqb-true, or_parts}
use Rattle.std.proofs.lemmas.List.{get_or-set_other, get_or-set_same, length-set, get_or-map, length-map, get_or_default, same_lists}
use Rattle.plan_terms.proofs.EffectLemmas.{LeadFits, SwapFits}
use Rattle.plan_terms.proofs.MemberLemmas.{has-replaced, has-later}
use Rattle.plan_terms.specs.Belongs.{distinct}
use Rattle.plan_terms.specs.Cluster.{Cluster, Lists, list_of, has, leads, id_at, ids_of}
use Rattle.plan_terms.specs.Effect.{replace, exchange_first}
use Rattle.candidate_order.specs.Order.{AreReplicasOf}
use Rattle.plan_terms.specs.Cluster.{broker_of}
use Rattle.plan_terms.specs.declared.cluster.Broker.{Broker}
use Rattle.candidate_order.specs.CandidateList.{replicas_of}
use Rattle.candidate_order.specs.Order.{IsOrderOf}
use Rattle.candidate_order.proofs.OrderLemmas.{replicas-are, replicas-only}
use Rattle.candidate_order.proofs.RankLemmas.{SameBut, keeps}
use Rattle.candidate_order.proofs.RowLemmas.{through}

-- who neither leaves nor comes
pub has-other : (a b k : ℕ) (xs : List ℕ) → (k ≡ a → ⊥) → (k ≡ b → ⊥) → has (replace a b xs) k ≡ has xs k
has-other a b k [] n m = refl
has-other a b k (x ∷ xs) n m = elim (cases_eq x a) as (λ _. has (replace a b (x ∷ xs)) k ≡ has (x ∷ xs) k) [
  | inl e ↦ rw (eq-eqb x a e, ne_eqb b k (λ f. m (sym f)), ne_eqb x k (λ f. n (sym f ∙ e))) refl
  | inr d ↦ rw (ne_eqb x a d) (ap (λ t. (x == k) || t) (has-other a b k xs n m))
]

pub leads-other : (a b k : ℕ) (xs : List ℕ) → (k ≡ a → ⊥) → (k ≡ b → ⊥) → leads (replace a b xs) k ≡ leads xs k
leads-other a b k [] n m = refl
leads-other a b k (x ∷ xs) n m = elim (cases_eq x a) as (λ _. leads (replace a b (x ∷ xs)) k ≡ leads (x ∷ xs) k) [
  | inl e ↦ rw (eq-eqb x a e, ne_eqb b k (λ f. m (sym f)), ne_eqb x k (λ f. n (sym f ∙ e))) refl
  | inr d ↦ rw (ne_eqb x a d) refl
]

-- who comes
pub has-new : (a b : ℕ) (xs : List ℕ) → has xs a ≡ true → has (replace a b xs) b ≡ true
has-new a b [] h = absurd (false≢true h)
has-new a b (x ∷ xs) h = elim (cases_eq x a) as (λ _. has (replace a b (x ∷ xs)) b ≡ true) [
  | inl e ↦ rw (eq-eqb x a e, eq-eqb b b refl) refl
  | inr d ↦ rw (ne_eqb x a d) (or-right (x == b) (has (replace a b xs) b) (has-new a b xs (rw (ne_eqb x a d) at h)))
] where
  or-right : (s t : Bool) → t ≡ true → (s || t) ≡ true
  or-right true t e = refl
  or-right false t e = e

pub leads-none : (xs : List ℕ) (b : ℕ) → has xs b ≡ false → leads xs b ≡ false
leads-none [] b h = refl
leads-none (x ∷ xs) b h = (or_parts (x == b) (has xs b) h).0

pub leads-new : (a b : ℕ) (xs : List ℕ) → has xs b ≡ false → leads (replace a b xs) b ≡ leads xs a
leads-new a b [] h = refl
leads-new a b (x ∷ xs) h = elim (cases_eq x a) as (λ _. leads (replace a b (x ∷ xs)) b ≡ leads (x ∷ xs) a) [
  | inl e ↦ rw (eq-eqb x a e, eq-eqb b b refl) refl
  | inr d ↦ rw (ne_eqb x a d) (or_parts (x == b) (has xs b) h).0
]

-- who led, and who leads then
module _ (b : ℕ) where
  pub exchange-old : (xs : List ℕ) → has xs b ≡ true → leads xs b ≡ false
      → (has xs (get_or xs 0 0) ≡ true) × (leads xs (get_or xs 0 0) ≡ true) × (has (exchange_first b xs) (get_or xs 0 0) ≡ true) × (leads (exchange_first b xs) (get_or xs 0 0) ≡ false) × (get_or xs 0 0 ≡ b → ⊥)
  exchange-old [] h n = absurd (false≢true h)
  exchange-old (x ∷ xs) h n =
      let m : b ≡ x → ⊥ = λ e. false≢true (sym n ∙ eq-eqb x b (sym e)) in
      (rw (eq-eqb x x refl) refl, eq-eqb x x refl, rw (ne_eqb b x m) (has-new b x xs (has-later b x xs h n)), ne_eqb b x m, λ e. m (sym e))

  pub exchange-new : (xs : List ℕ) → has xs b ≡ true → (has (exchange_first b xs) b ≡ true) × (leads (exchange_first b xs) b ≡ true)
  exchange-new [] h = absurd (false≢true h)
  exchange-new (x ∷ xs) h = (rw (eq-eqb b b refl) refl, eq-eqb b b refl)

  pub exchange-other : (k : ℕ) (xs : List ℕ) → (k ≡ b → ⊥) → (k ≡ get_or xs 0 0 → ⊥) → (has (exchange_first b xs) k ≡ has xs k) × (leads (exchange_first b xs) k ≡ leads xs k)
  exchange-other k [] n m = (refl, refl)
  exchange-other k (x ∷ xs) n m =
      let one : (x == k) ≡ false = ne_eqb x k (λ e. m (sym e)) in
      let two : (b == k) ≡ false = ne_eqb b k (λ e. n (sym e)) in
      (rw (one, two) (has-other b x k xs n m), rw (one, two) refl)

module _ (lists : Lists) (b p : ℕ) where
  -- one list alone is another
  pub same-set : (list : List ℕ) → SameBut lists (set lists p list) b p
  same-set list = record {
    count = length-set lists p list;
    has_same = λ q n. ap (λ ys. has ys b) (get_or-set_other lists p q list [] n);
    leads_same = λ q n. ap (λ ys. leads ys b) (get_or-set_other lists p q list [] n);
  }

  pub same-sets : (one other : List ℕ) → SameBut (set lists p one) (set lists p other) b p
  same-sets one other = record {
    count = length-set lists p other ∙ sym (length-set lists p one);
    has_same = λ q n. ap (λ ys. has ys b) (get_or-set_other lists p q other [] n ∙ sym (get_or-set_other lists p q one [] n));
    leads_same = λ q n. ap (λ ys. leads ys b) (get_or-set_other lists p q other [] n ∙ sym (get_or-set_other lists p q one [] n));
  }

  -- and the same for the broker
  pub set-keeps : (c : Cluster) (list : List ℕ) → p < length lists → has list b ≡ has (list_of lists p) b → leads list b ≡ leads (list_of lists p) b
      → (xs : List ℕ) → AreReplicasOf c lists b xs → AreReplicasOf c (set lists p list) b xs
  set-keeps c list within h l = keeps c lists (set lists p list) b (length-set lists p list)
      (λ q. elim (cases_eq q p) as (λ _. has (list_of (set lists p list) q) b ≡ has (list_of lists q) b) [
        | inl e ↦ rw (e, get_or-set_same lists p list [] within) h
        | inr n ↦ ap (λ ys. has ys b) (get_or-set_other lists p q list [] n)
      ])
      (λ q. elim (cases_eq q p) as (λ _. leads (list_of (set lists p list) q) b ≡ leads (list_of lists q) b) [
        | inl e ↦ rw (e, get_or-set_same lists p list [] within) l
        | inr n ↦ ap (λ ys. leads ys b) (get_or-set_other lists p q list [] n)
      ])

-- what a lead does to the broker that led
pub record LeadTurns (lists : Lists) (p b from : ℕ) : Type 0 where
  pub had : has (list_of lists p) from ≡ true
  pub has_then : has (exchange_first b (list_of lists p)) from ≡ true
  pub leads_then : leads (exchange_first b (list_of lists p)) from ≡ false
  pub apart : from ≡ b → ⊥

pub lead-turns : (lists : Lists) (p b from : ℕ) → from ≡ get_or (list_of lists p) 0 0 → LeadFits lists p b → LeadTurns lists p b from
lead-turns lists p b from e fit =
    let f = exchange-old b (list_of lists p) fit.member fit.later in
    record { had = rw e f.0; has_then = rw e f.2; leads_then = rw e f.3; apart = rw e f.4 }

-- a member is not one that is none
pub apart-members : (xs : List ℕ) (a b : ℕ) → has xs a ≡ true → has xs b ≡ false → b ≡ a → ⊥
apart-members xs a b h n e = false≢true (sym n ∙ ap (has xs) e ∙ h)

-- a known broker has a place
pub known-place : (xs : List Broker) (b : ℕ) → is_some (broker_of xs b) ≡ true → (k : ℕ) × (k < length xs) × (id_at xs k ≡ b)
known-place [] b h = absurd (false≢true h)
known-place (x ∷ xs) b h = elim (cases_Bool (x.id == b)) as (λ _. (k : ℕ) × (k < length (x ∷ xs)) × (id_at (x ∷ xs) k ≡ b)) [
  | inl same ↦ (0, omega arith, eqb-true x.id b same)
  | inr other ↦
      let deeper : is_some (broker_of xs b) ≡ true = rw other at h in
      let m = known-place xs b deeper in
      (suc m.0, omega (arith, m.1), m.2)
]

-- the rows of an order, by the ids of their brokers
module _ (c : Cluster) (lists : Lists) (order : List (List ℕ)) (o : IsOrderOf c lists order) where
  pub order-count : length order ≡ length c.brokers
  order-count = ap length o ∙ length-map c.brokers (λ (x : Broker). replicas_of c lists x.id)

  row-is : (k : ℕ) → k < length c.brokers → get_or order k [] ≡ replicas_of c lists (id_at c.brokers k)
  row-is k l =
      let e : order ≡ map (replicas_of c lists) (ids_of c.brokers) = o ∙ through (replicas_of c lists) (λ (y : Broker). y.id) c.brokers in
      rw e (get_or-map (replicas_of c lists) (ids_of c.brokers) k 0 [] (omega (arith, l, length-map c.brokers (λ (y : Broker). y.id))))

  pub row-of : (k b : ℕ) → k < length c.brokers → id_at c.brokers k ≡ b → AreReplicasOf c lists b (get_or order k [])
  row-of k b l e = rw (row-is k l, e) (replicas-are c lists b)

  pub row-has : (k b : ℕ) → k < length c.brokers → id_at c.brokers k ≡ b → (p : ℕ) → p < length lists → has (get_or order k []) p ≡ has (list_of lists p) b
  row-has k b l e p within = (row-of k b l e).members p ∙ rw (lt-ltb p (length lists) within) refl

order-by-rows : (c : Cluster) (lists : Lists) (order : List (List ℕ)) → length order ≡ length c.brokers
    → ((k : ℕ) → k < length c.brokers → get_or order k [] ≡ replicas_of c lists (id_at c.brokers k)) → IsOrderOf c lists order
order-by-rows c lists order count rows =
    let sizes : length (ids_of c.brokers) ≡ length c.brokers = length-map c.brokers (λ (y : Broker). y.id) in
    let sizes' : length (map (replicas_of c lists) (ids_of c.brokers)) ≡ length (ids_of c.brokers) = length-map (ids_of c.brokers) (replicas_of c lists) in
    same_lists order (map (replicas_of c lists) (ids_of c.brokers)) (count ∙ sym sizes ∙ sym sizes')
    (λ k d l. get_or_default order k d [] l ∙ rows k (omega (arith, l, count))
    ∙ sym (get_or-map (replicas_of c lists) (ids_of c.brokers) k 0 d (omega (arith, l, count, sizes))))
    ∙ sym (through (replicas_of c lists) (λ (y : Broker). y.id) c.brokers)

-- the order after an action of two brokers, by their two rows
pub order-later : (c : Cluster) (lists later : Lists) (order new : List (List ℕ)) (a b i j : ℕ) (one two : List ℕ) → IsOrderOf c lists order
    → i < length c.brokers → j < length c.brokers
    → ((k : ℕ) → k < length c.brokers → id_at c.brokers k ≡ a → k ≡ i) → ((k : ℕ) → k < length c.brokers → id_at c.brokers k ≡ b → k ≡ j)
    → id_at c.brokers i ≡ a → id_at c.brokers j ≡ b
    → AreReplicasOf c later a one → AreReplicasOf c later b two
    → ((k : ℕ) → (k ≡ a → ⊥) → (k ≡ b → ⊥) → (xs : List ℕ) → AreReplicasOf c lists k xs → AreReplicasOf c later k xs)
    → new ≡ set (set order i one) j two → IsOrderOf c later new
order-later c lists later order new a b i j one two o li lj only_i only_j id_i id_j first second stay is =
    let sizes : length (set order i one) ≡ length c.brokers = length-set order i one ∙ order-count c lists order o in
    let count : length new ≡ length c.brokers = ap length is ∙ length-set (set order i one) j two ∙ sizes in
    order-by-rows c later new count (λ k l. rw is (elim (cases_eq k j) as (λ _. get_or (set (set order i one) j two) k [] ≡ replicas_of c later (id_at c.brokers k)) [
      | inl e ↦ rw (e, get_or-set_same (set order i one) j two [] (omega (arith, sizes, lj)), id_j) (replicas-only c later b two second)
      | inr n ↦ get_or-set_other (set order i one) j k two [] n ∙ elim (cases_eq k i) as (λ _. get_or (set order i one) k [] ≡ replicas_of c later (id_at c.brokers k)) [
        | inl e ↦ rw (e, get_or-set_same order i one [] (omega (arith, order-count c lists order o, li)), id_i) (replicas-only c later a one first)
        | inr m ↦ get_or-set_other order i k one [] m
            ∙ replicas-only c later (id_at c.brokers k) (get_or order k [])
            (stay (id_at c.brokers k) (λ e. m (only_i k l e)) (λ e. n (only_j k l e)) (get_or order k []) (row-of c lists order o k (id_at c.brokers k) l refl))
      ]
    ]))

-- what a swap does to its two brokers, and to no other
pub record SwapTurns (lists : Lists) (p a q b : ℕ) : Type 0 where
  pub later : Lists
  pub later_is : later ≡ set (set lists p (replace a b (list_of lists p))) q (replace b a (list_of lists q))
  pub apart : b ≡ a → ⊥
  pub back_leads : leads (list_of later q) a ≡ leads (list_of lists q) b
  pub out_leads : leads (list_of later p) b ≡ leads (list_of lists p) a
  pub giver_differs : SameBut (set lists p []) later a q
  pub giver_none : has (list_of (set lists p []) q) a ≡ false
  pub giver_comes : has (list_of later q) a ≡ true
  pub taker_differs : SameBut (set lists q []) later b p
  pub taker_none : has (list_of (set lists q []) p) b ≡ false
  pub taker_comes : has (list_of later p) b ≡ true
  pub stay : (k : ℕ) → (k ≡ a → ⊥) → (k ≡ b → ⊥) → (c : Cluster) (xs : List ℕ) → AreReplicasOf c lists k xs → AreReplicasOf c later k xs

pub swap-turns : (lists : Lists) (p a q b : ℕ) → SwapFits lists p a q b → distinct (list_of lists p) ≡ true → distinct (list_of lists q) ≡ true → SwapTurns lists p a q b
swap-turns lists p a q b fit once once' = record {
  later = later;
  later_is = refl;
  apart = n;
  back_leads = ap (λ l. leads l a) at_q ∙ leads-new b a theirs fit.source_comes;
  out_leads = ap (λ l. leads l b) at_p ∙ leads-new a b ours fit.target_comes;
  giver_differs = record {
    count = length-set mid q (replace b a theirs) ∙ length-set lists p (replace a b ours) ∙ sym (length-set lists p []);
    has_same = λ r d. elim (cases_eq r p) as (λ _. has (list_of later r) a ≡ has (list_of (set lists p []) r) a) [
      | inl e ↦ rw (e, at_p, get_or-set_same lists p [] [] fit.first) (has-replaced a b ours once (ne_eqb b a n))
      | inr m ↦ ap (λ l. has l a) (elsewhere r m d ∙ sym (get_or-set_other lists p r [] [] m))
    ];
    leads_same = λ r d. elim (cases_eq r p) as (λ _. leads (list_of later r) a ≡ leads (list_of (set lists p []) r) a) [
      | inl e ↦ rw (e, at_p, get_or-set_same lists p [] [] fit.first) (leads-none (replace a b ours) a (has-replaced a b ours once (ne_eqb b a n)))
      | inr m ↦ ap (λ l. leads l a) (elsewhere r m d ∙ sym (get_or-set_other lists p r [] [] m))
    ];
  };
  giver_none = ap (λ l. has l a) (get_or-set_other lists p q [] [] (λ e. fit.apart (sym e))) ∙ fit.source_comes;
  giver_comes = ap (λ l. has l a) at_q ∙ has-new b a theirs fit.target;
  taker_differs = record {
    count = length-set mid q (replace b a theirs) ∙ length-set lists p (replace a b ours) ∙ sym (length-set lists q []);
    has_same = λ r d. elim (cases_eq r q) as (λ _. has (list_of later r) b ≡ has (list_of (set lists q []) r) b) [
      | inl e ↦ rw (e, at_q, get_or-set_same lists q [] [] fit.second) (has-replaced b a theirs once' (ne_eqb a b (λ f. n (sym f))))
      | inr m ↦ ap (λ l. has l b) (elsewhere r d m ∙ sym (get_or-set_other lists q r [] [] m))
    ];
    leads_same = λ r d. elim (cases_eq r q) as (λ _. leads (list_of later r) b ≡ leads (list_of (set lists q []) r) b) [
      | inl e ↦ rw (e, at_q, get_or-set_same lists q [] [] fit.second) (leads-none (replace b a theirs) b (has-replaced b a theirs once' (ne_eqb a b (λ f. n (sym f)))))
      | inr m ↦ ap (λ l. leads l b) (elsewhere r d m ∙ sym (get_or-set_other lists q r [] [] m))
    ];
  };
  taker_none = ap (λ l. has l b) (get_or-set_other lists q p [] [] fit.apart) ∙ fit.target_comes;
  taker_comes = ap (λ l. has l b) at_p ∙ has-new a b ours fit.source;
  stay = λ k d e c xs h.
      set-keeps mid k q c (replace b a theirs) (rw (length-set lists p (replace a b ours)) fit.second)
      (rw mid_q (has-other b a k theirs e d)) (rw mid_q (leads-other b a k theirs e d)) xs
      (set-keeps lists k p c (replace a b ours) fit.first (has-other a b k ours d e) (leads-other a b k ours d e) xs h);
} where
  ours : List ℕ
  ours = list_of lists p

  theirs : List ℕ
  theirs = list_of lists q

  mid : Lists
  mid = set lists p (replace a b ours)

  later : Lists
  later = set mid q (replace b a theirs)

  n : b ≡ a → ⊥
  n = apart-members ours a b fit.source fit.target_comes

  mid_q : list_of mid q ≡ theirs
  mid_q = get_or-set_other lists p q (replace a b ours) [] (λ e. fit.apart (sym e))

  at_q : list_of later q ≡ replace b a theirs
  at_q = get_or-set_same mid q (replace b a theirs) [] (rw (length-set lists p (replace a b ours)) fit.second)

  at_p : list_of later p ≡ replace a b ours
  at_p = get_or-set_other mid q p (replace b a theirs) [] fit.apart ∙ get_or-set_same lists p (replace a b ours) [] fit.first

  elsewhere : (r : ℕ) → (r ≡ p → ⊥) → (r ≡ q → ⊥) → list_of later r ≡ list_of lists r
  elsewhere r m d = get_or-set_other mid q r (replace b a theirs) [] d ∙ get_or-set_other lists p r (replace a b ours) [] m
