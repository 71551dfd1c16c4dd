-- What all brokers carry together is the sum of what each carries.
use Rattle.std.specs.Prelude.{if◌then◌else◌, ◌==◌, not, cond, find, is_some}
use Rattle.std.proofs.Common.{◌≡◌, ℕ, ◌+◌, ◌*◌, Bool, true, false, List, [], ◌∷◌, length, suc, refl, ap, ◌∙◌, sym, arith, inl, inr, eq-eqb}
use Rattle.std.specs.List.{All, list_all, sum_by, count_by}
use Rattle.std.proofs.lemmas.Bool.{cases_Bool, cases_eq, ne_eqb, and_parts, or_left, or_right, false≢true, not-true, or_parts}
use Rattle.std.proofs.lemmas.List.Sums.{sum_by-cons}
use Rattle.plan_terms.specs.Belongs.{Belongs, distinct}
use Rattle.plan_terms.specs.Cluster.{Cluster, Lists, has, is_known, ids_of}
use Rattle.plan_terms.specs.Faults.{IsCase}
use Rattle.plan_terms.specs.Load.{list_load}
use Rattle.plan_terms.specs.declared.cluster.Broker.{Broker}
use Rattle.plan_terms.specs.declared.cluster.Part.{Part}
use Rattle.goal_terms.specs.PerBroker.{distinct_ids}
use Rattle.goal_terms.specs.Quantity.{Weights, quantity, total, list_whole}
use Rattle.goal_terms.proofs.BrokerLemmas.{added}
use Rattle.goal_terms.proofs.CaseLemmas.{distinct-case}

-- a sum of numbers of brokers
sum_by-added : (f : Broker → ℕ) (xs : List Broker) → sum_by f xs ≡ added f xs
sum_by-added f [] = refl
sum_by-added f (x ∷ xs) = omega (arith, sum_by-cons f x xs, sum_by-added f xs)

-- sums of equal numbers
added-same : (f g : Broker → ℕ) → ((x : Broker) → f x ≡ g x) → (xs : List Broker) → added f xs ≡ added g xs
added-same f g h [] = refl
added-same f g h (x ∷ xs) = omega (arith, h x, added-same f g h xs)

-- two numbers of each broker
added-plus : (f g : Broker → ℕ) (xs : List Broker) → added (λ x. f x + g x) xs ≡ added f xs + added g xs
added-plus f g [] = refl
added-plus f g (x ∷ xs) = omega (arith, added-plus f g xs)

-- nothing of each
added-zero : (xs : List Broker) → added (λ _. 0) xs ≡ 0
added-zero [] = refl
added-zero (x ∷ xs) = omega (arith, added-zero xs)

-- v for the broker of the id
module _ (k v : ℕ) where
  -- v for the one broker, 0 for all others
  abbrev owned : Broker → ℕ
  owned x = if k == x.id then v else 0

  -- another broker has nothing
  owned-miss : (x : Broker) → (k ≡ x.id → ⊥) → owned x ≡ 0
  owned-miss x ne = rw (ne_eqb k x.id ne) refl

  -- the one has v
  owned-hit : (x : Broker) → k ≡ x.id → owned x ≡ v
  owned-hit x e = rw (eq-eqb k x.id e) refl

  -- where no broker has the id, there is nothing in all
  added-none : (xs : List Broker) → has (ids_of xs) k ≡ false → added owned xs ≡ 0
  added-none [] h = refl
  added-none (x ∷ xs) h =
      let none = or_parts (x.id == k) (has (ids_of xs) k) h in
      omega (arith, owned-miss x (λ e. false≢true (sym none.0 ∙ eq-eqb x.id k (sym e))), added-none xs none.1)

  -- where one has it, there is v in all
  added-owner : (xs : List Broker) → distinct_ids xs ≡ true → has (ids_of xs) k ≡ true → added owned xs ≡ v
  added-owner [] d h = absurd (false≢true h)
  added-owner (x ∷ xs) d h =
      let parts = and_parts (not (has (ids_of xs) x.id)) (distinct (ids_of xs)) d in
      elim (cases_eq k x.id) as (λ _. added owned (x ∷ xs) ≡ v) [
        | inl e ↦ omega (arith, owned-hit x e, added-none xs (ap (has (ids_of xs)) e ∙ not-true _ parts.0))
        | inr ne ↦ omega (arith, owned-miss x ne, added-owner xs parts.1 (rw (ne_eqb x.id k (λ e. ne (sym e))) at h))
      ]

-- a broker that is found has one of the ids
has-found : (k : ℕ) (xs : List Broker) → is_some (find (λ x. x.id == k) xs) ≡ true → has (ids_of xs) k ≡ true
has-found k [] h = absurd (false≢true h)
has-found k (x ∷ xs) h = elim (cases_Bool (x.id == k)) as (λ _. has (ids_of (x ∷ xs)) k ≡ true) [
  | inl e ↦ or_left _ _ e
  | inr n ↦ or_right _ _ (has-found k xs (rw n at h))
]

module _ (c : Cluster) (ids : distinct_ids c.brokers ≡ true) where
  -- the places after the first
  rest-whole : (follow : ℕ) (list : List ℕ) → list_all (is_known c) list ≡ true → added (λ x. follow * count_by (λ y. y == x.id) list) c.brokers ≡ follow * length list
  rest-whole follow [] h = omega (arith, added-same (λ x. follow * count_by (λ y. y == x.id) []) (λ _. 0) (λ x. omega arith) c.brokers, added-zero c.brokers)
  rest-whole follow (y ∷ ys) h =
      let known = and_parts (is_known c y) (list_all (is_known c) ys) h in
      omega (
        arith,
        added-same (λ x. follow * count_by (λ z. z == x.id) (y ∷ ys)) (λ x. owned y follow x + follow * count_by (λ z. z == x.id) ys) one c.brokers,
        added-plus (owned y follow) (λ x. follow * count_by (λ z. z == x.id) ys) c.brokers,
        added-owner y follow c.brokers ids (has-found y c.brokers known.0),
        rest-whole follow ys known.1,
      ) where
        split : (t : Bool) (n : ℕ) → follow * (cond t 1 0 + n) ≡ (if t then follow else 0) + follow * n
        split true n = omega arith
        split false n = omega arith

        one : (x : Broker) → follow * count_by (λ z. z == x.id) (y ∷ ys) ≡ owned y follow x + follow * count_by (λ z. z == x.id) ys
        one x = ap (λ n. follow * n) (sum_by-cons (λ z. cond (z == x.id) 1 0) y ys) ∙ split (y == x.id) (count_by (λ z. z == x.id) ys)

  -- one list
  list-whole : (lead follow : ℕ) (list : List ℕ) → list_all (is_known c) list ≡ true → added (λ x. list_load lead follow x.id list) c.brokers ≡ list_whole lead follow (length list)
  list-whole lead follow [] h = added-zero c.brokers
  list-whole lead follow (y ∷ ys) h =
      let known = and_parts (is_known c y) (list_all (is_known c) ys) h in
      omega (
        arith,
        added-plus (owned y lead) (λ x. follow * count_by (λ z. z == x.id) ys) c.brokers,
        added-owner y lead c.brokers ids (has-found y c.brokers known.0),
        rest-whole follow ys known.1,
      )

  -- all lists
  all-whole : (w : Weights) (ps : List Part) (lists : Lists) → All (λ list. list_all (is_known c) list ≡ true) lists → added (λ x. quantity w ps x.id lists) c.brokers ≡ total w ps lists
  unfolding quantity total
  all-whole w [] lists h = added-zero c.brokers
  all-whole w (p ∷ ps) [] h = added-zero c.brokers
  all-whole w (p ∷ ps) (list ∷ lists) h =
      omega (
        arith,
        added-plus (λ x. list_load (w.lead p) (w.follow p) x.id list) (λ x. quantity w ps x.id lists) c.brokers,
        list-whole (w.lead p) (w.follow p) list (h 0 [] (omega arith)),
        all-whole w ps lists (λ k d l. h (suc k) d (omega arith)),
      )

-- the brokers of a case carry together what each carries
pub total-sum : (w : Weights) (c : Cluster) (lists : Lists) → IsCase c → Belongs c lists → sum_by (λ (x : Broker). quantity w c.parts x.id lists) c.brokers ≡ total w c.parts lists
total-sum w c lists h belongs = sum_by-added (λ x. quantity w c.parts x.id lists) c.brokers ∙ all-whole c (distinct-case c h) w c.parts lists belongs.known
