-- How great a quantity, an excess and a measure can be.
use Rattle.std.specs.Prelude.{cond, ◌==◌, if◌then◌else◌, Bool, bytes_eq}
use Rattle.std.proofs.Common.{ℕ, ◌*◌, ◌^◌, ◌<◌, ◌≤◌, true, false, List, [], ◌∷◌, length, get_or, zero, suc, arith, inl, inr}
use Rattle.std.specs.List.{count_by, All}
use Rattle.std.proofs.lemmas.Bool.{cases_Bool}
use Rattle.std.proofs.lemmas.List.Sums.{count_by-le-length}
use Rattle.plan_terms.specs.Cluster.{Cluster, Lists}
use Rattle.plan_terms.specs.Goal.{measure}
use Rattle.plan_terms.specs.Belongs.{Belongs}
use Rattle.plan_terms.specs.Load.{list_load}
use Rattle.goal_terms.specs.Limits.{Limits, SmallLoads, SmallWeights, SmallCap, SmallBounds}
use Rattle.goal_terms.specs.Quantity.{Weights, quantity, total, list_whole, replica_weights, leader_weights, load_weights, potential_out_weights, leader_in_weights, topic_weights}
use Rattle.goal_terms.specs.PerBroker.{Bounds, is_unit, unit_brokers, bound_excess, broker_excess, per_broker}
use Rattle.goal_terms.proofs.BrokerLemmas.{added, sum_below-added}
use Rattle.plan_terms.specs.declared.cluster.Broker.{Broker}
use Rattle.plan_terms.specs.declared.cluster.Part.{Part}
use native.Mathlib.Nat.{mul-le-mul}

-- products of lesser numbers are no greater
pub product-le : (a b m n : ℕ) → a ≤ m → b ≤ n → a * b ≤ m * n
product-le a b m n h i = mul-le-mul h i

-- what holds of all members holds of all but the first
tail : {X : Type 0} (P : X → Type 0) (x : X) (xs : List X) → All P (x ∷ xs) → All P xs
tail P x xs h = λ k d l. h (suc k) d (omega arith)

-- the first place carries no more than its weight
first_part : (t : Bool) (lead : ℕ) → (if t then lead else 0) ≤ lead
first_part true lead = omega arith
first_part false lead = omega arith

-- what one short list puts on a broker
list_load-le : (lead follow b : ℕ) (list : List ℕ) → lead < 4294967296 → follow < 4294967296 → length list ≤ 8 → list_load lead follow b list ≤ 34359738368
list_load-le lead follow b [] h i s = omega arith
list_load-le lead follow b (x ∷ xs) h i s =
    omega (arith, first_part (x == b) lead, product-le follow (count_by (λ y. y == b) xs) 4294967295 7 (omega arith) (omega (arith, count_by-le-length (λ y. y == b) xs)))

-- what one short list carries in all
list_whole-le : (lead follow n : ℕ) → lead < 4294967296 → follow < 4294967296 → n ≤ 8 → list_whole lead follow n ≤ 34359738368
list_whole-le lead follow zero h i s = omega arith
list_whole-le lead follow (suc n) h i s = omega (arith, product-le follow n 4294967295 7 (omega arith) (omega arith))

module _ (w : Weights) where
  -- a quantity is at most so much for each partition
  pub quantity-le : (ps : List Part) (b : ℕ) (lists : Lists) → All (SmallWeights w) ps → All (λ list. length list ≤ 8) lists → quantity w ps b lists ≤ 34359738368 * length ps
  unfolding quantity
  quantity-le [] b lists h s = omega arith
  quantity-le (p ∷ ps) b [] h s = omega arith
  quantity-le (p ∷ ps) b (list ∷ lists) h s =
      let small = h 0 p (omega arith) in
      omega (arith, list_load-le (w.lead p) (w.follow p) b list small.lead small.follow (s 0 [] (omega arith)), quantity-le ps b lists (tail (SmallWeights w) p ps h) (tail (λ l. length l ≤ 8) list lists s))

  -- and so is what all brokers carry
  pub total-le : (ps : List Part) (lists : Lists) → All (SmallWeights w) ps → All (λ list. length list ≤ 8) lists → total w ps lists ≤ 34359738368 * length ps
  unfolding total
  total-le [] lists h s = omega arith
  total-le (p ∷ ps) [] h s = omega arith
  total-le (p ∷ ps) (list ∷ lists) h s =
      let small = h 0 p (omega arith) in
      omega (arith, list_whole-le (w.lead p) (w.follow p) (length list) small.lead small.follow (s 0 [] (omega arith)), total-le ps lists (tail (SmallWeights w) p ps h) (tail (λ l. length l ≤ 8) list lists s))

-- the units are some of the brokers
pub All-units : (P : Broker → Type 0) (xs : List Broker) → All P xs → All P (unit_brokers xs)
All-units P [] h = h
All-units P (x ∷ xs) h =
    let rest = All-units P xs (tail P x xs h) in
    elim (cases_Bool (is_unit x)) as (λ _. All P (cond (is_unit x) (x ∷ unit_brokers xs) (unit_brokers xs))) [
      | inl t ↦ rw t (cons rest)
      | inr f ↦ rw f rest
    ] where
      cons : All P (unit_brokers xs) → All P (x ∷ unit_brokers xs)
      cons r zero d l = h 0 d (omega arith)
      cons r (suc k) d l = r k d (omega arith)

-- there are no more units than brokers
pub length-units : (xs : List Broker) → length (unit_brokers xs) ≤ length xs
length-units [] = omega arith
length-units (x ∷ xs) = elim (cases_Bool (is_unit x)) as (λ _. length (cond (is_unit x) (x ∷ unit_brokers xs) (unit_brokers xs)) ≤ suc (length xs)) [
  | inl t ↦ rw t (omega (arith, length-units xs))
  | inr f ↦ rw f (omega (arith, length-units xs))
]

-- a sum of numbers up to a top
pub added-le : (f : Broker → ℕ) (top : ℕ) (xs : List Broker) → All (λ x. f x ≤ top) xs → added f xs ≤ top * length xs
added-le f top [] h = omega arith
added-le f top (x ∷ xs) h = omega (arith, h 0 x (omega arith), added-le f top xs (tail (λ x. f x ≤ top) x xs h))

-- an excess is at most 2^111
pub bound_excess-le : (b : Bounds) (n q : ℕ) (x : Broker) → SmallBounds b → n < 2 ^ 49 → q < 2 ^ 49 → SmallCap x → bound_excess b n q x ≤ 2 ^ 111
unfolding bound_excess
bound_excess-le b n q x s l m cap = omega (arith, product-le q b.scale (2 ^ 49) (2 ^ 58) (omega arith) s.scale, s.lower n x l cap)

-- lists that belong to a cluster are short
pub lists-short : (c : Cluster) (lists : Lists) → Belongs c lists → All (λ list. length list ≤ 8) lists
lists-short c lists h = λ k d l. (h.lists_are k d l).few

-- quantities and totals of short lists are small
module _ (w : Weights) (c : Cluster) (lists : Lists) (limits : Limits c) (small : All (SmallWeights w) c.parts) (short : All (λ list. length list ≤ 8) lists) where
  -- a quantity is below 2^49
  pub quantity-short : (k : ℕ) → quantity w c.parts k lists < 2 ^ 49
  quantity-short k = omega (arith, quantity-le w c.parts k lists small short, limits.few_parts)

  -- what all carry is below 2^49
  pub total-short : total w c.parts lists < 2 ^ 49
  total-short = omega (arith, total-le w c.parts lists small short, limits.few_parts)

module _ (w : Weights) (c : Cluster) (lists : Lists) (limits : Limits c) (small : All (SmallWeights w) c.parts) (fits : Belongs c lists) where
  -- a quantity of lists that belong to the cluster is small
  pub quantity-small : (k : ℕ) → quantity w c.parts k lists < 2 ^ 49
  quantity-small k = quantity-short w c lists limits small (lists-short c lists fits) k

  -- and so is what all brokers carry
  pub total-small : total w c.parts lists < 2 ^ 49
  total-small = total-short w c lists limits small (lists-short c lists fits)

  -- the measure of a goal over brokers is below 2^120
  pub per_broker-fits_120_bits : (hard : Bool) (b : Bounds) → SmallBounds b → measure (per_broker hard w b c) lists < 2 ^ 120
  unfolding measure
  per_broker-fits_120_bits hard b s =
      let each = added-le (broker_excess w b c lists) (2 ^ 111) (unit_brokers c.brokers)
      (All-units (λ x. broker_excess w b c lists x ≤ 2 ^ 111) c.brokers
      (λ k d l. bound_excess-le b (total w c.parts lists) (quantity w c.parts (get_or c.brokers k d).id lists) (get_or c.brokers k d) s total-small (quantity-small (get_or c.brokers k d).id) (limits.caps k d l))) in
      omega (arith, each, sum_below-added (broker_excess w b c lists) (unit_brokers c.brokers), length-units c.brokers, limits.few_brokers)

-- a replica, and a leader, counts as 1
pub replica-small : (p : Part) → SmallWeights replica_weights p
replica-small p = record { lead = omega arith; follow = omega arith }

-- a leader counts as 1
pub leader-small : (p : Part) → SmallWeights leader_weights p
leader-small p = record { lead = omega arith; follow = omega arith }

-- loads of a small partition are small weights
pub load-small : (r : ℕ) (p : Part) → SmallLoads p → SmallWeights (load_weights r) p
load-small r p h = record { lead = h.lead r; follow = h.follow r }

-- the leader's NW_OUT is a small weight
pub potential_out-small : (p : Part) → SmallLoads p → SmallWeights potential_out_weights p
potential_out-small p h = record { lead = h.lead 2; follow = h.lead 2 }

-- the leader's NW_IN is a small weight
pub leader_in-small : (p : Part) → SmallLoads p → SmallWeights leader_in_weights p
leader_in-small p h = record { lead = h.lead 1; follow = omega arith }

-- a replica of a topic counts as 1, and another as 0
pub topic-small : (t : List ℕ) (p : Part) → SmallWeights (topic_weights t) p
topic-small t p = record { lead = one_or_none (bytes_eq p.topic t); follow = one_or_none (bytes_eq p.topic t) } where
  one_or_none : (b : Bool) → (if b then 1 else 0) < 4294967296
  one_or_none true = omega arith
  one_or_none false = omega arith
