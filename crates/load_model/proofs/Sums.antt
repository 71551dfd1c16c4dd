-- Sums over partitions and their lists, one after another, and how great they can be.
use Rattle.std.proofs.Common.{◌≡◌, ◌∙◌, ℕ, ◌+◌, ◌*◌, ◌<◌, ◌≤◌, ◌^◌, Bool, true, false, cond, eqb, List, [], ◌∷◌, length, get_or, map, drop, zero, suc, refl, sym, ap, arith, add-one, inl, inr}
use Rattle.std.specs.Prelude.{nat_le, bytes_eq}
use Rattle.std.specs.List.{list_any, count_by}
use Rattle.std.proofs.lemmas.Bool.{cases_eq, cases_lt, eq-eqb, false_from_ne_true, false≢true, ne_eqb}
use Rattle.std.proofs.lemmas.Bool.Decides.{nat_tests}
use Rattle.std.proofs.lemmas.List.{get_or_past}
use Rattle.std.proofs.lemmas.List.Sums.{count_by-le-length}
use Rattle.plan_terms.specs.Belongs.{IsAssignment}
use Rattle.plan_terms.specs.Cluster.{Cluster, Lists, list_of}
use Rattle.plan_terms.specs.Faults.{IsCase, is_heavy, topics}
use Rattle.plan_terms.proofs.FaultLemmas.{WithinLimits-faultless}
use Rattle.plan_terms.specs.Load.{list_load, sum_parts}
use Rattle.plan_terms.specs.declared.cluster.Part.{Part}
use Rattle.load_model.specs.declared.amounts.Amount.{Amount}
use Rattle.load_model.specs.declared.amounts.Amount.TheVariants.{Load, Replicas, Leaders, PotentialOut, LeaderIn, OfTopic, LedInTopic}
use Rattle.load_model.specs.Amounts.{amount, counts_places, lead_of, follow_of, lead_at, follow_at, share}
use Rattle.load_model.specs.Places.{topic_at, topic_of}
use Rattle.std.proofs.lemmas.Slice.Eq.{bytes_eq-Decides}
use Rattle.load_model.proofs.Listed.{or_parts}
use native.Mathlib.Nat.{mul-le-mul}

module _ (g h : Part → ℕ) (b : ℕ) where
  -- each list carries at most m
  sum_parts-le : (m : ℕ) (ps : List Part) (lists : Lists) → ((i : ℕ) → i < length ps → list_load (get_or (map g ps) i 0) (get_or (map h ps) i 0) b (list_of lists i) ≤ m)
      → sum_parts (λ p list. list_load (g p) (h p) b list) ps lists ≤ m * length ps
  sum_parts-le m [] lists k = omega arith
  sum_parts-le m (p ∷ ps) [] k = omega arith
  sum_parts-le m (p ∷ ps) (list ∷ lists) k = omega (arith, k 0 (omega arith), sum_parts-le m ps lists (λ i l. k (suc i) (omega arith)))

product-le : (a b m n : ℕ) → a ≤ m → b ≤ n → a * b ≤ m * n
product-le a b m n h i = mul-le-mul h i

first_part : (t : Bool) (lead : ℕ) → cond t lead 0 ≤ lead
first_part true lead = omega arith
first_part false lead = omega arith

-- what one short list puts on a broker
pub list_load-le : (lead follow b top : ℕ) (list : List ℕ) → lead ≤ top → follow ≤ top → length list ≤ 8 → list_load lead follow b list ≤ top * 8
list_load-le lead follow b top [] h i s = omega arith
list_load-le lead follow b top (x ∷ xs) h i s =
    omega (arith, first_part (eqb x b) lead, product-le follow (count_by (λ y. eqb y b) xs) top 7 i (omega (arith, count_by-le-length (λ y. eqb y b) xs)))

-- a value that isn't heavy, or none
light-at : (xs : List ℕ) (r : ℕ) → list_any (λ x. nat_le 4294967296 x) xs ≡ false → get_or xs r 0 < 2 ^ 32
light-at [] r h = omega arith
light-at (x ∷ xs) zero h = let first = (or_parts (nat_le 4294967296 x) _ h).0 in grind (arith, nat_tests)
light-at (x ∷ xs) (suc r) h = light-at xs r (or_parts (nat_le 4294967296 x) _ h).1

pub record LightPart (p : Part) : Type 0 where
  pub lead : (r : ℕ) → get_or p.loads.lead r 0 < 2 ^ 32
  pub follow : (r : ℕ) → get_or p.loads.follow r 0 < 2 ^ 32

pub LightPart-at : (ps : List Part) (i : ℕ) (d : Part) → list_any is_heavy ps ≡ false → i < length ps → LightPart (get_or ps i d)
LightPart-at [] i d h l = absurd (omega arith)
LightPart-at (p ∷ ps) zero d h l =
    let here = or_parts _ _ (or_parts (is_heavy p) (list_any is_heavy ps) h).0 in
    record { lead = λ r. light-at p.loads.lead r here.0; follow = λ r. light-at p.loads.follow r here.1 }
LightPart-at (p ∷ ps) (suc i) d h l = LightPart-at ps i d (or_parts (is_heavy p) (list_any is_heavy ps) h).1 (omega arith)

pub LightPart-case : (c : Cluster) (ps : List Part) (i : ℕ) (d : Part) → IsCase c → ps ≡ c.parts → i < length c.parts → LightPart (get_or ps i d)
LightPart-case c ps i d h e l = rw e (LightPart-at c.parts i d (WithinLimits-faultless c.brokers c.parts h.faultless).light l)

-- every weight is below 2^32
first_weight : (b : Bool) → cond b 1 0 ≤ 4294967295
first_weight true = omega arith
first_weight false = omega arith

lead-small : (kind : Amount) (parts : List Part) (p : Part) → LightPart p → lead_of kind parts p ≤ 4294967295
lead-small (Load r) parts p h = omega (arith, h.lead r)
lead-small Replicas parts p h = omega arith
lead-small Leaders parts p h = omega arith
lead-small PotentialOut parts p h = omega (arith, h.lead 2)
lead-small LeaderIn parts p h = omega (arith, h.lead 1)
lead-small (OfTopic t) parts p h = first_weight (bytes_eq p.topic (topic_at parts t))
lead-small (LedInTopic t) parts p h = first_weight (bytes_eq p.topic (topic_at parts t))

follow-small : (kind : Amount) (parts : List Part) (p : Part) → LightPart p → follow_of kind parts p ≤ 4294967295
follow-small (Load r) parts p h = omega (arith, h.follow r)
follow-small Replicas parts p h = omega arith
follow-small Leaders parts p h = omega arith
follow-small PotentialOut parts p h = omega (arith, h.lead 2)
follow-small LeaderIn parts p h = omega arith
follow-small (OfTopic t) parts p h = first_weight (bytes_eq p.topic (topic_at parts t))
follow-small (LedInTopic t) parts p h = omega arith

-- a number told of each light partition is small at each place
image-small : (f : Part → ℕ) (ps : List Part) (i top : ℕ) → ((p : Part) → LightPart p → f p ≤ top) → list_any is_heavy ps ≡ false → get_or (map f ps) i 0 ≤ top
image-small f [] i top small h = omega arith
image-small f (p ∷ ps) zero top small h = small p (LightPart-at (p ∷ ps) 0 p h (omega arith))
image-small f (p ∷ ps) (suc i) top small h = image-small f ps i top small (or_parts (is_heavy p) (list_any is_heavy ps) h).1

short-at : (lists : Lists) (i : ℕ) → IsAssignment lists → length (list_of lists i) ≤ 8
short-at lists i h = elim (cases_lt i (length lists)) as (λ _. length (list_of lists i) ≤ 8) [ inl l ↦ (h.each i [] l).few | inr g ↦ rw (get_or_past lists i [] g) (omega arith) ]

-- no list has more than 8 members
pub record Short (lists : Lists) : Type 0 where
  pub each : (i : ℕ) → length (list_of lists i) ≤ 8

pub Short-assignment : (lists : Lists) → IsAssignment lists → Short lists
Short-assignment lists h = record { each = λ i. short-at lists i h }

-- what a broker carries in all
sum-below : (kind : Amount) (c : Cluster) (b : ℕ) (lists : Lists) → IsCase c → Short lists → sum_parts (share kind c.parts b) c.parts lists < 2 ^ 49
sum-below kind c b lists h k =
    let limits = WithinLimits-faultless c.brokers c.parts h.faultless in
    let lead : (i : ℕ) → lead_at kind c.parts i ≤ 4294967295 = λ i. image-small (lead_of kind c.parts) c.parts i 4294967295 (lead-small kind c.parts) limits.light in
    let follow : (i : ℕ) → follow_at kind c.parts i ≤ 4294967295 = λ i. image-small (follow_of kind c.parts) c.parts i 4294967295 (follow-small kind c.parts) limits.light in
    omega (
      arith,
      limits.few_parts,
      sum_parts-le (lead_of kind c.parts) (follow_of kind c.parts) b 34359738360 c.parts lists
          (λ i l. list_load-le (lead_at kind c.parts i) (follow_at kind c.parts i) b 4294967295 (list_of lists i) (lead i) (follow i) (k.each i)),
    )

abbrev unit_if : Bool → ℕ
unit_if b = cond b 1 0

-- the place of a partition's topic against a topic
pub topic_test : (ps : List Part) (i n t : ℕ) → i < length ps → t < length (topics ps) → topic_at ps n ≡ topic_of ps i
    → ((s : ℕ) → s < length (topics ps) → topic_at ps s ≡ topic_of ps i → s ≡ n)
    → unit_if (eqb n t) ≡ get_or (map (λ p. unit_if (bytes_eq p.topic (topic_at ps t))) ps) i 0
topic_test ps i n t l m named only = ap unit_if same_test ∙ sym (image ps i l) where
  image : (qs : List Part) (j : ℕ) → j < length qs → get_or (map (λ p. unit_if (bytes_eq p.topic (topic_at ps t))) qs) j 0 ≡ unit_if (bytes_eq (topic_of qs j) (topic_at ps t))
  image [] j k = absurd (omega arith)
  image (q ∷ qs) zero k = refl
  image (q ∷ qs) (suc j) k = image qs j (omega arith)

  same_test : eqb n t ≡ bytes_eq (topic_of ps i) (topic_at ps t)
  same_test = elim (cases_eq n t) as (λ _. eqb n t ≡ bytes_eq (topic_of ps i) (topic_at ps t)) [
    | inl e ↦ eq-eqb n t e ∙ sym ((bytes_eq-Decides (topic_of ps i) (topic_at ps t)).1 (sym named ∙ ap (topic_at ps) e))
    | inr ne ↦ ne_eqb n t ne ∙ sym (false_from_ne_true _ (λ e. ne (sym (only t m (sym ((bytes_eq-Decides (topic_of ps i) (topic_at ps t)).0 e))))))
  ]

-- where each place carries one or nothing
one_weight : (b : Bool) → cond b 1 0 ≤ 1
one_weight true = omega arith
one_weight false = omega arith

lead-one : (kind : Amount) (parts : List Part) (p : Part) → counts_places kind ≡ true → lead_of kind parts p ≤ 1
lead-one (Load r) parts p h = absurd (false≢true h)
lead-one Replicas parts p h = omega arith
lead-one Leaders parts p h = omega arith
lead-one PotentialOut parts p h = absurd (false≢true h)
lead-one LeaderIn parts p h = absurd (false≢true h)
lead-one (OfTopic t) parts p h = one_weight (bytes_eq p.topic (topic_at parts t))
lead-one (LedInTopic t) parts p h = one_weight (bytes_eq p.topic (topic_at parts t))

follow-one : (kind : Amount) (parts : List Part) (p : Part) → counts_places kind ≡ true → follow_of kind parts p ≤ 1
follow-one (Load r) parts p h = absurd (false≢true h)
follow-one Replicas parts p h = omega arith
follow-one Leaders parts p h = omega arith
follow-one PotentialOut parts p h = absurd (false≢true h)
follow-one LeaderIn parts p h = absurd (false≢true h)
follow-one (OfTopic t) parts p h = one_weight (bytes_eq p.topic (topic_at parts t))
follow-one (LedInTopic t) parts p h = omega arith

pub amount-few : (kind : Amount) (c : Cluster) (b : ℕ) (lists : Lists) → IsCase c → Short lists → counts_places kind ≡ true → amount kind c.parts b lists ≤ 80000
unfolding amount
amount-few kind c b lists h k one =
    let limits = WithinLimits-faultless c.brokers c.parts h.faultless in
    let lead : (i : ℕ) → lead_at kind c.parts i ≤ 1 = λ i. image-small (lead_of kind c.parts) c.parts i 1 (λ p _. lead-one kind c.parts p one) limits.light in
    let follow : (i : ℕ) → follow_at kind c.parts i ≤ 1 = λ i. image-small (follow_of kind c.parts) c.parts i 1 (λ p _. follow-one kind c.parts p one) limits.light in
    omega (
      arith,
      limits.few_parts,
      sum_parts-le (lead_of kind c.parts) (follow_of kind c.parts) b 8 c.parts lists
          (λ i l. list_load-le (lead_at kind c.parts i) (follow_at kind c.parts i) b 1 (list_of lists i) (lead i) (follow i) (k.each i)),
    )

-- a broker of short lists carries less than 2^49
pub amount-below : (kind : Amount) (c : Cluster) (b : ℕ) (lists : Lists) → IsCase c → Short lists → amount kind c.parts b lists < 2 ^ 49
unfolding amount
amount-below kind c b lists h k = sum-below kind c b lists h k

-- what one short list puts on a broker
pub list-below : (kind : Amount) (c : Cluster) (i b : ℕ) (list : List ℕ) → IsCase c → length list ≤ 8 → list_load (lead_at kind c.parts i) (follow_at kind c.parts i) b list ≤ 34359738360
list-below kind c i b list h short =
    let limits = WithinLimits-faultless c.brokers c.parts h.faultless in
    list_load-le (lead_at kind c.parts i) (follow_at kind c.parts i) b 4294967295 list
    (image-small (lead_of kind c.parts) c.parts i 4294967295 (lead-small kind c.parts) limits.light)
    (image-small (follow_of kind c.parts) c.parts i 4294967295 (follow-small kind c.parts) limits.light) short

-- what a place carries
pub weight-below : (kind : Amount) (c : Cluster) (i : ℕ) → IsCase c → (lead_at kind c.parts i < 2 ^ 32) × (follow_at kind c.parts i < 2 ^ 32)
weight-below kind c i h =
    let limits = WithinLimits-faultless c.brokers c.parts h.faultless in
    let lead = image-small (lead_of kind c.parts) c.parts i 4294967295 (lead-small kind c.parts) limits.light in
    let follow = image-small (follow_of kind c.parts) c.parts i 4294967295 (follow-small kind c.parts) limits.light in
    (omega (arith, lead), omega (arith, follow))
