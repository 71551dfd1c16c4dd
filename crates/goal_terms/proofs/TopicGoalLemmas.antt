-- What the code of a goal over topics and brokers needs.
use Rattle.std.specs.Prelude.{if◌then◌else◌, map, IsTrue, nat_lt, ◌↔◌}
use Rattle.std.proofs.Common.{◌≡◌, ℕ, ◌+◌, ◌-◌, ◌*◌, ◌^◌, ◌<◌, ◌≤◌, Bool, true, false, List, [], ◌∷◌, ◌++◌, length, get_or, drop, zero, suc, refl, ap, ◌∙◌, sym, arith, inl, inr, add-one, drop-cons, length-drop}
use Rattle.std.proofs.lemmas.Bool.{lt-ltb, ltb-true, ltb-false, false≢true, true≢false, or_parts}
use Rattle.std.proofs.lemmas.List.{length-map}
use Rattle.std.specs.List.{list_any, All}
use Rattle.plan_terms.specs.Cluster.{Cluster, Lists}
use Rattle.plan_terms.specs.Belongs.{Belongs}
use Rattle.plan_terms.specs.Effect.{after}
use Rattle.plan_terms.specs.Fits.{fits}
use Rattle.plan_terms.specs.Goal.{Accepts, Lessens, measure}
use Rattle.goal_terms.specs.Limits.{Limits, SmallWeights}
use Rattle.goal_terms.specs.Quantity.{quantity, total, topic_weights}
use Rattle.goal_terms.specs.PerBroker.{bound_excess, broker_excess, unit_brokers, per_broker}
use Rattle.plan_terms.specs.Faults.{topics}
use Rattle.goal_terms.proofs.TopicList.{among, bytes-other, cases_text}
use Rattle.goal_terms.specs.PerTopic.{TopicRule, rule_weights, replica_rule, topic_heat, topic_excesses, per_topic, first_topic, second_topic}
use Rattle.goal_terms.specs.Sides.{excess_with, sides}
use Rattle.goal_terms.specs.Bands.{even, low_of, units_of}
use Rattle.goal_terms.specs.Pairs.{giver, taker, ColdPairs}
use Rattle.goal_terms.proofs.BrokerLemmas.{measure-sides, sum_below-added}
use Rattle.goal_terms.proofs.BoundLemmas.{product-le, length-units, quantity-small, total-small, topic-small, added-le}
use Rattle.goal_terms.proofs.BandLemmas.{low-le}
use Rattle.goal_terms.proofs.PairLemmas.{trade-from, trade-to}
use Rattle.goal_terms.proofs.TopicLemmas.{topic_measure, one-topic, two-topics, topics-accept, accept-first, accept-second, first-in, second-in, adds, measure-topics}
use Rattle.plan_terms.specs.declared.cluster.Broker.{Broker}
use Rattle.plan_terms.specs.Fraction.{Fraction, IsRatio}
use Rattle.goal_terms.specs.declared.trade.Sides.{Sides}
use Rattle.goal_terms.specs.declared.heat.Heat.TheVariants.{Cold, Other}
use Rattle.plan_terms.specs.declared.actions.Action.{Action}
use native.Mathlib.Nat.{div-le_self}

-- few topics and few brokers make few units
pub few-units : (c : Cluster) → Limits c → length (topics c.parts) * length (unit_brokers c.brokers) ≤ 200000
few-units c limits =
    let some : length (unit_brokers c.brokers) ≤ 200 = omega (arith, length-units c.brokers, limits.few_brokers) in
    omega (arith, product-le (length (topics c.parts)) (length (unit_brokers c.brokers)) 1000 200 limits.few_topics some)

-- a unit of the first of the topics, or of a later one
pub get-left : (xs ys : List ℕ) (u : ℕ) → u < length xs → get_or (xs ++ ys) u 0 ≡ get_or xs u 0
get-left [] ys u l = absurd (omega arith)
get-left (x ∷ xs) ys zero l = refl
get-left (x ∷ xs) ys (suc u) l = get-left xs ys u (omega arith)

-- or of a later one
pub get-right : (xs ys : List ℕ) (u v : ℕ) → u ≡ length xs + v → get_or (xs ++ ys) u 0 ≡ get_or ys v 0
get-right [] ys u v e = let i : u ≡ v = omega arith in ap (λ n. get_or ys n 0) i
get-right (x ∷ xs) ys zero v e = absurd (omega arith)
get-right (x ∷ xs) ys (suc u) v e = get-right xs ys u v (omega arith)

module _ (r : TopicRule) (c : Cluster) (lists : Lists) (ts : List (List ℕ)) (i : ℕ) (d : List ℕ) (l : i < length ts) where
  -- a unit of the i-th topic
  pub unit-here : (u : ℕ) → u < length (unit_brokers c.brokers)
      → get_or (topic_excesses (drop i ts) r c lists) u 0 ≡ get_or (map (broker_excess (rule_weights r (get_or ts i d)) (r.bounds (get_or ts i d)) c lists) (unit_brokers c.brokers)) u 0
  unit-here u m = rw (drop-cons ts i d l) (get-left (map (broker_excess (rule_weights r (get_or ts i d)) (r.bounds (get_or ts i d)) c lists) (unit_brokers c.brokers)) _ u
      (omega (arith, length-map (unit_brokers c.brokers) (broker_excess (rule_weights r (get_or ts i d)) (r.bounds (get_or ts i d)) c lists))))

  -- a unit of a later topic
  pub unit-later : (u : ℕ) → length (unit_brokers c.brokers) ≤ u
      → get_or (topic_excesses (drop i ts) r c lists) u 0 ≡ get_or (topic_excesses (drop (i + 1) ts) r c lists) (u - length (unit_brokers c.brokers)) 0
  unit-later u m = rw (drop-cons ts i d l, add-one) (get-right (map (broker_excess (rule_weights r (get_or ts i d)) (r.bounds (get_or ts i d)) c lists) (unit_brokers c.brokers)) _ u _
      (omega (arith, length-map (unit_brokers c.brokers) (broker_excess (rule_weights r (get_or ts i d)) (r.bounds (get_or ts i d)) c lists))))

-- the i-th topic's unit at the u-th broker that isn't lost
pub excess-at : (r : TopicRule) (c : Cluster) (lists : Lists) (ts : List (List ℕ)) (i u : ℕ) → i < length ts → u < length (unit_brokers c.brokers)
    → get_or (topic_excesses ts r c lists) (i * length (unit_brokers c.brokers) + u) 0 ≡ get_or (map (broker_excess (rule_weights r (get_or ts i [])) (r.bounds (get_or ts i [])) c lists) (unit_brokers c.brokers)) u 0
excess-at r c lists [] i u l m = absurd (omega arith)
excess-at r c lists (t ∷ ts) zero u l m =
    let first = map (broker_excess (rule_weights r t) (r.bounds t) c lists) (unit_brokers c.brokers) in
    ap (λ n. get_or (first ++ topic_excesses ts r c lists) n 0) (at_start (length (unit_brokers c.brokers)) u)
    ∙ get-left first (topic_excesses ts r c lists) u (omega (arith, length-map (unit_brokers c.brokers) (broker_excess (rule_weights r t) (r.bounds t) c lists))) where
      at_start : (n u : ℕ) → 0 * n + u ≡ u
      at_start n u = omega arith
excess-at r c lists (t ∷ ts) (suc i) u l m =
    get-right (map (broker_excess (rule_weights r t) (r.bounds t) c lists) (unit_brokers c.brokers)) (topic_excesses ts r c lists) (suc i * length (unit_brokers c.brokers) + u) (i * length (unit_brokers c.brokers) + u)
    (next (length (unit_brokers c.brokers)) _ (length-map (unit_brokers c.brokers) (broker_excess (rule_weights r t) (r.bounds t) c lists)))
    ∙ excess-at r c lists ts i u (omega arith) m where
      next : (n k : ℕ) → k ≡ n → suc i * n + u ≡ k + (i * n + u)
      next n k e = rw e (omega arith)

module _ (hard : Bool) (r : TopicRule) (c : Cluster) (lists : Lists) (limits : Limits c) (belongs : Belongs c lists) (a : Action) (fit : fits lists a ≡ true) where
  -- the first topic of the action
  abbrev one : List ℕ
  one = first_topic c.parts a

  -- the second
  abbrev two : List ℕ
  two = second_topic c.parts a

  -- a topic's measure changes as its two excesses do
  change : (t : List ℕ) → topic_measure hard r c t (after a lists) + (sides (rule_weights r t) (r.bounds t) c lists a).giver + (sides (rule_weights r t) (r.bounds t) c lists a).taker
      ≡ topic_measure hard r c t lists + (sides (rule_weights r t) (r.bounds t) c lists a).giver_after + (sides (rule_weights r t) (r.bounds t) c lists a).taker_after
  change t = measure-sides hard (rule_weights r t) (r.bounds t) c lists limits.ids belongs.one_each a fit

  -- where the topics are the same, its two excesses decide whether the action lessens the goal
  pub Lessens-one-topic : (s : Sides) → s ≡ sides (rule_weights r one) (r.bounds one) c lists a → one ≡ two
      → IsTrue (nat_lt (s.giver_after + s.taker_after) (s.giver + s.taker)) ↔ Lessens (per_topic hard r c) lists a
  Lessens-one-topic s e same =
      rw e (
        (λ t. omega (arith, change one, one-topic hard r c lists limits.ids belongs.one_each a fit same, ltb-true _ _ t)),
        (λ h. lt-ltb _ _ (omega (arith, change one, one-topic hard r c lists limits.ids belongs.one_each a fit same))),
      )

  -- where they are two, their four excesses do
  pub Lessens-two-topics : (s s' : Sides) → s ≡ sides (rule_weights r one) (r.bounds one) c lists a → s' ≡ sides (rule_weights r two) (r.bounds two) c lists a → (one ≡ two → ⊥)
      → IsTrue (nat_lt (s.giver_after + s.taker_after + s'.giver_after + s'.taker_after) (s.giver + s.taker + s'.giver + s'.taker)) ↔ Lessens (per_topic hard r c) lists a
  Lessens-two-topics s s' e e' apart =
      rw (e, e') (
        (λ t. omega (arith, change one, change two, two-topics hard r c lists limits.ids belongs.one_each a fit apart, ltb-true _ _ t)),
        (λ h. lt-ltb _ _ (omega (arith, change one, change two, two-topics hard r c lists limits.ids belongs.one_each a fit apart))),
      )

-- where a broker is cold, none of its units has an excess
cold-none : (f : List ℕ → ℕ) (ts : List (List ℕ)) (t : List ℕ) → list_any (λ s. nat_lt 0 (f s)) ts ≡ false → among ts t ≡ true → f t ≡ 0
cold-none f [] t h k = absurd (false≢true k)
cold-none f (x ∷ ts) t h k = elim (cases_text x t) as (λ _. f t ≡ 0) [
  | inl e ↦ rw (← e) (let n = ltb-false 0 (f x) (or_parts _ _ h).0 in omega arith)
  | inr ne ↦ cold-none f ts t (or_parts _ _ h).1 (rw (bytes-other t x (λ e. ne (sym e))) at k)
]

-- a cold broker has no bad topic
cold-any : (t : Bool) → (if t then Other else Cold) ≡ Cold → t ≡ false
cold-any true h = absurd (cc)
cold-any false h = refl

-- an action of two cold brokers lessens no goal over topics and brokers
pub topic-cold_pairs : (hard : Bool) (r : TopicRule) (c : Cluster) (lists : Lists) → Limits c → Belongs c lists → ColdPairs (per_topic hard r c) (topic_heat (topics c.parts) r c lists) lists
unfolding sides
topic-cold_pairs hard r c lists limits belongs = record { none = none } where
  quiet : (k : ℕ) (t : List ℕ) → topic_heat (topics c.parts) r c lists k ≡ Cold → among (topics c.parts) t ≡ true → excess_with (rule_weights r t) (r.bounds t) c lists k (quantity (rule_weights r t) c.parts k lists) ≡ 0
  quiet k t h m = cold-none (λ s. excess_with (rule_weights r s) (r.bounds s) c lists k (quantity (rule_weights r s) c.parts k lists)) (topics c.parts) t (cold-any _ h) m

  giver-zero : (a : Action) (t : List ℕ) → topic_heat (topics c.parts) r c lists (giver lists a) ≡ Cold → among (topics c.parts) t ≡ true → (sides (rule_weights r t) (r.bounds t) c lists a).giver ≡ 0
  giver-zero a t h m = rw (trade-from (rule_weights r t) c.parts lists a) (quiet (giver lists a) t h m)

  taker-zero : (a : Action) (t : List ℕ) → topic_heat (topics c.parts) r c lists (taker a) ≡ Cold → among (topics c.parts) t ≡ true → (sides (rule_weights r t) (r.bounds t) c lists a).taker ≡ 0
  taker-zero a t h m = rw (trade-to (rule_weights r t) c.parts lists a) (quiet (taker a) t h m)

  none : (a : Action) → IsTrue (fits lists a) → topic_heat (topics c.parts) r c lists (giver lists a) ≡ Cold → topic_heat (topics c.parts) r c lists (taker a) ≡ Cold → Lessens (per_topic hard r c) lists a → ⊥
  none a fit h i less =
      let first = first-in c lists a belongs.one_each fit in
      let second = second-in c lists a belongs.one_each fit in
      elim (cases_text (first_topic c.parts a) (second_topic c.parts a)) as (λ _. ⊥) [
        | inl same ↦ omega (
          arith,
          change hard r c lists limits belongs a fit (first_topic c.parts a),
          one-topic hard r c lists limits.ids belongs.one_each a fit same,
          giver-zero a (first_topic c.parts a) h first,
          taker-zero a (first_topic c.parts a) i first,
        )
        | inr apart ↦ omega (
          arith,
          change hard r c lists limits belongs a fit (first_topic c.parts a),
          change hard r c lists limits belongs a fit (second_topic c.parts a),
          two-topics hard r c lists limits.ids belongs.one_each a fit apart,
          giver-zero a (first_topic c.parts a) h first,
          taker-zero a (first_topic c.parts a) i first,
          giver-zero a (second_topic c.parts a) h second,
          taker-zero a (second_topic c.parts a) i second,
        )
      ]

-- the measure of a goal over topics and brokers with even shares is small
even_excess-le : (ratio : Fraction) (n w q : ℕ) (x : Broker) → IsRatio ratio.num ratio.den → w < 2 ^ 49 → q < 2 ^ 49 → bound_excess (even ratio n) w q x ≤ 2 ^ 62
unfolding bound_excess
even_excess-le ratio n w q x h l m = omega (arith, div-le_self (w * low_of ratio) (ratio.den * n), product-le w (low_of ratio) (2 ^ 49) 2000 (omega arith) (low-le ratio h))

-- the measure of even topics is below 2^120
pub topic-fits_120_bits : (hard : Bool) (ratio : Fraction) (c : Cluster) (lists : Lists) → IsRatio ratio.num ratio.den → Limits c → Belongs c lists → measure (per_topic hard (replica_rule (even ratio (units_of c))) c) lists < 2 ^ 120
unfolding measure
topic-fits_120_bits hard ratio c lists h limits belongs =
    omega (arith, measure-topics hard (replica_rule (even ratio (units_of c))) c lists, adds-le (topics c.parts), limits.few_topics) where
      one-le : (t : List ℕ) → topic_measure hard (replica_rule (even ratio (units_of c))) c t lists ≤ 2 ^ 62 * 200
      one-le t =
          let small : All (SmallWeights (topic_weights t)) c.parts = λ k d l. topic-small t (get_or c.parts k d) in
          let each = added-le (broker_excess (topic_weights t) (even ratio (units_of c)) c lists) (2 ^ 62) (unit_brokers c.brokers)
          (λ k d l. even_excess-le ratio (units_of c) (total (topic_weights t) c.parts lists) _ _ h
          (total-small (topic_weights t) c lists limits small belongs)
          (quantity-small (topic_weights t) c lists limits small belongs (get_or (unit_brokers c.brokers) k d).id)) in
          omega (arith, each, sum_below-added (broker_excess (topic_weights t) (even ratio (units_of c)) c lists) (unit_brokers c.brokers), length-units c.brokers, limits.few_brokers)

      adds-le : (ts : List (List ℕ)) → adds (λ t. topic_measure hard (replica_rule (even ratio (units_of c))) c t lists) ts ≤ 2 ^ 62 * 200 * length ts
      adds-le [] = omega arith
      adds-le (t ∷ ts) = omega (arith, one-le t, adds-le ts)

-- a unit of a later topic is one of those left
pub unit-within : (ts : List (List ℕ)) (i left n : ℕ) → i < length ts → left < length (drop i ts) * n → n ≤ left → left - n < length (drop (i + 1) ts) * n
unit-within ts i left n l h m =
    let e : length (drop i ts) ≡ length (drop (i + 1) ts) + 1 = omega (arith, length-drop i ts, length-drop (i + 1) ts) in
    let w = rw e at h in
    omega arith

-- where the first topic accepts the action, the second decides; else none does
module _ (hard : Bool) (r : TopicRule) (c : Cluster) (lists : Lists) (limits : Limits c) (belongs : Belongs c lists) (a : Action) (fit : fits lists a ≡ true)
    (i j : List ℕ) (first : i ≡ first_topic c.parts a) (second : j ≡ second_topic c.parts a) where
  -- where the first topic accepts the action, the second decides
  pub accepts-then : (y : Bool) → Accepts (per_broker true (rule_weights r i) (r.bounds i) c) lists a → IsTrue y ↔ Accepts (per_broker true (rule_weights r j) (r.bounds j) c) lists a → IsTrue y ↔ Accepts (per_topic hard r c) lists a
  accepts-then y one both = (
    (λ t. record { no_unit_rises = (topics-accept true r c lists limits.ids belongs.one_each a fit (rw first at one) (rw second at (both.0 t))).no_unit_rises }),
    (λ h. both.1 (rw (second) (accept-second true r c lists limits.ids belongs.one_each a fit (record { no_unit_rises = h.no_unit_rises })))),
  )

  -- where the first doesn't, the goal doesn't
  pub accepts-else : (x : Bool) → x ≡ false → IsTrue x ↔ Accepts (per_broker true (rule_weights r i) (r.bounds i) c) lists a → IsTrue x ↔ Accepts (per_topic hard r c) lists a
  accepts-else x no_first one = (
    (λ t. absurd (true≢false (sym t ∙ no_first))),
    (λ h. one.1 (rw first (accept-first true r c lists limits.ids belongs.one_each a fit (record { no_unit_rises = h.no_unit_rises })))),
  )
