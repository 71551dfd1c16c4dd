-- A goal over brokers accepts an action exactly where its two brokers stay in their rooms.
use Rattle.std.specs.Prelude.{◌==◌, min, Bool, IsTrue}
use Rattle.std.proofs.Common.{◌≡◌, ℕ, ◌+◌, ◌-◌, ◌*◌, ◌/◌, ◌<◌, ◌≤◌, true, false, List, [], ◌∷◌, refl, ap, ◌∙◌, arith, inl, inr, zero, suc, eq-eqb}
use Rattle.std.proofs.Math.Nat.{le-div_iff_mul-le, add-mul}
use Rattle.std.proofs.lemmas.Bool.{cases_Bool, cases_lt, ne_eqb}
use Rattle.std.specs.List.{All}
use Rattle.plan_terms.specs.Cluster.{Cluster, Lists}
use Rattle.plan_terms.specs.Belongs.{Belongs}
use Rattle.plan_terms.specs.Fits.{fits}
use Rattle.goal_terms.specs.Limits.{Limits, SmallWeights}
use Rattle.goal_terms.specs.Rooms.{no_limit, unscaled, room_between, bound_room, room_at_id, broker_room, StaysIn, RoomsDecide}
use Rattle.goal_terms.specs.Quantity.{Weights, quantity, total, trade, part_weight}
use Rattle.goal_terms.specs.PerBroker.{Bounds, outside, bound_excess, per_broker, at_id, unit_brokers}
use Rattle.goal_terms.specs.Sides.{sides}
use Rattle.goal_terms.proofs.BrokerLemmas.{accepts-sides, sides-accepts}
use Rattle.goal_terms.proofs.TradeLemmas.{trades, total-after}
use Rattle.goal_terms.proofs.PairLemmas.{trade-from, trade-to}
use Rattle.goal_terms.specs.Pairs.{giver, taker}
use Rattle.plan_terms.specs.Effect.{after}
use Rattle.plan_terms.specs.declared.cluster.Broker.{Broker}
use Rattle.plan_terms.specs.declared.cluster.Part.{Part}
use Rattle.plan_terms.specs.declared.actions.Action.{Action}
use Rattle.plan_terms.specs.declared.actions.Action.TheVariants.{Move, Lead, Swap}

-- with a scale there is a quotient
pub unscaled-is : (scale n : ℕ) → 0 < scale → unscaled scale n ≡ min (n / scale) no_limit
unscaled-is scale n p = rw (ne_eqb scale 0 (λ e. absurd (omega arith))) refl

-- a flow below the limit, against what the scaled quantity may change by
unscaled-le : (scale n d : ℕ) → 0 < scale → d ≤ unscaled scale n → d * scale ≤ n
unscaled-le scale n d p h = (le-div_iff_mul-le p).0 (omega (arith, unscaled-is scale n p))

le-unscaled : (scale n d : ℕ) → d ≤ no_limit → d * scale ≤ n → d ≤ unscaled scale n
le-unscaled scale n d l h = elim (cases_lt 0 scale) as (λ _. d ≤ unscaled scale n) [
  | inl p ↦ let k : d ≤ n / scale = (le-div_iff_mul-le p).1 h in omega (arith, unscaled-is scale n p)
  | inr z ↦ let e : scale ≡ 0 = omega arith in rw (eq-eqb scale 0 e) l
]

-- a scaled sum
scaled-sum : (scale m n q : ℕ) → q ≡ m + n → q * scale ≡ m * scale + n * scale
scaled-sum scale m n q e = ap (λ k. k * scale) e ∙ add-mul m n scale

-- with no scale nothing changes
no_scale : (scale low high m n : ℕ) → scale ≡ 0 → outside low high (m * scale) ≤ outside low high (n * scale)
no_scale scale low high m n e = rw e (omega arith)

-- a broker that stays in its room lies no farther outside, and one that lies no farther outside stays in it
module _ (scale low high q out back : ℕ) (few : out ≤ no_limit) (few' : back ≤ no_limit) (has : out ≤ q + back) where
  stays-outside : StaysIn (room_between scale low high (q * scale)) out back → outside low high ((q + back - out) * scale) ≤ outside low high (q * scale)
  stays-outside h = elim (cases_lt 0 scale) as (λ _. outside low high ((q + back - out) * scale) ≤ outside low high (q * scale)) [
    | inr z ↦ no_scale scale low high _ _ (omega arith)
    | inl p ↦ elim (cases_lt out back) as (λ _. outside low high ((q + back - out) * scale) ≤ outside low high (q * scale)) [
      | inl l ↦
          let flow = unscaled-le scale ((high - q * scale) + (low - q * scale)) (back - out) p (omega (arith, h.takes)) in
          let later = scaled-sum scale q (back - out) (q + back - out) (omega arith) in
          omega arith
      | inr l ↦
          let flow = unscaled-le scale ((q * scale - low) + (q * scale - high)) (out - back) p (omega (arith, h.gives)) in
          let later = scaled-sum scale (q + back - out) (out - back) q (omega arith) in
          omega arith
    ]
  ]

  outside-stays : outside low high ((q + back - out) * scale) ≤ outside low high (q * scale) → StaysIn (room_between scale low high (q * scale)) out back
  outside-stays h = record {
    gives = elim (cases_lt out back) as (λ _. out ≤ unscaled scale ((q * scale - low) + (q * scale - high)) + back) [
      | inl l ↦ omega arith
      | inr l ↦
          let later = scaled-sum scale (q + back - out) (out - back) q (omega arith) in
          let flow = le-unscaled scale ((q * scale - low) + (q * scale - high)) (out - back) (omega arith) (omega arith) in
          omega arith
    ];
    takes = elim (cases_lt out back) as (λ _. back ≤ unscaled scale ((high - q * scale) + (low - q * scale)) + out) [
      | inl l ↦
          let later = scaled-sum scale q (back - out) (q + back - out) (omega arith) in
          let flow = le-unscaled scale ((high - q * scale) + (low - q * scale)) (back - out) (omega arith) (omega arith) in
          omega arith
      | inr l ↦ omega arith
    ];
  }

-- the same of the broker of an id, if any
module _ (b : Bounds) (w q k out back : ℕ) (few : out ≤ no_limit) (few' : back ≤ no_limit) (has : out ≤ q + back) where
  stays-at : (xs : List Broker) → StaysIn (room_at_id (bound_room b w q) xs k) out back → at_id (bound_excess b w (q + back - out)) xs k ≤ at_id (bound_excess b w q) xs k
  unfolding bound_room bound_excess
  stays-at [] h = omega arith
  stays-at (x ∷ xs) h = elim (cases_Bool (x.id == k)) as (λ _. at_id (bound_excess b w (q + back - out)) (x ∷ xs) k ≤ at_id (bound_excess b w q) (x ∷ xs) k) [
    | inl t ↦ rw t (stays-outside b.scale (b.lower w x) (b.upper w x) q out back few few' has (rw t at h))
    | inr f ↦ rw f (stays-at xs (rw f at h))
  ]

  at-stays : (xs : List Broker) → at_id (bound_excess b w (q + back - out)) xs k ≤ at_id (bound_excess b w q) xs k → StaysIn (room_at_id (bound_room b w q) xs k) out back
  unfolding bound_room bound_excess
  at-stays [] h = record { gives = omega arith; takes = omega arith }
  at-stays (x ∷ xs) h = elim (cases_Bool (x.id == k)) as (λ _. StaysIn (room_at_id (bound_room b w q) (x ∷ xs) k) out back) [
    | inl t ↦ rw t (outside-stays b.scale (b.lower w x) (b.upper w x) q out back few few' has (rw t at h))
    | inr f ↦ rw f (at-stays xs (rw f at h))
  ]

-- a weight by its place is small
weight-small : (w : Weights) (ps : List Part) → All (SmallWeights w) ps → (p : ℕ) (first : Bool) → part_weight w ps p first < 4294967296
weight-small w [] h p true = omega arith
weight-small w [] h p false = omega arith
weight-small w (x ∷ ps) h zero true = (h 0 x (omega arith)).lead
weight-small w (x ∷ ps) h zero false = (h 0 x (omega arith)).follow
weight-small w (x ∷ ps) h (suc p) true = weight-small w ps (λ k d l. h (suc k) d (omega arith)) p true
weight-small w (x ∷ ps) h (suc p) false = weight-small w ps (λ k d l. h (suc k) d (omega arith)) p false

-- what an action gives and gets back is small
pub trade-small : (w : Weights) (ps : List Part) (lists : Lists) (a : Action) → All (SmallWeights w) ps
    → ((trade w ps lists a).out < 4294967296) × ((trade w ps lists a).back < 4294967296)
trade-small w ps lists (Move p a b) h = (weight-small w ps h p _, omega arith)
trade-small w ps lists (Lead p b) h = (weight-small w ps h p true, weight-small w ps h p false)
trade-small w ps lists (Swap p a q b) h = (weight-small w ps h p _, weight-small w ps h q _)

-- what two brokers decide, their rooms do
pub broker-rooms_decide : (hard : Bool) (w : Weights) (b : Bounds) (c : Cluster) (lists : Lists) → Limits c → Belongs c lists → All (SmallWeights w) c.parts
    → RoomsDecide (per_broker hard w b c) (broker_room w b c lists) c.parts lists w
unfolding sides
broker-rooms_decide hard w b c lists limits belongs small = record {
  accepts = λ a fit.
      let t = trade w c.parts lists a in
      let law = trades w c.parts lists belongs.one_each a fit in
      let few = trade-small w c.parts lists a small in
      let all = total w c.parts lists in (
        (λ h. accepts-sides hard w b c lists limits.ids belongs.one_each a fit
            (stays-at b all (quantity w c.parts t.from lists) t.from t.out t.back (omega (arith, few)) (omega (arith, few)) (omega (arith, law.giver)) (unit_brokers c.brokers) h.giver)
            (stays-at b all (quantity w c.parts t.to lists) t.to t.back t.out (omega (arith, few)) (omega (arith, few)) (omega (arith, law.taker)) (unit_brokers c.brokers) h.taker)),
        (λ h.
            let both = sides-accepts hard w b c lists limits.ids belongs.one_each a fit h in
            record {
              giver = at-stays b all (quantity w c.parts t.from lists) t.from t.out t.back (omega (arith, few)) (omega (arith, few)) (omega (arith, law.giver)) (unit_brokers c.brokers) both.0;
              taker = at-stays b all (quantity w c.parts t.to lists) t.to t.back t.out (omega (arith, few)) (omega (arith, few)) (omega (arith, law.taker)) (unit_brokers c.brokers) both.1;
            }),
      );
}

-- an action leaves the rooms of all others
pub broker-rooms_stay : (w : Weights) (b : Bounds) (c : Cluster) (lists : Lists) (a : Action) → Belongs c lists → IsTrue (fits lists a)
    → (k : ℕ) → (k ≡ giver lists a → ⊥) → (k ≡ taker a → ⊥) → broker_room w b c (after a lists) k ≡ broker_room w b c lists k
broker-rooms_stay w b c lists a belongs fit k h i =
    let law = trades w c.parts lists belongs.one_each a fit in
    let q = law.others k (λ e. h (e ∙ trade-from w c.parts lists a)) (λ e. i (e ∙ trade-to w c.parts lists a)) in
    rw (total-after w c.parts lists a fit, q) refl
