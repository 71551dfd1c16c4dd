-- What the heat of a broker says, and which actions cannot lessen a goal over brokers.
use Rattle.std.specs.Prelude.{if◌then◌else◌, ◌==◌, nat_lt}
use Rattle.std.proofs.Common.{◌≡◌, ℕ, ◌+◌, ◌-◌, ◌*◌, ◌<◌, ◌≤◌, true, false, Bool, List, [], ◌∷◌, length, refl, ap, ◌∙◌, sym, arith, inl, inr}
use Rattle.std.proofs.lemmas.Bool.{cases_Bool, ltb-true, ltb-false, lt-ltb, le-ltb, or_parts}
use Rattle.plan_terms.specs.Cluster.{Cluster, Lists, has, ids_of}
use Rattle.plan_terms.specs.Goal.{Lessens}
use Rattle.plan_terms.specs.Fits.{fits}
use Rattle.goal_terms.specs.Quantity.{Weights, quantity, total, trade}
use Rattle.goal_terms.specs.PerBroker.{Bounds, bound_excess, unit_brokers, per_broker, at_id, distinct_ids}
use Rattle.goal_terms.specs.Sides.{excess_with, sides}
use Rattle.goal_terms.specs.Heats.{bound_heat, heat_at_id, broker_heat}
use Rattle.goal_terms.proofs.BrokerLemmas.{measure-sides}
use Rattle.goal_terms.proofs.BoundLemmas.{product-le}
use Rattle.plan_terms.specs.declared.cluster.Broker.{Broker}
use Rattle.goal_terms.specs.declared.heat.Heat.{Heat}
use Rattle.goal_terms.specs.declared.heat.Heat.TheVariants.{Cold, Above, Below}
use Rattle.plan_terms.specs.declared.actions.Action.{Action}

-- what a heat says of one broker
module _ (b : Bounds) (w q : ℕ) (x : Broker) where
  -- a cold broker lies within its bounds
  cold-within : bound_heat b w q x ≡ Cold → (q * b.scale ≤ b.upper w x) × (b.lower w x ≤ q * b.scale)
  unfolding bound_heat
  cold-within h = elim (cases_Bool (nat_lt (b.upper w x) (q * b.scale))) as (λ _. (q * b.scale ≤ b.upper w x) × (b.lower w x ≤ q * b.scale)) [
    | inl t ↦ let e = rw t at h in absurd (cc)
    | inr f ↦ elim (cases_Bool (nat_lt (q * b.scale) (b.lower w x))) as (λ _. (q * b.scale ≤ b.upper w x) × (b.lower w x ≤ q * b.scale)) [
      | inl t' ↦ let e = rw (f, t') at h in absurd (cc)
      | inr f' ↦ (ltb-false _ _ f, ltb-false _ _ f')
    ]
  ]

  -- a broker that isn't below its bound gains nothing by more
  pub more-excess : (q' : ℕ) → (bound_heat b w q x ≡ Below → ⊥) → q ≤ q' → bound_excess b w q x ≤ bound_excess b w q' x
  unfolding bound_heat bound_excess
  more-excess q' h l =
      let scaled : q * b.scale ≤ q' * b.scale = product-le q b.scale q' b.scale l (omega arith) in
      elim (cases_Bool (nat_lt (b.upper w x) (q * b.scale))) as (λ _. bound_excess b w q x ≤ bound_excess b w q' x) [
        | inl t ↦ let above = ltb-true _ _ t in omega arith
        | inr f ↦ elim (cases_Bool (nat_lt (q * b.scale) (b.lower w x))) as (λ _. bound_excess b w q x ≤ bound_excess b w q' x) [
          | inl t' ↦ absurd (h (rw (f, t') refl))
          | inr f' ↦ let below = ltb-false _ _ f' in omega arith
        ]
      ]

  -- and one that isn't above it gains nothing by less
  pub less-excess : (q' : ℕ) → (bound_heat b w q x ≡ Above → ⊥) → q' ≤ q → bound_excess b w q x ≤ bound_excess b w q' x
  unfolding bound_heat bound_excess
  less-excess q' h l =
      let scaled : q' * b.scale ≤ q * b.scale = product-le q' b.scale q b.scale l (omega arith) in
      elim (cases_Bool (nat_lt (b.upper w x) (q * b.scale))) as (λ _. bound_excess b w q x ≤ bound_excess b w q' x) [
        | inl t ↦ absurd (h (rw t refl))
        | inr f ↦ let within = ltb-false _ _ f in omega arith
      ]

  -- and has no excess
  pub cold-excess : bound_heat b w q x ≡ Cold → bound_excess b w q x ≡ 0
  unfolding bound_excess
  cold-excess h = omega (arith, cold-within h)

-- what the two tests say of one broker, and back
module _ (b : Bounds) (w q : ℕ) (x : Broker) where
  -- the heat by the two tests
  abbrev by_tests : Bool → Bool → Heat
  by_tests more less = if more then Above else (if less then Below else Cold)

  is_heat : (more less : Bool) → nat_lt (b.upper w x) (q * b.scale) ≡ more → nat_lt (q * b.scale) (b.lower w x) ≡ less → bound_heat b w q x ≡ by_tests more less
  unfolding bound_heat
  is_heat more less h i = rw (h, i) refl

  -- without an excess a broker is cold
  pub excess-cold : bound_excess b w q x ≡ 0 → bound_heat b w q x ≡ Cold
  unfolding bound_excess
  excess-cold e = is_heat false false (le-ltb (b.upper w x) (q * b.scale) (omega arith)) (le-ltb (q * b.scale) (b.lower w x) (omega arith))

  -- more than the upper bound is above
  pub more-above : b.upper w x < q * b.scale → bound_heat b w q x ≡ Above
  unfolding bound_heat
  more-above l = rw (lt-ltb _ _ l) refl

  -- no more than that and less than the lower bound is below
  pub less-below : q * b.scale ≤ b.upper w x → q * b.scale < b.lower w x → bound_heat b w q x ≡ Below
  less-below h l = is_heat false true (le-ltb (b.upper w x) (q * b.scale) h) (lt-ltb _ _ l)

  -- a broker that is above carries more
  pub above-more : bound_heat b w q x ≡ Above → b.upper w x < q * b.scale
  above-more h = elim (cases_Bool (nat_lt (b.upper w x) (q * b.scale))) as (λ _. b.upper w x < q * b.scale) [
    | inl t ↦ ltb-true _ _ t
    | inr f ↦ elim (cases_Bool (nat_lt (q * b.scale) (b.lower w x))) as (λ _. b.upper w x < q * b.scale) [
      | inl t' ↦ let e = sym (is_heat false true f t') ∙ h in absurd cc
      | inr f' ↦ let e = sym (is_heat false false f f') ∙ h in absurd cc
    ]
  ]

  -- and one that is below carries no more and less
  pub below-less : bound_heat b w q x ≡ Below → (q * b.scale ≤ b.upper w x) × (q * b.scale < b.lower w x)
  below-less h = elim (cases_Bool (nat_lt (b.upper w x) (q * b.scale))) as (λ _. (q * b.scale ≤ b.upper w x) × (q * b.scale < b.lower w x)) [
    | inl t ↦ let e = sym (more-above (ltb-true _ _ t)) ∙ h in absurd cc
    | inr f ↦ elim (cases_Bool (nat_lt (q * b.scale) (b.lower w x))) as (λ _. (q * b.scale ≤ b.upper w x) × (q * b.scale < b.lower w x)) [
      | inl t' ↦ (ltb-false _ _ f, ltb-true _ _ t')
      | inr f' ↦ let e = sym (is_heat false false f f') ∙ h in absurd cc
    ]
  ]

-- a broker that is none of them is cold
pub absent-cold : (f : Broker → Heat) (xs : List Broker) (k : ℕ) → has (ids_of xs) k ≡ false → heat_at_id f xs k ≡ Cold
absent-cold f [] k h = refl
absent-cold f (x ∷ xs) k h = let none = or_parts (x.id == k) (has (ids_of xs) k) h in rw none.0 (absent-cold f xs k none.1)

-- the same of the broker of an id
module _ (b : Bounds) (w q k : ℕ) where
  -- a first broker of the id is the one
  heat-hit : (x : Broker) (xs : List Broker) → (x.id == k) ≡ true → heat_at_id (bound_heat b w q) (x ∷ xs) k ≡ bound_heat b w q x
  heat-hit x xs h = rw h refl

  -- a first broker of another id is passed over
  heat-miss : (x : Broker) (xs : List Broker) → (x.id == k) ≡ false → heat_at_id (bound_heat b w q) (x ∷ xs) k ≡ heat_at_id (bound_heat b w q) xs k
  heat-miss x xs h = rw h refl

  -- a cold broker has no excess
  pub cold-at : (xs : List Broker) → heat_at_id (bound_heat b w q) xs k ≡ Cold → at_id (bound_excess b w q) xs k ≡ 0
  cold-at [] h = refl
  cold-at (x ∷ xs) h = elim (cases_Bool (x.id == k)) as (λ _. at_id (bound_excess b w q) (x ∷ xs) k ≡ 0) [
    | inl t ↦ rw t (cold-excess b w q x (sym (heat-hit x xs t) ∙ h))
    | inr f ↦ rw f (cold-at xs (sym (heat-miss x xs f) ∙ h))
  ]

  -- a broker that isn't below its bound gains nothing by more
  pub more-at : (q' : ℕ) (xs : List Broker) → (heat_at_id (bound_heat b w q) xs k ≡ Below → ⊥) → q ≤ q' → at_id (bound_excess b w q) xs k ≤ at_id (bound_excess b w q') xs k
  more-at q' [] h l = omega arith
  more-at q' (x ∷ xs) h l = elim (cases_Bool (x.id == k)) as (λ _. at_id (bound_excess b w q) (x ∷ xs) k ≤ at_id (bound_excess b w q') (x ∷ xs) k) [
    | inl t ↦ rw t (more-excess b w q x q' (λ e. h (heat-hit x xs t ∙ e)) l)
    | inr f ↦ rw f (more-at q' xs (λ e. h (heat-miss x xs f ∙ e)) l)
  ]

  -- and one that isn't above it nothing by less
  pub less-at : (q' : ℕ) (xs : List Broker) → (heat_at_id (bound_heat b w q) xs k ≡ Above → ⊥) → q' ≤ q → at_id (bound_excess b w q) xs k ≤ at_id (bound_excess b w q') xs k
  less-at q' [] h l = omega arith
  less-at q' (x ∷ xs) h l = elim (cases_Bool (x.id == k)) as (λ _. at_id (bound_excess b w q) (x ∷ xs) k ≤ at_id (bound_excess b w q') (x ∷ xs) k) [
    | inl t ↦ rw t (less-excess b w q x q' (λ e. h (heat-hit x xs t ∙ e)) l)
    | inr f ↦ rw f (less-at q' xs (λ e. h (heat-miss x xs f ∙ e)) l)
  ]

-- the laws of a goal over brokers
module _ (hard : Bool) (w : Weights) (b : Bounds) (c : Cluster) (lists : Lists) (ids : distinct_ids c.brokers ≡ true) (one_each : length lists ≡ length c.parts) where
  -- an action lessens the goal only where one of its two brokers isn't cold
  pub cold-pair : (a : Action) → fits lists a ≡ true → broker_heat w b c lists (trade w c.parts lists a).from ≡ Cold → broker_heat w b c lists (trade w c.parts lists a).to ≡ Cold
      → Lessens (per_broker hard w b c) lists a → ⊥
  unfolding sides
  cold-pair a fit h i less =
      let t = trade w c.parts lists a in
      let from = cold-at b (total w c.parts lists) (quantity w c.parts t.from lists) t.from (unit_brokers c.brokers) h in
      let to = cold-at b (total w c.parts lists) (quantity w c.parts t.to lists) t.to (unit_brokers c.brokers) i in
      omega (arith, measure-sides hard w b c lists ids one_each a fit)

  -- a trade of equal weights changes nothing
  pub equal-trade : (a : Action) → fits lists a ≡ true → (trade w c.parts lists a).out ≡ (trade w c.parts lists a).back → Lessens (per_broker hard w b c) lists a → ⊥
  unfolding sides
  equal-trade a fit e less =
      let t = trade w c.parts lists a in
      let from = ap (λ n. excess_with w b c lists t.from n) (same_amount (quantity w c.parts t.from lists) t.back t.out (sym e)) in
      let to = ap (λ n. excess_with w b c lists t.to n) (same_amount (quantity w c.parts t.to lists) t.out t.back e) in
      omega (arith, measure-sides hard w b c lists ids one_each a fit) where
        same_amount : (q m n : ℕ) → m ≡ n → q + m - n ≡ q
        same_amount q m n i = omega arith

  -- more for a broker that isn't below, less for one that isn't above
  pub rising-trade : (a : Action) → fits lists a ≡ true → (broker_heat w b c lists (trade w c.parts lists a).from ≡ Below → ⊥) → (broker_heat w b c lists (trade w c.parts lists a).to ≡ Above → ⊥)
      → (trade w c.parts lists a).out ≤ (trade w c.parts lists a).back → Lessens (per_broker hard w b c) lists a → ⊥
  unfolding sides
  rising-trade a fit h i l less =
      let t = trade w c.parts lists a in
      let from = more-at b (total w c.parts lists) (quantity w c.parts t.from lists) t.from (quantity w c.parts t.from lists + t.back - t.out) (unit_brokers c.brokers) h (omega arith) in
      let to = less-at b (total w c.parts lists) (quantity w c.parts t.to lists) t.to (quantity w c.parts t.to lists + t.out - t.back) (unit_brokers c.brokers) i (omega arith) in
      omega (arith, measure-sides hard w b c lists ids one_each a fit)

  -- and the two sides exchanged
  pub falling-trade : (a : Action) → fits lists a ≡ true → (broker_heat w b c lists (trade w c.parts lists a).from ≡ Above → ⊥) → (broker_heat w b c lists (trade w c.parts lists a).to ≡ Below → ⊥)
      → (trade w c.parts lists a).back ≤ (trade w c.parts lists a).out → Lessens (per_broker hard w b c) lists a → ⊥
  unfolding sides
  falling-trade a fit h i l less =
      let t = trade w c.parts lists a in
      let from = less-at b (total w c.parts lists) (quantity w c.parts t.from lists) t.from (quantity w c.parts t.from lists + t.back - t.out) (unit_brokers c.brokers) h (omega arith) in
      let to = more-at b (total w c.parts lists) (quantity w c.parts t.to lists) t.to (quantity w c.parts t.to lists + t.out - t.back) (unit_brokers c.brokers) i (omega arith) in
      omega (arith, measure-sides hard w b c lists ids one_each a fit)
