-- Laws of goals over brokers: the two brokers of an action decide what it does to all units.
use Rattle.std.specs.Prelude.{map, ◌==◌, IsTrue, ◌↔◌, Bool, cond, nat_lt, nat_le}
use Rattle.std.proofs.Common.{◌≡◌, ℕ, ◌+◌, ◌<◌, ◌≤◌, true, false, List, [], ◌∷◌, length, get_or, zero, suc, refl, ap, ◌∙◌, sym, arith, inl, inr, eq-eqb}
use Rattle.std.proofs.lemmas.Bool.{ne_eqb, eqb-true, and_parts, true≢false, not-true, cases_eq, cases_Bool, ltb-true, lt-ltb, leb-true, le-leb}
use Rattle.plan_terms.specs.Cluster.{Cluster, Lists, has, ids_of}
use Rattle.plan_terms.specs.Goal.{Accepts, Lessens, measure, sum_below}
use Rattle.plan_terms.specs.Effect.{after}
use Rattle.plan_terms.specs.Fits.{fits}
use Rattle.goal_terms.specs.Quantity.{Weights, quantity, total, trade, Trades}
use Rattle.goal_terms.specs.PerBroker.{Bounds, is_unit, unit_brokers, bound_excess, broker_excess, per_broker, at_id, distinct_ids}
use Rattle.goal_terms.specs.Sides.{excess_with, sides}
use Rattle.goal_terms.proofs.TradeLemmas.{trades, total-after}
use Rattle.plan_terms.specs.declared.cluster.Broker.{Broker}
use Rattle.goal_terms.specs.declared.trade.Sides.{Sides}
use Rattle.goal_terms.specs.declared.trade.Trade.{Trade}
use Rattle.plan_terms.specs.declared.actions.Action.{Action}

-- the first broker of an id
module _ (f : Broker → ℕ) (k : ℕ) where
  -- a first broker of the id is the one
  at_id-hit : (x : Broker) (xs : List Broker) → (x.id == k) ≡ true → at_id f (x ∷ xs) k ≡ f x
  at_id-hit x xs h = rw h refl

  -- a first broker of another id is passed over
  at_id-miss : (x : Broker) (xs : List Broker) → (x.id == k) ≡ false → at_id f (x ∷ xs) k ≡ at_id f xs k
  at_id-miss x xs h = rw h refl

  -- where none has the id, there is 0
  at_id-absent : (xs : List Broker) → has (ids_of xs) k ≡ false → at_id f xs k ≡ 0
  at_id-absent [] h = refl
  at_id-absent (x ∷ xs) h = elim (cases_Bool (x.id == k)) as (λ _. at_id f (x ∷ xs) k ≡ 0) [
    | inl t ↦ absurd (true≢false (rw t at h))
    | inr e ↦ at_id-miss x xs e ∙ at_id-absent xs (rw e at h)
  ]

-- the head of brokers with distinct ids
head-absent : (x : Broker) (xs : List Broker) → distinct_ids (x ∷ xs) ≡ true → has (ids_of xs) x.id ≡ false
head-absent x xs h = not-true _ (and_parts _ _ h).0

-- the others have distinct ids too
tail-distinct : (x : Broker) (xs : List Broker) → distinct_ids (x ∷ xs) ≡ true → distinct_ids xs ≡ true
tail-distinct x xs h = (and_parts _ _ h).1

-- behind the broker of an id, none has it
at_id-after : (f : Broker → ℕ) (k : ℕ) (x : Broker) (xs : List Broker) → distinct_ids (x ∷ xs) ≡ true → x.id ≡ k → at_id f xs k ≡ 0
at_id-after f k x xs h e = at_id-absent f k xs (rw e at (head-absent x xs h))

-- f of each, added up
abbrev pub added : (Broker → ℕ) → List Broker → ℕ
added f [] = 0
added f (x ∷ xs) = f x + added f xs

-- a sum without its first term
sum_below-shift : (f : ℕ → ℕ) (n : ℕ) → sum_below f (suc n) ≡ f 0 + sum_below (λ k. f (suc k)) n
sum_below-shift f zero = omega arith
sum_below-shift f (suc n) = omega (arith, sum_below-shift f n)

-- the sum over units is the sum over their brokers
pub sum_below-added : (f : Broker → ℕ) (xs : List Broker) → sum_below (λ u. get_or (map f xs) u 0) (length xs) ≡ added f xs
sum_below-added f [] = refl
sum_below-added f (x ∷ xs) = sum_below-shift (λ u. get_or (map f (x ∷ xs)) u 0) (length xs) ∙ ap (λ n. f x + n) (sum_below-added f xs)

-- two quantities of brokers that differ at two ids at most
module _ (F G : Broker → ℕ) where
  -- what is no greater at an id stays so without the first broker
  le-tail : (k : ℕ) (x : Broker) (xs : List Broker) → distinct_ids (x ∷ xs) ≡ true → at_id G (x ∷ xs) k ≤ at_id F (x ∷ xs) k → at_id G xs k ≤ at_id F xs k
  le-tail k x xs d h = elim (cases_Bool (x.id == k)) as (λ _. at_id G xs k ≤ at_id F xs k) [
    | inl t ↦ omega (arith, at_id-after G k x xs d (eqb-true _ _ t))
    | inr e ↦ omega (arith, at_id-miss G k x xs e, at_id-miss F k x xs e)
  ]

  -- what is no greater at the first broker's id is so of the first broker
  le-head : (k : ℕ) (x : Broker) (xs : List Broker) → x.id ≡ k → at_id G (x ∷ xs) k ≤ at_id F (x ∷ xs) k → G x ≤ F x
  le-head k x xs e h = omega (arith, at_id-hit G k x xs (eq-eqb _ _ e), at_id-hit F k x xs (eq-eqb _ _ e))

  -- where no unit rises, none of an id does
  pub le-at : (k : ℕ) (xs : List Broker) → ((u : ℕ) → u < length xs → get_or (map G xs) u 0 ≤ get_or (map F xs) u 0) → at_id G xs k ≤ at_id F xs k
  le-at k [] h = omega arith
  le-at k (x ∷ xs) h = elim (cases_Bool (x.id == k)) as (λ _. at_id G (x ∷ xs) k ≤ at_id F (x ∷ xs) k) [
    | inl t ↦ omega (arith, at_id-hit G k x xs t, at_id-hit F k x xs t, h 0 (omega arith))
    | inr e ↦ omega (arith, at_id-miss G k x xs e, at_id-miss F k x xs e, le-at k xs (λ u l. h (suc u) (omega arith)))
  ]

  module _ (one two : ℕ) (same : (x : Broker) → (x.id ≡ one → ⊥) → (x.id ≡ two → ⊥) → G x ≡ F x) where
    -- where neither of the two rises, no unit does
    pub le-all : (xs : List Broker) → distinct_ids xs ≡ true → at_id G xs one ≤ at_id F xs one → at_id G xs two ≤ at_id F xs two
        → (u : ℕ) → u < length xs → get_or (map G xs) u 0 ≤ get_or (map F xs) u 0
    le-all [] d h i u l = absurd (omega arith)
    le-all (x ∷ xs) d h i zero l = elim (cases_eq x.id one) as (λ _. G x ≤ F x) [
      | inl e ↦ le-head one x xs e h
      | inr ne ↦ elim (cases_eq x.id two) as (λ _. G x ≤ F x) [
        | inl e ↦ le-head two x xs e i
        | inr ne' ↦ omega (arith, same x ne ne')
      ]
    ]
    le-all (x ∷ xs) d h i (suc u) l = le-all xs (tail-distinct x xs d) (le-tail one x xs d h) (le-tail two x xs d i) u (omega arith)

    -- the sum changes as the two do
    pub added-two : (xs : List Broker) → (one ≡ two → ⊥) → distinct_ids xs ≡ true
        → added G xs + at_id F xs one + at_id F xs two ≡ added F xs + at_id G xs one + at_id G xs two
    added-two [] ne d = refl
    added-two (x ∷ xs) ne d =
        let rest = added-two xs ne (tail-distinct x xs d) in
        elim (cases_eq x.id one) as (λ _. added G (x ∷ xs) + at_id F (x ∷ xs) one + at_id F (x ∷ xs) two ≡ added F (x ∷ xs) + at_id G (x ∷ xs) one + at_id G (x ∷ xs) two) [
          | inl e ↦
              let other : (x.id == two) ≡ false = ne_eqb x.id two (λ i. ne (sym e ∙ i)) in
              omega (arith, rest, at_id-after F one x xs d e, at_id-after G one x xs d e, at_id-hit F one x xs (eq-eqb _ _ e), at_id-hit G one x xs (eq-eqb _ _ e), at_id-miss F two x xs other, at_id-miss G two x xs other)
          | inr ne_one ↦
              let off : (x.id == one) ≡ false = ne_eqb x.id one ne_one in
              elim (cases_eq x.id two) as (λ _. added G (x ∷ xs) + at_id F (x ∷ xs) one + at_id F (x ∷ xs) two ≡ added F (x ∷ xs) + at_id G (x ∷ xs) one + at_id G (x ∷ xs) two) [
                | inl e ↦ omega (arith, rest, at_id-after F two x xs d e, at_id-after G two x xs d e, at_id-hit F two x xs (eq-eqb _ _ e), at_id-hit G two x xs (eq-eqb _ _ e), at_id-miss F one x xs off, at_id-miss G one x xs off)
                | inr ne_two ↦
                    let off' : (x.id == two) ≡ false = ne_eqb x.id two ne_two in
                    omega (arith, rest, same x ne_one ne_two, at_id-miss F one x xs off, at_id-miss G one x xs off, at_id-miss F two x xs off', at_id-miss G two x xs off')
              ]
        ]

-- units have distinct ids where brokers have
absent-units : (k : ℕ) (xs : List Broker) → has (ids_of xs) k ≡ false → has (ids_of (unit_brokers xs)) k ≡ false
absent-units k [] h = refl
absent-units k (x ∷ xs) h = elim (cases_Bool (x.id == k)) as (λ _. has (ids_of (unit_brokers (x ∷ xs))) k ≡ false) [
  | inl t ↦ absurd (true≢false (rw t at h))
  | inr e ↦
      let rest : has (ids_of (unit_brokers xs)) k ≡ false = absent-units k xs (rw e at h) in
      elim (cases_Bool (is_unit x)) as (λ _. has (ids_of (cond (is_unit x) (x ∷ unit_brokers xs) (unit_brokers xs))) k ≡ false) [
        | inl t ↦ rw t (rw e rest)
        | inr f ↦ rw f rest
      ]
]

-- the brokers that aren't lost have distinct ids
pub distinct-units : (xs : List Broker) → distinct_ids xs ≡ true → distinct_ids (unit_brokers xs) ≡ true
distinct-units [] h = refl
distinct-units (x ∷ xs) h =
    let rest : distinct_ids (unit_brokers xs) ≡ true = distinct-units xs (tail-distinct x xs h) in
    let off : has (ids_of (unit_brokers xs)) x.id ≡ false = absent-units x.id xs (head-absent x xs h) in
    elim (cases_Bool (is_unit x)) as (λ _. distinct_ids (cond (is_unit x) (x ∷ unit_brokers xs) (unit_brokers xs)) ≡ true) [
      | inl t ↦ rw t (rw off rest)
      | inr f ↦ rw f rest
    ]

-- a number of the broker of an id may be read with that id
at_id-own : (h : ℕ → Broker → ℕ) (xs : List Broker) (k : ℕ) → at_id (λ x. h x.id x) xs k ≡ at_id (h k) xs k
at_id-own h [] k = refl
at_id-own h (x ∷ xs) k = elim (cases_Bool (x.id == k)) as (λ _. at_id (λ x. h x.id x) (x ∷ xs) k ≡ at_id (h k) (x ∷ xs) k) [
  | inl t ↦ at_id-hit (λ x. h x.id x) k x xs t ∙ ap (λ i. h i x) (eqb-true _ _ t) ∙ sym (at_id-hit (h k) k x xs t)
  | inr e ↦ at_id-miss (λ x. h x.id x) k x xs e ∙ at_id-own h xs k ∙ sym (at_id-miss (h k) k x xs e)
]

-- what an action that fits does to a goal over brokers
module _ (hard : Bool) (w : Weights) (b : Bounds) (c : Cluster) (lists : Lists) (ids : distinct_ids c.brokers ≡ true) (one_each : length lists ≡ length c.parts)
    (a : Action) (fit : fits lists a ≡ true) where
  -- the excess of a broker before the action
  abbrev old : Broker → ℕ
  old x = broker_excess w b c lists x

  -- and after it
  abbrev new : Broker → ℕ
  new x = broker_excess w b c (after a lists) x

  -- the brokers that aren't lost
  abbrev units : List Broker
  units = unit_brokers c.brokers

  -- what the action does
  abbrev the_trade : Trade
  the_trade = trade w c.parts lists a

  -- the action trades
  law : Trades the_trade (λ k. quantity w c.parts k lists) (λ k. quantity w c.parts k (after a lists))
  law = trades w c.parts lists one_each a fit

  -- the excess of every other broker stays
  same : (x : Broker) → (x.id ≡ the_trade.from → ⊥) → (x.id ≡ the_trade.to → ⊥) → new x ≡ old x
  same x h i = rw (total-after w c.parts lists a fit, law.others x.id h i) refl

  -- the giver's excess before
  old-from : at_id old units the_trade.from ≡ (sides w b c lists a).giver
  unfolding sides
  old-from = at_id-own (λ k x. bound_excess b (total w c.parts lists) (quantity w c.parts k lists) x) units the_trade.from

  -- the taker's excess before
  old-to : at_id old units the_trade.to ≡ (sides w b c lists a).taker
  unfolding sides
  old-to = at_id-own (λ k x. bound_excess b (total w c.parts lists) (quantity w c.parts k lists) x) units the_trade.to

  -- the excess after it, by what the broker carries then
  new-at : (k q : ℕ) → quantity w c.parts k (after a lists) ≡ q → at_id new units k ≡ excess_with w b c lists k q
  new-at k q e =
      at_id-own (λ k x. bound_excess b (total w c.parts (after a lists)) (quantity w c.parts k (after a lists)) x) units k
      ∙ ap (λ n. at_id (bound_excess b n (quantity w c.parts k (after a lists))) units k) (total-after w c.parts lists a fit)
      ∙ ap (λ n. at_id (bound_excess b (total w c.parts lists) n) units k) e

  -- the giver's excess after
  new-from : at_id new units the_trade.from ≡ (sides w b c lists a).giver_after
  unfolding sides
  new-from = new-at the_trade.from _ (omega (arith, law.giver))

  -- the taker's excess after
  new-to : at_id new units the_trade.to ≡ (sides w b c lists a).taker_after
  unfolding sides
  new-to = new-at the_trade.to _ (omega (arith, law.taker))

  -- where neither of the two rises, the goal accepts the action
  pub accepts-sides : (sides w b c lists a).giver_after ≤ (sides w b c lists a).giver → (sides w b c lists a).taker_after ≤ (sides w b c lists a).taker → Accepts (per_broker hard w b c) lists a
  accepts-sides h i = record {
    no_unit_rises = le-all old new the_trade.from the_trade.to same units (distinct-units c.brokers ids)
        (omega (arith, old-from, new-from)) (omega (arith, old-to, new-to));
  }

  -- where it accepts the action, neither of the two rises
  pub sides-accepts : Accepts (per_broker hard w b c) lists a → ((sides w b c lists a).giver_after ≤ (sides w b c lists a).giver) × ((sides w b c lists a).taker_after ≤ (sides w b c lists a).taker)
  sides-accepts h = (
    omega (arith, old-from, new-from, le-at old new the_trade.from units h.no_unit_rises),
    omega (arith, old-to, new-to, le-at old new the_trade.to units h.no_unit_rises),
  )

  -- the measure changes as the two excesses do
  pub measure-sides : measure (per_broker hard w b c) (after a lists) + (sides w b c lists a).giver + (sides w b c lists a).taker
      ≡ measure (per_broker hard w b c) lists + (sides w b c lists a).giver_after + (sides w b c lists a).taker_after
  unfolding measure
  measure-sides = omega (
    arith,
    old-from,
    old-to,
    new-from,
    new-to,
    sum_below-added old units,
    sum_below-added new units,
    added-two old new the_trade.from the_trade.to same units law.apart (distinct-units c.brokers ids),
  )

  -- the two brokers decide whether the goal accepts the action: where the giver's excess does not rise, the taker's does
  pub Accepts-then : (s : Sides) → s ≡ sides w b c lists a → s.giver_after ≤ s.giver → IsTrue (nat_le s.taker_after s.taker) ↔ Accepts (per_broker hard w b c) lists a
  Accepts-then s e l =
      let first = rw e at l in
      rw e (
        (λ t. accepts-sides first (leb-true _ _ t)),
        (λ h. le-leb _ _ (sides-accepts h).1),
      )

  -- where the giver's excess rises, the goal doesn't accept the action
  pub Accepts-else : (s : Sides) → s ≡ sides w b c lists a → s.giver < s.giver_after → IsTrue (nat_le s.giver_after s.giver) ↔ Accepts (per_broker hard w b c) lists a
  Accepts-else s e l =
      let first = rw e at l in
      rw e (
        (λ t. let k = leb-true _ _ t in absurd (omega arith)),
        (λ h. le-leb _ _ (sides-accepts h).0),
      )

  -- and whether it lessens the goal
  pub Lessens-sides : (s : Sides) → s ≡ sides w b c lists a → IsTrue (nat_lt (s.giver_after + s.taker_after) (s.giver + s.taker)) ↔ Lessens (per_broker hard w b c) lists a
  Lessens-sides s e =
      rw e (
        (λ t. omega (arith, measure-sides, ltb-true _ _ t)),
        (λ h. lt-ltb _ _ (omega (arith, measure-sides))),
      )
