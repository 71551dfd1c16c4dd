-- Goals over topics and brokers: the topics of an action's partitions decide what it does to all units.
use Rattle.std.specs.Prelude.{map, bytes_eq, if◌then◌else◌}
use Rattle.std.proofs.Common.{◌≡◌, ℕ, ◌+◌, ◌-◌, ◌*◌, ◌<◌, ◌≤◌, Bool, true, false, List, [], ◌∷◌, ◌++◌, length, get_or, zero, suc, refl, ap, ◌∙◌, sym, arith, inl, inr, length-append}
use Rattle.std.proofs.lemmas.Bool.{true≢false, false≢true, not-true, or_left, or_right, and_parts}
use Rattle.std.proofs.lemmas.List.{length-map}
use Rattle.std.specs.List.{sum_by}
use Rattle.std.proofs.lemmas.List.Sums.{sum_by-cons}
use Rattle.plan_terms.specs.Cluster.{Cluster, Lists, list_of}
use Rattle.plan_terms.specs.Goal.{Accepts, measure, sum_below}
use Rattle.plan_terms.specs.Effect.{after}
use Rattle.plan_terms.specs.Fits.{fits}
use Rattle.goal_terms.specs.Quantity.{Weights, quantity, trade, part_weight}
use Rattle.goal_terms.specs.PerBroker.{Bounds, unit_brokers, broker_excess, per_broker, distinct_ids}
use Rattle.plan_terms.specs.Faults.{topics}
use Rattle.goal_terms.proofs.TopicList.{among, is_distinct, bytes-same, bytes-other, cases_text, topics-distinct, topics-has}
use Rattle.goal_terms.specs.PerTopic.{TopicRule, rule_weights, topic_excesses, per_topic, topic_at, first_topic, second_topic}
use Rattle.plan_terms.specs.Cluster.{leads}
use Rattle.plan_terms.proofs.EffectLemmas.{fits-Move, fits-Lead, fits-Swap}
use Rattle.goal_terms.specs.Sides.{excess_with, sides}
use Rattle.goal_terms.proofs.BrokerLemmas.{measure-sides, accepts-sides}
use Rattle.plan_terms.specs.declared.cluster.Part.{Part}
use Rattle.plan_terms.specs.declared.actions.Action.{Action}
use Rattle.plan_terms.specs.declared.actions.Action.TheVariants.{Move, Lead, Swap}

-- a number of each topic, added up
abbrev pub adds : (List ℕ → ℕ) → List (List ℕ) → ℕ
adds H [] = 0
adds H (t ∷ ts) = H t + adds H ts

-- the same sum
pub sum_by-adds : (H : List ℕ → ℕ) (ts : List (List ℕ)) → sum_by H ts ≡ adds H ts
sum_by-adds H [] = refl
sum_by-adds H (t ∷ ts) = omega (arith, sum_by-cons H t ts, sum_by-adds H ts)

-- sums of lists of excesses
abbrev pub sum_of : List ℕ → ℕ
sum_of [] = 0
sum_of (x ∷ xs) = x + sum_of xs

-- the sum of two lists
pub sum_of-append : (xs ys : List ℕ) → sum_of (xs ++ ys) ≡ sum_of xs + sum_of ys
sum_of-append [] ys = omega arith
sum_of-append (x ∷ xs) ys = omega (arith, sum_of-append xs ys)

-- a sum without its first term
sum_below-shift : (f : ℕ → ℕ) (n : ℕ) → sum_below f (suc n) ≡ f 0 + sum_below (λ k. f (suc k)) n
sum_below-shift f zero = omega arith
sum_below-shift f (suc n) = omega (arith, sum_below-shift f n)

-- the sum over places is the sum of the list
pub sum_below-of : (xs : List ℕ) (n : ℕ) → n ≡ length xs → sum_below (λ u. get_or xs u 0) n ≡ sum_of xs
sum_below-of [] n e = rw e refl
sum_below-of (x ∷ xs) n e = rw e (sum_below-shift (λ u. get_or (x ∷ xs) u 0) (length xs) ∙ ap (λ m. x + m) (sum_below-of xs (length xs) refl))

-- none of the new ones is greater
abbrev pub NoneRises : List ℕ → List ℕ → Type 0
NoneRises old new = (u : ℕ) → u < length old → get_or new u 0 ≤ get_or old u 0

-- no term of two lists rises where none of each does
pub rises-append : (xs xs' ys ys' : List ℕ) → length xs' ≡ length xs → NoneRises xs xs' → NoneRises ys ys' → NoneRises (xs ++ ys) (xs' ++ ys')
rises-append [] [] ys ys' e h i u l = i u l
rises-append [] (x' ∷ xs') ys ys' e h i u l = absurd (omega arith)
rises-append (x ∷ xs) [] ys ys' e h i u l = absurd (omega arith)
rises-append (x ∷ xs) (x' ∷ xs') ys ys' e h i zero l = h 0 (omega arith)
rises-append (x ∷ xs) (x' ∷ xs') ys ys' e h i (suc u) l = rises-append xs xs' ys ys' (omega arith) (λ k m. h (suc k) (omega arith)) i u (omega arith)

-- none of the first does
pub rises-left : (xs xs' ys ys' : List ℕ) → length xs' ≡ length xs → NoneRises (xs ++ ys) (xs' ++ ys') → NoneRises xs xs'
rises-left [] xs' ys ys' e h u l = absurd (omega arith)
rises-left (x ∷ xs) [] ys ys' e h u l = absurd (omega arith)
rises-left (x ∷ xs) (x' ∷ xs') ys ys' e h zero l = h 0 (omega arith)
rises-left (x ∷ xs) (x' ∷ xs') ys ys' e h (suc u) l = rises-left xs xs' ys ys' (omega arith) (λ k m. h (suc k) (omega arith)) u (omega arith)

-- and none of the second
pub rises-right : (xs xs' ys ys' : List ℕ) → length xs' ≡ length xs → NoneRises (xs ++ ys) (xs' ++ ys') → NoneRises ys ys'
rises-right [] [] ys ys' e h = h
rises-right [] (x' ∷ xs') ys ys' e h = absurd (omega arith)
rises-right (x ∷ xs) [] ys ys' e h = absurd (omega arith)
rises-right (x ∷ xs) (x' ∷ xs') ys ys' e h = rises-right xs xs' ys ys' (omega arith) (λ k m. h (suc k) (omega arith))

module _ (hard : Bool) (r : TopicRule) (c : Cluster) where
  -- the excesses of one topic
  abbrev pub one_topic : List ℕ → Lists → List ℕ
  one_topic t lists = map (broker_excess (rule_weights r t) (r.bounds t) c lists) (unit_brokers c.brokers)

  -- one for each broker that isn't lost
  pub length-one : (t : List ℕ) (lists : Lists) → length (one_topic t lists) ≡ length (unit_brokers c.brokers)
  length-one t lists = length-map (unit_brokers c.brokers) (broker_excess (rule_weights r t) (r.bounds t) c lists)

  -- as many as there are units
  pub length-topic_excesses : (ts : List (List ℕ)) (lists : Lists) → length (topic_excesses ts r c lists) ≡ length ts * length (unit_brokers c.brokers)
  length-topic_excesses [] lists = omega arith
  length-topic_excesses (t ∷ ts) lists =
      length-append (one_topic t lists) (topic_excesses ts r c lists) ∙ omega (arith, length-one t lists, length-topic_excesses ts lists)

  -- the measure of one topic
  abbrev pub topic_measure : List ℕ → Lists → ℕ
  topic_measure t lists = measure (per_broker hard (rule_weights r t) (r.bounds t) c) lists

  -- the measures of the topics, added up
  abbrev pub added_topics : List (List ℕ) → Lists → ℕ
  added_topics ts lists = adds (λ t. topic_measure t lists) ts

  -- the sum of all excesses is that of the topics' measures
  sum_of-topics : (ts : List (List ℕ)) (lists : Lists) → sum_of (topic_excesses ts r c lists) ≡ added_topics ts lists
  unfolding measure
  sum_of-topics [] lists = refl
  sum_of-topics (t ∷ ts) lists =
      omega (
        arith,
        sum_of-append (one_topic t lists) (topic_excesses ts r c lists),
        sum_below-of (one_topic t lists) (length (unit_brokers c.brokers)) (sym (length-one t lists)),
        sum_of-topics ts lists,
      )

  -- the measure is the sum of those of the topics
  pub measure-topics : (lists : Lists) → measure (per_topic hard r c) lists ≡ added_topics (topics c.parts) lists
  unfolding measure
  measure-topics lists =
      sum_below-of (topic_excesses (topics c.parts) r c lists) _ (sym (length-topic_excesses (topics c.parts) lists)) ∙ sum_of-topics (topics c.parts) lists

  module _ (lists : Lists) (a : Action) where
    -- each topic accepts the action
    abbrev pub EachAccepts : List (List ℕ) → Type 0
    EachAccepts [] = Unit {0}
    EachAccepts (t ∷ ts) = Accepts (per_broker hard (rule_weights r t) (r.bounds t) c) lists a × EachAccepts ts

    -- where each topic accepts, no unit rises
    rises-each : (ts : List (List ℕ)) → EachAccepts ts → NoneRises (topic_excesses ts r c lists) (topic_excesses ts r c (after a lists))
    rises-each [] h = λ u l. absurd (omega arith)
    rises-each (t ∷ ts) h =
        rises-append (one_topic t lists) (one_topic t (after a lists)) (topic_excesses ts r c lists) (topic_excesses ts r c (after a lists))
        (length-one t (after a lists) ∙ sym (length-one t lists))
        (λ u l. h.0.no_unit_rises u (omega (arith, length-one t lists)))
        (rises-each ts h.1)

    -- where no unit rises, each topic accepts
    each-rises : (ts : List (List ℕ)) → NoneRises (topic_excesses ts r c lists) (topic_excesses ts r c (after a lists)) → EachAccepts ts
    each-rises [] h = tt
    each-rises (t ∷ ts) h =
        let same = length-one t (after a lists) ∙ sym (length-one t lists) in (
          record { no_unit_rises = λ u l. rises-left (one_topic t lists) (one_topic t (after a lists)) (topic_excesses ts r c lists) (topic_excesses ts r c (after a lists)) same h u (omega (arith, length-one t lists)) },
          each-rises ts (rises-right (one_topic t lists) (one_topic t (after a lists)) (topic_excesses ts r c lists) (topic_excesses ts r c (after a lists)) same h),
        )

    -- where each topic accepts the action, the goal does
    pub accepts-each : EachAccepts (topics c.parts) → Accepts (per_topic hard r c) lists a
    accepts-each h = record { no_unit_rises = λ u l. rises-each (topics c.parts) h u (omega (arith, length-topic_excesses (topics c.parts) lists)) }

    -- where the goal accepts it, each topic does
    pub each-accepts : Accepts (per_topic hard r c) lists a → EachAccepts (topics c.parts)
    each-accepts h = each-rises (topics c.parts) (λ u l. h.no_unit_rises u (omega (arith, length-topic_excesses (topics c.parts) lists)))

-- a number of each of some distinct topics, added up
module _ (F G : List ℕ → ℕ) where
  -- the first of the topics is one of them
  has-hit : (t x : List ℕ) (ts : List (List ℕ)) → x ≡ t → among (x ∷ ts) t ≡ true
  has-hit t x ts e = or_left _ _ (bytes-same t x (sym e))

  -- another one is among the rest
  has-rest : (t x : List ℕ) (ts : List (List ℕ)) → (x ≡ t → ⊥) → among (x ∷ ts) t ≡ true → among ts t ≡ true
  has-rest t x ts ne h = rw (bytes-other t x (λ e. ne (sym e))) at h

  -- a later one is another than the first
  apart-of : (x t : List ℕ) (ts : List (List ℕ)) → is_distinct (x ∷ ts) ≡ true → among ts t ≡ true → t ≡ x → ⊥
  apart-of x t ts d h e = true≢false (sym h ∙ ap (among ts) e ∙ not-true _ (and_parts _ _ d).0)

  -- sums of equal numbers
  adds-none : (ts : List (List ℕ)) → ((t : List ℕ) → among ts t ≡ true → G t ≡ F t) → adds G ts ≡ adds F ts
  adds-none [] same = refl
  adds-none (x ∷ ts) same = omega (arith, same x (has-hit x x ts refl), adds-none ts (λ t h. same t (or_right _ _ h)))

  -- sums of numbers that are equal but at one topic
  pub adds-one : (ts : List (List ℕ)) (one : List ℕ) → is_distinct ts ≡ true → among ts one ≡ true → ((t : List ℕ) → among ts t ≡ true → (t ≡ one → ⊥) → G t ≡ F t) → adds G ts + F one ≡ adds F ts + G one
  adds-one [] one d h same = absurd (false≢true h)
  adds-one (x ∷ ts) one d h same = elim (cases_text x one) as (λ _. adds G (x ∷ ts) + F one ≡ adds F (x ∷ ts) + G one) [
    | inl e ↦ omega (arith, ap F e, ap G e, adds-none ts (λ t k. same t (or_right _ _ k) (λ i. apart-of x t ts d k (i ∙ sym e))))
    | inr ne ↦ omega (arith, same x (has-hit x x ts refl) ne, adds-one ts one (and_parts _ _ d).1 (has-rest one x ts ne h) (λ t k. same t (or_right _ _ k)))
  ]

  -- and but at two
  pub adds-two : (ts : List (List ℕ)) (one two : List ℕ) → (one ≡ two → ⊥) → is_distinct ts ≡ true → among ts one ≡ true → among ts two ≡ true
      → ((t : List ℕ) → among ts t ≡ true → (t ≡ one → ⊥) → (t ≡ two → ⊥) → G t ≡ F t) → adds G ts + F one + F two ≡ adds F ts + G one + G two
  adds-two [] one two apart d h i same = absurd (false≢true h)
  adds-two (x ∷ ts) one two apart d h i same = elim (cases_text x one) as (λ _. adds G (x ∷ ts) + F one + F two ≡ adds F (x ∷ ts) + G one + G two) [
    | inl e ↦ omega (arith, ap F e, ap G e, adds-one ts two (and_parts _ _ d).1 (has-rest two x ts (λ j. apart (sym e ∙ j)) i) (λ t k. same t (or_right _ _ k) (λ j. apart-of x t ts d k (j ∙ sym e))))
    | inr ne ↦ elim (cases_text x two) as (λ _. adds G (x ∷ ts) + F one + F two ≡ adds F (x ∷ ts) + G one + G two) [
      | inl e ↦ omega (arith, ap F e, ap G e, adds-one ts one (and_parts _ _ d).1 (has-rest one x ts ne h) (λ t k j. same t (or_right _ _ k) j (λ m. apart-of x t ts d k (m ∙ sym e))))
      | inr ne' ↦ omega (arith, same x (has-hit x x ts refl) ne ne', adds-two ts one two apart (and_parts _ _ d).1 (has-rest one x ts ne h) (has-rest two x ts ne' i) (λ t k. same t (or_right _ _ k)))
    ]
  ]

-- a partition of another topic adds nothing
other_topic : (n : ℕ) (t : List ℕ) (ps : List Part) (p : ℕ) → (t ≡ topic_at ps p → ⊥) → get_or (map (λ q. if bytes_eq q.topic t then n else 0) ps) p 0 ≡ 0
other_topic n t [] p ne = refl
other_topic n t (q ∷ ps) zero ne = rw (bytes-other q.topic t (λ e. ne (sym e))) refl
other_topic n t (q ∷ ps) (suc p) ne = other_topic n t ps p ne

-- a place of another topic carries nothing
other_weight : (r : TopicRule) (t : List ℕ) (ps : List Part) (p : ℕ) (first : Bool) → (t ≡ topic_at ps p → ⊥) → part_weight (rule_weights r t) ps p first ≡ 0
other_weight r t ps p true ne = other_topic r.lead t ps p ne
other_weight r t ps p false ne = other_topic r.follow t ps p ne

-- an action of other topics trades nothing for nothing
pub other-trade : (r : TopicRule) (t : List ℕ) (ps : List Part) (lists : Lists) (a : Action) → (t ≡ first_topic ps a → ⊥) → (t ≡ second_topic ps a → ⊥)
    → (trade (rule_weights r t) ps lists a).out ≡ (trade (rule_weights r t) ps lists a).back
other-trade r t ps lists (Move p a b) ne ne' = other_weight r t ps p (leads (list_of lists p) a) ne
other-trade r t ps lists (Lead p b) ne ne' = other_topic r.lead t ps p ne ∙ sym (other_topic r.follow t ps p ne)
other-trade r t ps lists (Swap p a q b) ne ne' = other_weight r t ps p (leads (list_of lists p) a) ne ∙ sym (other_weight r t ps q (leads (list_of lists q) b) ne')

-- the first topic of an action that fits is one of the topics
pub first-in : (c : Cluster) (lists : Lists) (a : Action) → length lists ≡ length c.parts → fits lists a ≡ true → among (topics c.parts) (first_topic c.parts a) ≡ true
first-in c lists (Move p a b) one_each fit = topics-has c.parts p (omega (arith, (fits-Move lists p a b fit).within))
first-in c lists (Lead p b) one_each fit = topics-has c.parts p (omega (arith, (fits-Lead lists p b fit).within))
first-in c lists (Swap p a q b) one_each fit = topics-has c.parts p (omega (arith, (fits-Swap lists p a q b fit).first))

-- and so is the second
pub second-in : (c : Cluster) (lists : Lists) (a : Action) → length lists ≡ length c.parts → fits lists a ≡ true → among (topics c.parts) (second_topic c.parts a) ≡ true
second-in c lists (Move p a b) one_each fit = topics-has c.parts p (omega (arith, (fits-Move lists p a b fit).within))
second-in c lists (Lead p b) one_each fit = topics-has c.parts p (omega (arith, (fits-Lead lists p b fit).within))
second-in c lists (Swap p a q b) one_each fit = topics-has c.parts q (omega (arith, (fits-Swap lists p a q b fit).second))

module _ (hard : Bool) (r : TopicRule) (c : Cluster) (lists : Lists) (ids : distinct_ids c.brokers ≡ true) (one_each : length lists ≡ length c.parts)
    (a : Action) (fit : fits lists a ≡ true) where
  -- a trade of equal weights changes neither of the two excesses
  equal-sides : (w : Weights) (b : Bounds) → (trade w c.parts lists a).out ≡ (trade w c.parts lists a).back
      → ((sides w b c lists a).giver_after ≡ (sides w b c lists a).giver) × ((sides w b c lists a).taker_after ≡ (sides w b c lists a).taker)
  unfolding sides
  equal-sides w b e =
      let t = trade w c.parts lists a in (
        ap (λ n. excess_with w b c lists t.from n) (same_amount (quantity w c.parts t.from lists) t.back t.out (sym e)),
        ap (λ n. excess_with w b c lists t.to n) (same_amount (quantity w c.parts t.to lists) t.out t.back e),
      ) where
        same_amount : (q m n : ℕ) → m ≡ n → q + m - n ≡ q
        same_amount q m n i = omega arith

  -- an untouched topic accepts the action, and its measure stays
  untouched-accepts : (t : List ℕ) → (t ≡ first_topic c.parts a → ⊥) → (t ≡ second_topic c.parts a → ⊥) → Accepts (per_broker hard (rule_weights r t) (r.bounds t) c) lists a
  untouched-accepts t ne ne' =
      let same = equal-sides (rule_weights r t) (r.bounds t) (other-trade r t c.parts lists a ne ne') in
      accepts-sides hard (rule_weights r t) (r.bounds t) c lists ids one_each a fit (omega (arith, same.0)) (omega (arith, same.1))

  -- the measure of an untouched topic stays
  untouched-measure : (t : List ℕ) → (t ≡ first_topic c.parts a → ⊥) → (t ≡ second_topic c.parts a → ⊥) → topic_measure hard r c t (after a lists) ≡ topic_measure hard r c t lists
  untouched-measure t ne ne' =
      let same = equal-sides (rule_weights r t) (r.bounds t) (other-trade r t c.parts lists a ne ne') in
      omega (arith, same.0, same.1, measure-sides hard (rule_weights r t) (r.bounds t) c lists ids one_each a fit)

  -- where the two topics accept the action, each does
  each-from : (ts : List (List ℕ)) → Accepts (per_broker hard (rule_weights r (first_topic c.parts a)) (r.bounds (first_topic c.parts a)) c) lists a → Accepts (per_broker hard (rule_weights r (second_topic c.parts a)) (r.bounds (second_topic c.parts a)) c) lists a
      → EachAccepts hard r c lists a ts
  each-from [] h i = tt
  each-from (t ∷ ts) h i = (
    elim (cases_text t (first_topic c.parts a)) as (λ _. Accepts (per_broker hard (rule_weights r t) (r.bounds t) c) lists a) [
      | inl e ↦ rw e h
      | inr ne ↦ elim (cases_text t (second_topic c.parts a)) as (λ _. Accepts (per_broker hard (rule_weights r t) (r.bounds t) c) lists a) [
        | inl e ↦ rw e i
        | inr ne' ↦ untouched-accepts t ne ne'
      ]
    ],
    each-from ts h i,
  )

  -- where each accepts it, one of them does
  each-at : (ts : List (List ℕ)) (t : List ℕ) → among ts t ≡ true → EachAccepts hard r c lists a ts → Accepts (per_broker hard (rule_weights r t) (r.bounds t) c) lists a
  each-at [] t h all = absurd (false≢true h)
  each-at (x ∷ ts) t h all = elim (cases_text x t) as (λ _. Accepts (per_broker hard (rule_weights r t) (r.bounds t) c) lists a) [
    | inl e ↦ rw (← e) all.0
    | inr ne ↦ each-at ts t (rw (bytes-other t x (λ e. ne (sym e))) at h) all.1
  ]

  -- the two topics decide whether the goal accepts the action
  pub topics-accept : Accepts (per_broker hard (rule_weights r (first_topic c.parts a)) (r.bounds (first_topic c.parts a)) c) lists a → Accepts (per_broker hard (rule_weights r (second_topic c.parts a)) (r.bounds (second_topic c.parts a)) c) lists a
      → Accepts (per_topic hard r c) lists a
  topics-accept h i = accepts-each hard r c lists a (each-from (topics c.parts) h i)

  -- where the goal accepts the action, its first topic does
  pub accept-first : Accepts (per_topic hard r c) lists a → Accepts (per_broker hard (rule_weights r (first_topic c.parts a)) (r.bounds (first_topic c.parts a)) c) lists a
  accept-first h = each-at (topics c.parts) (first_topic c.parts a) (first-in c lists a one_each fit) (each-accepts hard r c lists a h)

  -- and its second
  pub accept-second : Accepts (per_topic hard r c) lists a → Accepts (per_broker hard (rule_weights r (second_topic c.parts a)) (r.bounds (second_topic c.parts a)) c) lists a
  accept-second h = each-at (topics c.parts) (second_topic c.parts a) (second-in c lists a one_each fit) (each-accepts hard r c lists a h)

  -- and whether it lessens it
  pub one-topic : first_topic c.parts a ≡ second_topic c.parts a
      → measure (per_topic hard r c) (after a lists) + topic_measure hard r c (first_topic c.parts a) lists ≡ measure (per_topic hard r c) lists + topic_measure hard r c (first_topic c.parts a) (after a lists)
  one-topic e =
      omega (
        arith,
        measure-topics hard r c lists,
        measure-topics hard r c (after a lists),
        adds-one (λ t. topic_measure hard r c t lists) (λ t. topic_measure hard r c t (after a lists)) (topics c.parts) (first_topic c.parts a) (topics-distinct c.parts) (first-in c lists a one_each fit)
            (λ t k ne. untouched-measure t ne (λ i. ne (i ∙ sym e))),
      )

  -- where they are two, the measure changes as theirs do
  pub two-topics : (first_topic c.parts a ≡ second_topic c.parts a → ⊥)
      → measure (per_topic hard r c) (after a lists) + topic_measure hard r c (first_topic c.parts a) lists + topic_measure hard r c (second_topic c.parts a) lists
      ≡ measure (per_topic hard r c) lists + topic_measure hard r c (first_topic c.parts a) (after a lists) + topic_measure hard r c (second_topic c.parts a) (after a lists)
  two-topics ne =
      omega (
        arith,
        measure-topics hard r c lists,
        measure-topics hard r c (after a lists),
        adds-two (λ t. topic_measure hard r c t lists) (λ t. topic_measure hard r c t (after a lists)) (topics c.parts) (first_topic c.parts a) (second_topic c.parts a) ne (topics-distinct c.parts)
            (first-in c lists a one_each fit) (second-in c lists a one_each fit) (λ t k i j. untouched-measure t i j),
      )
