-- The goal of least leaders says of an action what its rule for every topic and broker says.
use Rattle.std.specs.Prelude.{map, not, find, bytes_eq, if◌then◌else◌, ◌↔◌, Option, Some, None, is_some, option_map, unwrap_or, ◌==◌}
use Rattle.std.proofs.Common.{◌≡◌, ℕ, ◌+◌, ◌-◌, ◌*◌, ◌^◌, ◌<◌, ◌≤◌, Bool, true, false, cond, List, [], ◌∷◌, length, get_or, zero, suc, refl, ap, ◌∙◌, sym, arith, inl, inr, length-append, ◌&&◌, drop, drop-cons, add-one}
use Rattle.std.proofs.lemmas.Bool.{cases_Bool, true≢false, false≢true}
use Rattle.std.proofs.lemmas.List.{length-map}
use Rattle.std.specs.List.{All, count_by, filter}
use Rattle.plan_terms.specs.Cluster.{Cluster, Lists, leads, id_at}
use Rattle.plan_terms.specs.Effect.{after}
use Rattle.plan_terms.specs.Faults.{topics}
use Rattle.plan_terms.specs.Goal.{Accepts, Lessens, measure}
use Rattle.plan_terms.specs.Load.{list_load, sum_parts, topic_leaders}
use Rattle.plan_terms.specs.States.{is_dead, is_demoted}
use Rattle.plan_terms.specs.declared.actions.Action.{Action}
use Rattle.plan_terms.specs.declared.cluster.Broker.{Broker}
use Rattle.plan_terms.specs.declared.cluster.MinLeaders.{MinLeaders}
use Rattle.plan_terms.specs.declared.cluster.Part.{Part}
use Rattle.goal_terms.specs.LeastLeaders.{floor_in, floor_of, leading_brokers, floor_topics, floor_excess, floor_excesses, least_leaders_goal, led_weights, at_least, least_rule, AreFloors}
use Rattle.goal_terms.specs.Limits.{Limits, SmallBounds, SmallWeights}
use Rattle.goal_terms.specs.Pairs.{ColdPairs}
use Rattle.goal_terms.specs.PerBroker.{bound_excess, broker_excess, unit_brokers, per_broker}
use Rattle.goal_terms.specs.PerTopic.{rule_weights, topic_heat, per_topic}
use Rattle.goal_terms.specs.Quantity.{quantity, total, whole, list_whole}
use Rattle.goal_terms.proofs.BoundLemmas.{product-le, length-units}
use Rattle.goal_terms.proofs.TopicGoalLemmas.{get-left, get-right, topic-cold_pairs}
use Rattle.goal_terms.proofs.TopicLemmas.{EachAccepts, NoneRises, accepts-each, each-accepts, adds, added_topics, measure-topics, rises-append, rises-left, rises-right, sum_of, sum_of-append, sum_below-of, topic_measure}
use Rattle.plan_terms.specs.Belongs.{Belongs}

-- what the two say of one broker
module _ {X : Type 0} where
  -- f' is at most f at each
  abbrev EachLe : (X → ℕ) → (X → ℕ) → List X → Type 0
  EachLe f f' [] = Unit {0}
  EachLe f f' (x ∷ xs) = (f' x ≤ f x) × EachLe f f' xs

  each-rises : (f f' : X → ℕ) (xs : List X) → NoneRises (map f xs) (map f' xs) → EachLe f f' xs
  each-rises f f' [] h = tt
  each-rises f f' (x ∷ xs) h = (h 0 (omega arith), each-rises f f' xs (λ u l. h (suc u) (omega arith)))

  rises-each : (f f' : X → ℕ) (xs : List X) → EachLe f f' xs → NoneRises (map f xs) (map f' xs)
  rises-each f f' [] h u l = absurd (omega arith)
  rises-each f f' (x ∷ xs) h zero l = h.0
  rises-each f f' (x ∷ xs) h (suc u) l = rises-each f f' xs h.1 u (omega arith)

  module _ (p : X → Bool) (f g : X → ℕ) (same : (x : X) → p x ≡ true → f x ≡ g x) (none : (x : X) → p x ≡ false → g x ≡ 0) where
    -- what doesn't pass adds nothing
    filter-sum : (xs : List X) → sum_of (map f (filter p xs)) ≡ sum_of (map g xs)
    filter-sum [] = refl
    filter-sum (x ∷ xs) = elim (cases_Bool (p x)) as (λ _. sum_of (map f (filter p (x ∷ xs))) ≡ sum_of (map g (x ∷ xs))) [
      | inl e ↦ rw e (omega (arith, same x e, filter-sum xs))
      | inr e ↦ rw e (omega (arith, none x e, filter-sum xs))
    ]

    module _ (f' g' : X → ℕ) (same' : (x : X) → p x ≡ true → f' x ≡ g' x) (none' : (x : X) → p x ≡ false → g' x ≡ 0) where
      filter-le : (xs : List X) → EachLe f f' (filter p xs) → EachLe g g' xs
      filter-le [] h = tt
      filter-le (x ∷ xs) h = by (λ k. filter-le xs k) (p x) refl h where
        by : (EachLe f f' (filter p xs) → EachLe g g' xs) → (b : Bool) → p x ≡ b → EachLe f f' (cond b (x ∷ filter p xs) (filter p xs)) → (g' x ≤ g x) × EachLe g g' xs
        by rest true e k = (omega (arith, same x e, same' x e, k.0), rest k.1)
        by rest false e k = (omega (arith, none x e, none' x e), rest k)

      le-filter : (xs : List X) → EachLe g g' xs → EachLe f f' (filter p xs)
      le-filter [] h = tt
      le-filter (x ∷ xs) h = by (le-filter xs h.1) (p x) refl where
        by : EachLe f f' (filter p xs) → (b : Bool) → p x ≡ b → EachLe f f' (cond b (x ∷ filter p xs) (filter p xs))
        by rest true e = (omega (arith, same x e, same' x e, h.0), rest)
        by rest false e = rest

-- how many partitions of a topic a broker leads, as a quantity
list_led : (b : ℕ) (t : Bool) (list : List ℕ) → list_load (if t then 1 else 0) (if t then 0 else 0) b list ≡ (if t && leads list b then 1 else 0)
list_led b true [] = refl
list_led b false [] = refl
list_led b true (y ∷ ys) = omega arith
list_led b false (y ∷ ys) = nothing (y == b) (count_by (λ x. x == b) ys) where
  nothing : (e : Bool) (m : ℕ) → cond e 0 0 + 0 * m ≡ 0
  nothing true m = omega arith
  nothing false m = omega arith

sum_parts-same : (f g : Part → List ℕ → ℕ) → ((p : Part) (list : List ℕ) → f p list ≡ g p list) → (ps : List Part) (lists : Lists) → sum_parts f ps lists ≡ sum_parts g ps lists
sum_parts-same f g h [] lists = refl
sum_parts-same f g h (p ∷ ps) [] = refl
sum_parts-same f g h (p ∷ ps) (list ∷ lists) = omega (arith, h p list, sum_parts-same f g h ps lists)

pub quantity-led : (c : Cluster) (t : List ℕ) (b : ℕ) (lists : Lists) → quantity (rule_weights (least_rule c) t) c.parts b lists ≡ topic_leaders c t b lists
unfolding quantity
quantity-led c t b lists = sum_parts-same _ _ (λ p list. list_led b (bytes_eq p.topic t) list) c.parts lists

-- no broker leads more than all together
led-le : (b : ℕ) (t : Bool) (list : List ℕ) → list_load (if t then 1 else 0) (if t then 0 else 0) b list ≤ list_whole (if t then 1 else 0) (if t then 0 else 0) (length list)
led-le b true [] = omega arith
led-le b false [] = omega arith
led-le b true (y ∷ ys) = one (y == b) (count_by (λ x. x == b) ys) (length ys) where
  one : (e : Bool) (m n : ℕ) → cond e 1 0 + 0 * m ≤ 1 + 0 * n
  one true m n = omega arith
  one false m n = omega arith
led-le b false (y ∷ ys) = nothing (y == b) (count_by (λ x. x == b) ys) (length ys) where
  nothing : (e : Bool) (m n : ℕ) → cond e 0 0 + 0 * m ≤ 0 + 0 * n
  nothing true m n = omega arith
  nothing false m n = omega arith

quantity-le : (c : Cluster) (t : List ℕ) (b : ℕ) (lists : Lists) → quantity (rule_weights (least_rule c) t) c.parts b lists ≤ total (rule_weights (least_rule c) t) c.parts lists
unfolding quantity total
quantity-le c t b lists = by c.parts lists where
  by : (ps : List Part) (ls : Lists) → sum_parts (λ p list. list_load ((rule_weights (least_rule c) t).lead p) ((rule_weights (least_rule c) t).follow p) b list) ps ls ≤ whole (rule_weights (least_rule c) t) ps (map length ls)
  by [] ls = omega arith
  by (p ∷ ps) [] = omega arith
  by (p ∷ ps) (list ∷ ls) = omega (arith, led-le b (bytes_eq p.topic t) list, by ps ls)

-- the excess of a broker by the rule: what it lacks, where it isn't demoted
pub rule-excess : (c : Cluster) (t : List ℕ) (lists : Lists) (x : Broker)
    → broker_excess (rule_weights (least_rule c) t) ((least_rule c).bounds t) c lists x ≡ (if is_demoted x.state then 0 else floor_of c t) - topic_leaders c t x.id lists
unfolding bound_excess
rule-excess c t lists x = omega (arith, quantity-le c t x.id lists, quantity-led c t x.id lists)

module _ (c : Cluster) where
  abbrev by_rule : Lists → List ℕ → Broker → ℕ
  by_rule lists t = broker_excess (rule_weights (least_rule c) t) ((least_rule c).bounds t) c lists

  abbrev is_led : Broker → Bool
  is_led x = not (is_demoted x.state)

  led-same : (lists : Lists) (t : List ℕ) (x : Broker) → is_led x ≡ true → floor_excess c lists t x ≡ by_rule lists t x
  led-same lists t x e = by (is_demoted x.state) refl e where
    by : (d : Bool) → is_demoted x.state ≡ d → not d ≡ true → floor_excess c lists t x ≡ by_rule lists t x
    by true i h = absurd (false≢true h)
    by false i h = sym (rule-excess c t lists x ∙ ap (λ b. (if b then 0 else floor_of c t) - topic_leaders c t x.id lists) i)

  led-none : (lists : Lists) (t : List ℕ) (x : Broker) → is_led x ≡ false → by_rule lists t x ≡ 0
  led-none lists t x e = by (is_demoted x.state) refl e where
    zero-less : (n : ℕ) → 0 - n ≡ 0
    zero-less n = omega arith

    by : (d : Bool) → is_demoted x.state ≡ d → not d ≡ false → by_rule lists t x ≡ 0
    by true i h = rule-excess c t lists x ∙ ap (λ b. (if b then 0 else floor_of c t) - topic_leaders c t x.id lists) i ∙ zero-less (topic_leaders c t x.id lists)
    by false i h = absurd (true≢false h)

  abbrev is_named : List ℕ → Bool
  is_named t = is_some (floor_in c.options.min_leaders t)

  -- a topic that isn't named has no excess
  unnamed-none : (lists : Lists) (t : List ℕ) (x : Broker) → is_named t ≡ false → by_rule lists t x ≡ 0
  unnamed-none lists t x e = by (floor_in c.options.min_leaders t) refl e where
    nothing : (d : Bool) (n m : ℕ) → n ≡ 0 → (if d then 0 else n) - m ≡ 0
    nothing true n m z = omega arith
    nothing false n m z = omega arith

    by : (o : Option ℕ) → floor_in c.options.min_leaders t ≡ o → is_some o ≡ false → by_rule lists t x ≡ 0
    by None i h = rule-excess c t lists x ∙ nothing (is_demoted x.state) (floor_of c t) (topic_leaders c t x.id lists) (ap (λ p. unwrap_or p 0) i)
    by (Some n) i h = absurd (true≢false h)

  -- the measure of one topic by the rule is the sum of its excesses
  topic-sum : (hard : Bool) (lists : Lists) (t : List ℕ) → topic_measure hard (least_rule c) c t lists ≡ sum_of (map (by_rule lists t) (unit_brokers c.brokers))
  unfolding measure
  topic-sum hard lists t = sum_below-of (map (by_rule lists t) (unit_brokers c.brokers)) (length (unit_brokers c.brokers)) (sym (length-map (unit_brokers c.brokers) (by_rule lists t)))

  sum-none : (g : Broker → ℕ) (xs : List Broker) → ((x : Broker) → g x ≡ 0) → sum_of (map g xs) ≡ 0
  sum-none g [] h = refl
  sum-none g (x ∷ xs) h = omega (arith, h x, sum-none g xs h)

  length-floors : (ts : List (List ℕ)) (lists : Lists) → length (floor_excesses ts c lists) ≡ length ts * length (leading_brokers c.brokers)
  length-floors [] lists = omega arith
  length-floors (t ∷ ts) lists =
      length-append (map (floor_excess c lists t) (leading_brokers c.brokers)) (floor_excesses ts c lists)
      ∙ omega (arith, length-map (leading_brokers c.brokers) (floor_excess c lists t), length-floors ts lists)

  -- both have one sum
  floors-sum : (hard : Bool) (lists : Lists) (ts : List (List ℕ)) → sum_of (floor_excesses (floor_topics c ts) c lists) ≡ added_topics hard (least_rule c) c ts lists
  floors-sum hard lists [] = refl
  floors-sum hard lists (t ∷ ts) = by (floors-sum hard lists ts) (is_named t) refl where
    here : sum_of (map (floor_excess c lists t) (leading_brokers c.brokers)) ≡ sum_of (map (by_rule lists t) (unit_brokers c.brokers))
    here = filter-sum is_led (floor_excess c lists t) (by_rule lists t) (led-same lists t) (led-none lists t) (unit_brokers c.brokers)

    by : sum_of (floor_excesses (floor_topics c ts) c lists) ≡ added_topics hard (least_rule c) c ts lists
        → (b : Bool) → is_named t ≡ b → sum_of (floor_excesses (cond b (t ∷ floor_topics c ts) (floor_topics c ts)) c lists) ≡ topic_measure hard (least_rule c) c t lists + added_topics hard (least_rule c) c ts lists
    by rest true e = omega (arith, sum_of-append (map (floor_excess c lists t) (leading_brokers c.brokers)) (floor_excesses (floor_topics c ts) c lists), here, topic-sum hard lists t, rest)
    by rest false e = omega (arith, topic-sum hard lists t, sum-none (by_rule lists t) (unit_brokers c.brokers) (λ x. unnamed-none lists t x e), rest)

  -- so both have one measure
  pub least-measure : (lists : Lists) → measure (least_leaders_goal c) lists ≡ measure (per_topic true (least_rule c) c) lists
  unfolding measure
  least-measure lists =
      sum_below-of (floor_excesses (floor_topics c (topics c.parts)) c lists) _ (sym (length-floors (floor_topics c (topics c.parts)) lists))
      ∙ floors-sum true lists (topics c.parts) ∙ sym (measure-topics true (least_rule c) c lists)

  -- each named topic accepts
  abbrev EachFloor : Lists → Lists → List (List ℕ) → Type 0
  EachFloor old new [] = Unit {0}
  EachFloor old new (t ∷ ts) = EachLe (floor_excess c old t) (floor_excess c new t) (leading_brokers c.brokers) × EachFloor old new ts

  length-row : (old new : Lists) (t : List ℕ) → length (map (floor_excess c new t) (leading_brokers c.brokers)) ≡ length (map (floor_excess c old t) (leading_brokers c.brokers))
  length-row old new t = length-map (leading_brokers c.brokers) (floor_excess c new t) ∙ sym (length-map (leading_brokers c.brokers) (floor_excess c old t))

  floors-rise : (old new : Lists) (ts : List (List ℕ)) → EachFloor old new ts → NoneRises (floor_excesses ts c old) (floor_excesses ts c new)
  floors-rise old new [] h = λ u l. absurd (omega arith)
  floors-rise old new (t ∷ ts) h =
      rises-append (map (floor_excess c old t) (leading_brokers c.brokers)) (map (floor_excess c new t) (leading_brokers c.brokers)) (floor_excesses ts c old) (floor_excesses ts c new)
      (length-row old new t) (rises-each (floor_excess c old t) (floor_excess c new t) (leading_brokers c.brokers) h.0) (floors-rise old new ts h.1)

  rise-floors : (old new : Lists) (ts : List (List ℕ)) → NoneRises (floor_excesses ts c old) (floor_excesses ts c new) → EachFloor old new ts
  rise-floors old new [] h = tt
  rise-floors old new (t ∷ ts) h = (
    each-rises (floor_excess c old t) (floor_excess c new t) (leading_brokers c.brokers)
        (rises-left (map (floor_excess c old t) (leading_brokers c.brokers)) (map (floor_excess c new t) (leading_brokers c.brokers)) (floor_excesses ts c old) (floor_excesses ts c new) (length-row old new t) h),
    rise-floors old new ts
        (rises-right (map (floor_excess c old t) (leading_brokers c.brokers)) (map (floor_excess c new t) (leading_brokers c.brokers)) (floor_excesses ts c old) (floor_excesses ts c new) (length-row old new t) h),
  )

  module _ (lists : Lists) (a : Action) where
    -- one topic by the rule
    unit-le : (hard : Bool) (t : List ℕ) → Accepts (per_broker hard (rule_weights (least_rule c) t) ((least_rule c).bounds t) c) lists a
        → EachLe (by_rule lists t) (by_rule (after a lists) t) (unit_brokers c.brokers)
    unit-le hard t h =
        each-rises (by_rule lists t) (by_rule (after a lists) t) (unit_brokers c.brokers)
        (λ u l. h.no_unit_rises u (omega (arith, length-map (unit_brokers c.brokers) (by_rule lists t))))

    le-unit : (hard : Bool) (t : List ℕ) → EachLe (by_rule lists t) (by_rule (after a lists) t) (unit_brokers c.brokers)
        → Accepts (per_broker hard (rule_weights (least_rule c) t) ((least_rule c).bounds t) c) lists a
    le-unit hard t h = record {
      no_unit_rises = λ u l. rises-each (by_rule lists t) (by_rule (after a lists) t) (unit_brokers c.brokers) h u (omega (arith, length-map (unit_brokers c.brokers) (by_rule lists t)));
    }

    none-le : (g g' : Broker → ℕ) (xs : List Broker) → ((x : Broker) → g' x ≡ 0) → EachLe g g' xs
    none-le g g' [] h = tt
    none-le g g' (x ∷ xs) h = (omega (arith, h x), none-le g g' xs h)

    -- a topic that isn't named accepts every action
    pub unnamed-accepts : (hard : Bool) (t : List ℕ) → is_named t ≡ false → Accepts (per_broker hard (rule_weights (least_rule c) t) ((least_rule c).bounds t) c) lists a
    unnamed-accepts hard t e = le-unit hard t (none-le (by_rule lists t) (by_rule (after a lists) t) (unit_brokers c.brokers) (λ x. unnamed-none (after a lists) t x e))

    to-rule : (hard : Bool) (ts : List (List ℕ)) → EachFloor lists (after a lists) (floor_topics c ts) → EachAccepts hard (least_rule c) c lists a ts
    to-rule hard [] h = tt
    to-rule hard (t ∷ ts) h = by (λ k. to-rule hard ts k) (is_named t) refl h where
      by : (EachFloor lists (after a lists) (floor_topics c ts) → EachAccepts hard (least_rule c) c lists a ts) → (b : Bool) → is_named t ≡ b → EachFloor lists (after a lists) (cond b (t ∷ floor_topics c ts) (floor_topics c ts)) → EachAccepts hard (least_rule c) c lists a (t ∷ ts)
      by rest true e k = (
        le-unit hard t (filter-le is_led (floor_excess c lists t) (by_rule lists t) (led-same lists t) (led-none lists t)
            (floor_excess c (after a lists) t) (by_rule (after a lists) t) (led-same (after a lists) t) (led-none (after a lists) t) (unit_brokers c.brokers) k.0),
        rest k.1,
      )
      by rest false e k = (unnamed-accepts hard t e, rest k)

    from-rule : (hard : Bool) (ts : List (List ℕ)) → EachAccepts hard (least_rule c) c lists a ts → EachFloor lists (after a lists) (floor_topics c ts)
    from-rule hard [] h = tt
    from-rule hard (t ∷ ts) h = by (from-rule hard ts h.1) (is_named t) refl where
      by : EachFloor lists (after a lists) (floor_topics c ts) → (b : Bool) → is_named t ≡ b → EachFloor lists (after a lists) (cond b (t ∷ floor_topics c ts) (floor_topics c ts))
      by rest true e = (
        le-filter is_led (floor_excess c lists t) (by_rule lists t) (led-same lists t) (led-none lists t)
            (floor_excess c (after a lists) t) (by_rule (after a lists) t) (led-same (after a lists) t) (led-none (after a lists) t) (unit_brokers c.brokers) (unit-le hard t h.0),
        rest,
      )
      by rest false e = rest

    -- both accept the same actions
    pub least-accepts : Accepts (per_topic true (least_rule c) c) lists a ↔ Accepts (least_leaders_goal c) lists a
    least-accepts = (
      (λ h. record {
        no_unit_rises = λ u l. floors-rise lists (after a lists) (floor_topics c (topics c.parts)) (from-rule true (topics c.parts) (each-accepts true (least_rule c) c lists a h)) u
            (omega (arith, length-floors (floor_topics c (topics c.parts)) lists));
      }),
      (λ h. accepts-each true (least_rule c) c lists a (to-rule true (topics c.parts) (rise-floors lists (after a lists) (floor_topics c (topics c.parts))
          (λ u l. h.no_unit_rises u (omega (arith, length-floors (floor_topics c (topics c.parts)) lists)))))),
    )

    -- and are lessened by the same
    pub least-lessens : Lessens (per_topic true (least_rule c) c) lists a ↔ Lessens (least_leaders_goal c) lists a
    least-lessens = (
      (λ h. omega (arith, least-measure lists, least-measure (after a lists))),
      (λ h. omega (arith, least-measure lists, least-measure (after a lists))),
    )

  -- an action of two cold brokers lessens nothing
  pub least-cold_pairs : (lists : Lists) → Limits c → Belongs c lists → ColdPairs (least_leaders_goal c) (topic_heat (topics c.parts) (least_rule c) c lists) lists
  least-cold_pairs lists limits belongs = record {
    none = λ a fit giver taker less. (topic-cold_pairs true (least_rule c) c lists limits belongs).none a fit giver taker ((least-lessens lists a).1 less);
  }

  -- a least number is that of a member, or 0
  floor-small : (ms : List MinLeaders) (t : List ℕ) → All (λ m. m.leaders < 2 ^ 32) ms → unwrap_or (floor_in ms t) 0 < 2 ^ 32
  floor-small [] t h = omega arith
  floor-small (m ∷ ms) t h = by (floor-small ms t (λ k d l. h (suc k) d (omega arith))) (bytes_eq m.topic t) where
    by : unwrap_or (floor_in ms t) 0 < 2 ^ 32 → (b : Bool) → unwrap_or (option_map (λ m. m.leaders) (cond b (Some m) (find (λ m. bytes_eq m.topic t) ms))) 0 < 2 ^ 32
    by rest true = h 0 m (omega arith)
    by rest false = rest

  sum-le : (g : Broker → ℕ) (top : ℕ) (xs : List Broker) → ((x : Broker) → g x ≤ top) → sum_of (map g xs) ≤ top * length xs
  sum-le g top [] h = omega arith
  sum-le g top (x ∷ xs) h = omega (arith, h x, sum-le g top xs h)

  -- the measure is small
  pub least-small : (lists : Lists) → AreFloors c → Limits c → measure (least_leaders_goal c) lists < 2 ^ 120
  least-small lists floors limits =
      omega (arith, least-measure lists, measure-topics true (least_rule c) c lists, adds-le (topics c.parts), limits.few_topics) where
        less : (d : Bool) (n m : ℕ) → n < 2 ^ 32 → (if d then 0 else n) - m ≤ 2 ^ 32
        less true n m h = omega arith
        less false n m h = omega arith

        small : (t : List ℕ) (x : Broker) → by_rule lists t x ≤ 2 ^ 32
        small t x = omega (arith, rule-excess c t lists x, less (is_demoted x.state) (floor_of c t) (topic_leaders c t x.id lists) (floor-small c.options.min_leaders t floors))

        one-le : (t : List ℕ) → topic_measure true (least_rule c) c t lists ≤ 2 ^ 32 * 200
        one-le t = omega (arith, topic-sum true lists t, sum-le (by_rule lists t) (2 ^ 32) (unit_brokers c.brokers) (small t), length-units c.brokers, limits.few_brokers)

        adds-le : (ts : List (List ℕ)) → adds (λ t. topic_measure true (least_rule c) c t lists) ts ≤ 2 ^ 32 * 200 * length ts
        adds-le [] = omega arith
        adds-le (t ∷ ts) = omega (arith, one-le t, adds-le ts)

-- what the code of the goal needs: its weights and bounds are small
pub led-small : (t : List ℕ) (p : Part) → SmallWeights (led_weights t) p
led-small t p = record { lead = one (bytes_eq p.topic t); follow = none (bytes_eq p.topic t) } where
  one : (b : Bool) → (if b then 1 else 0) < 4294967296
  one true = omega arith
  one false = omega arith

  none : (b : Bool) → (if b then 0 else 0) < 4294967296
  none true = omega arith
  none false = omega arith

pub least-bounds : (n : ℕ) → n < 2 ^ 32 → SmallBounds (at_least n)
least-bounds n h = record { scale = omega arith; lower = λ w x l cap. low (is_demoted x.state) } where
  low : (d : Bool) → (if d then 0 else n) ≤ 2 ^ 110
  low true = omega arith
  low false = omega arith

-- the named topics behind place i, where that is one, and where it isn't
module _ (c : Cluster) (ts : List (List ℕ)) (i : ℕ) (d : List ℕ) (l : i < length ts) where
  named-here : is_some (floor_in c.options.min_leaders (get_or ts i d)) ≡ true → floor_topics c (drop i ts) ≡ get_or ts i d ∷ floor_topics c (drop (suc i) ts)
  named-here e = rw (drop-cons ts i d l, e) refl

  pub named-pass : is_some (floor_in c.options.min_leaders (get_or ts i d)) ≡ false → floor_topics c (drop i ts) ≡ floor_topics c (drop (i + 1) ts)
  named-pass e = rw (drop-cons ts i d l, e, add-one) refl

  pub named-count : is_some (floor_in c.options.min_leaders (get_or ts i d)) ≡ true → length (floor_topics c (drop i ts)) ≡ length (floor_topics c (drop (i + 1) ts)) + 1
  named-count e = rw (named-here e) (let next : drop (i + 1) ts ≡ drop (suc i) ts = ap (λ n. drop n ts) (add-one i) in rw next (omega arith))

  module _ (lists : Lists) (e : is_some (floor_in c.options.min_leaders (get_or ts i d)) ≡ true) where
    pub floor-here : (u : ℕ) → u < length (leading_brokers c.brokers)
        → get_or (floor_excesses (floor_topics c (drop i ts)) c lists) u 0 ≡ get_or (map (floor_excess c lists (get_or ts i d)) (leading_brokers c.brokers)) u 0
    floor-here u m =
        rw (named-here e)
        (get-left (map (floor_excess c lists (get_or ts i d)) (leading_brokers c.brokers)) _ u (omega (arith, length-map (leading_brokers c.brokers) (floor_excess c lists (get_or ts i d)))))

    pub floor-later : (u : ℕ) → length (leading_brokers c.brokers) ≤ u
        → get_or (floor_excesses (floor_topics c (drop i ts)) c lists) u 0 ≡ get_or (floor_excesses (floor_topics c (drop (i + 1) ts)) c lists) (u - length (leading_brokers c.brokers)) 0
    floor-later u m =
        rw (named-here e, add-one)
        (get-right (map (floor_excess c lists (get_or ts i d)) (leading_brokers c.brokers)) _ u _ (omega (arith, length-map (leading_brokers c.brokers) (floor_excess c lists (get_or ts i d)))))

-- few topics are named, and few brokers may lead
length-filter-le : {X : Type 0} (p : X → Bool) (xs : List X) → length (filter p xs) ≤ length xs
length-filter-le p [] = omega arith
length-filter-le p (x ∷ xs) = by (p x) (length-filter-le p xs) where
  by : (b : Bool) → length (filter p xs) ≤ length xs → length (cond b (x ∷ filter p xs) (filter p xs)) ≤ suc (length xs)
  by true h = omega arith
  by false h = omega arith

pub few-floors : (c : Cluster) (n : ℕ) → Limits c → n ≤ length (topics c.parts) → n * length (leading_brokers c.brokers) ≤ 200000
few-floors c n limits h =
    let some : length (leading_brokers c.brokers) ≤ 200 = omega (arith, length-filter-le (λ x. not (is_demoted x.state)) (unit_brokers c.brokers), length-units c.brokers, limits.few_brokers) in
    omega (arith, product-le n (length (leading_brokers c.brokers)) 1000 200 (omega (arith, limits.few_topics)) some)

-- the named topics are as many as the least numbers that are there
pub named-length : (c : Cluster) (ts : List (List ℕ)) → length (filter is_some (map (floor_in c.options.min_leaders) ts)) ≡ length (floor_topics c ts)
named-length c [] = refl
named-length c (t ∷ ts) = by (is_some (floor_in c.options.min_leaders t)) (named-length c ts) where
  by : (b : Bool) → length (filter is_some (map (floor_in c.options.min_leaders) ts)) ≡ length (floor_topics c ts)
      → length (cond b (floor_in c.options.min_leaders t ∷ filter is_some (map (floor_in c.options.min_leaders) ts)) (filter is_some (map (floor_in c.options.min_leaders) ts))) ≡ length (cond b (t ∷ floor_topics c ts) (floor_topics c ts))
  by true h = ap suc h
  by false h = h

-- the brokers that may lead behind place i, where that broker is one, and where it isn't
module _ (bs : List Broker) (i : ℕ) (b : Broker) (l : i < length bs) (is : b ≡ get_or bs i b) where
  cut : drop i bs ≡ b ∷ drop (suc i) bs
  cut = drop-cons bs i b l ∙ ap (λ (x : Broker). x ∷ drop (suc i) bs) (sym is)

  one-more : (dead demoted : Bool) → is_dead b.state ≡ dead → is_demoted b.state ≡ demoted
      → leading_brokers (b ∷ drop (suc i) bs) ≡ cond (not dead && not demoted) (b ∷ leading_brokers (drop (suc i) bs)) (leading_brokers (drop (suc i) bs))
  one-more true demoted e f = rw e refl
  one-more false true e f = rw (e, f) refl
  one-more false false e f = rw (e, f) refl

  next-is : drop (i + 1) bs ≡ drop (suc i) bs
  next-is = ap (λ n. drop n bs) (add-one i)

  pub leading-next : (not (is_dead b.state) && not (is_demoted b.state)) ≡ true → leading_brokers (drop i bs) ≡ b ∷ leading_brokers (drop (i + 1) bs)
  leading-next e =
      ap leading_brokers cut ∙ one-more (is_dead b.state) (is_demoted b.state) refl refl
      ∙ ap (λ t. cond t (b ∷ leading_brokers (drop (suc i) bs)) (leading_brokers (drop (suc i) bs))) e ∙ ap (λ xs. b ∷ leading_brokers xs) (sym next-is)

  pub leading-pass : (not (is_dead b.state) && not (is_demoted b.state)) ≡ false → leading_brokers (drop i bs) ≡ leading_brokers (drop (i + 1) bs)
  leading-pass e =
      ap leading_brokers cut ∙ one-more (is_dead b.state) (is_demoted b.state) refl refl
      ∙ ap (λ t. cond t (b ∷ leading_brokers (drop (suc i) bs)) (leading_brokers (drop (suc i) bs))) e ∙ ap leading_brokers (sym next-is)

-- a number of the rest, at one place less
pub rest-at : (f : Broker → ℕ) (b : Broker) (xs : List Broker) (n m : ℕ) → n ≡ m - 1 → (m ≡ 0 → ⊥) → get_or (map f xs) n 0 ≡ get_or (map f (b ∷ xs)) m 0
rest-at f b xs n zero e h = absurd (h refl)
rest-at f b xs n (suc m) e h = let same : n ≡ m = omega arith in ap (λ k. get_or (map f xs) k 0) same

-- what the broker at a place lacks
lack-list : (n : ℕ) (g : ℕ → ℕ) (xs : List Broker) (i : ℕ) → i < length xs → get_or (map (λ x. n - g x.id) xs) i 0 ≡ n - g (id_at xs i)
lack-list n g [] i l = absurd (omega arith)
lack-list n g (x ∷ xs) zero l = refl
lack-list n g (x ∷ xs) (suc i) l = lack-list n g xs i (omega arith)

pub lack-at : (c : Cluster) (lists : Lists) (t : List ℕ) (i : ℕ) → i < length c.brokers
    → get_or (map (floor_excess c lists t) c.brokers) i 0 ≡ floor_of c t - topic_leaders c t (id_at c.brokers i) lists
lack-at c lists t i l = lack-list (floor_of c t) (λ b. topic_leaders c t b lists) c.brokers i l

-- where one fact decides a test, so does an equivalent one
pub then-iff : {P Q R : Type 0} → P ↔ Q → Q ↔ R → P ↔ R
then-iff h k = ((λ p. k.0 (h.0 p)), (λ r. h.1 (k.1 r)))
