-- An action leaves what goals say of every other that shares no broker and no partition with it.
use Rattle.std.specs.Prelude.{◌==◌, ◌||◌, Bool, IsTrue, ◌↔◌}
use Rattle.std.proofs.Common.{◌≡◌, ℕ, ◌+◌, ◌<◌, ◌≤◌, true, false, List, length, get_or, set, zero, suc, refl, ap, ◌∙◌, sym, arith, inl, inr, eq-eqb}
use Rattle.std.proofs.lemmas.Bool.{true≢false, cases_Bool, eqb-false, eqb-true, or_left, or_right, or_parts}
use Rattle.std.proofs.lemmas.List.{length-set}
use Rattle.plan_terms.specs.Cluster.{Cluster, Lists, list_of}
use Rattle.plan_terms.specs.Belongs.{Belongs}
use Rattle.plan_terms.specs.Effect.{replace, exchange_first, after}
use Rattle.plan_terms.specs.Fits.{fits}
use Rattle.plan_terms.specs.Legal.{is_legal}
use Rattle.plan_terms.specs.Goal.{Accepts, Lessens, measure, sum_below, per_partition}
use Rattle.plan_terms.specs.declared.actions.Action.{Action}
use Rattle.plan_terms.specs.declared.actions.Action.TheVariants.{Move, Lead, Swap}
use Rattle.plan_terms.specs.declared.cluster.Part.{Part}
use Rattle.plan_terms.proofs.EffectLemmas.{fits-Move, fits-Lead, fits-Swap}
use Rattle.plan_terms.proofs.PartitionLemmas.{list_of-same, list_of-other}
use Rattle.goal_terms.specs.Limits.{Limits}
use Rattle.goal_terms.specs.Pairs.{giver, taker, touches}
use Rattle.goal_terms.specs.PerBroker.{Bounds, per_broker}
use Rattle.goal_terms.specs.PerTopic.{TopicRule, rule_weights, per_topic, first_topic, second_topic}
use Rattle.goal_terms.specs.Quantity.{Weights, quantity, total, trade}
use Rattle.goal_terms.specs.LeastLeaders.{least_leaders_goal, least_rule}
use Rattle.goal_terms.specs.Sides.{sides}
use Rattle.goal_terms.specs.Verdicts.{AreApart, HaveOtherParts, IsNeither, SaysTheSame, VerdictsStay}
use Rattle.goal_terms.proofs.BrokerLemmas.{accepts-sides, sides-accepts, measure-sides}
use Rattle.goal_terms.proofs.LeastLemmas.{least-accepts, least-lessens, then-iff}
use Rattle.goal_terms.proofs.PairLemmas.{trade-from, trade-to}
use Rattle.goal_terms.proofs.TopicList.{cases_text}
use Rattle.goal_terms.proofs.TopicLemmas.{topics-accept, accept-first, accept-second, one-topic, two-topics}
use Rattle.goal_terms.proofs.TradeLemmas.{trades, total-after}

-- an action leaves the lists of all partitions but its own
pub list_of-after : (x : Action) (lists : Lists) (p : ℕ) → touches (λ q. q == p) x ≡ false → list_of (after x lists) p ≡ list_of lists p
list_of-after (Move q a b) lists p h = list_of-other lists q p _ (λ e. eqb-false q p h (sym e))
list_of-after (Lead q b) lists p h = list_of-other lists q p _ (λ e. eqb-false q p h (sym e))
list_of-after (Swap q a r b) lists p h =
    let parts = or_parts _ _ h in
    list_of-other (set lists q (replace a b (list_of lists q))) r p _ (λ e. eqb-false r p parts.1 (sym e))
    ∙ list_of-other lists q p _ (λ e. eqb-false q p parts.0 (sym e))

-- and their number
pub length-after : (x : Action) (lists : Lists) → length (after x lists) ≡ length lists
length-after (Move q a b) lists = length-set lists q (replace a b (list_of lists q))
length-after (Lead q b) lists = length-set lists q (exchange_first b (list_of lists q))
length-after (Swap q a r b) lists =
    length-set (set lists q (replace a b (list_of lists q))) r (replace b a (list_of lists r)) ∙ length-set lists q (replace a b (list_of lists q))

-- the lists of an action's partitions are the same
abbrev pub HasItsLists : Lists → Lists → Action → Type 0
HasItsLists lists later y = (p : ℕ) → touches (λ q. q == p) y ≡ true → list_of later p ≡ list_of lists p

-- so they are after an action of other partitions
pub lists-after : (lists : Lists) (x y : Action) → HaveOtherParts x y → HasItsLists lists (after x lists) y
lists-after lists x y apart p h = list_of-after x lists p (apart.none p h)

-- the broker that gives, what is given, and whether the action fits and is legal, all depend on these lists alone
pub giver-same : (lists later : Lists) (y : Action) → HasItsLists lists later y → giver later y ≡ giver lists y
giver-same lists later (Move p a b) same = refl
giver-same lists later (Lead p b) same = rw (same p (eq-eqb p p refl)) refl
giver-same lists later (Swap p a q b) same = refl

pub trade-same : (w : Weights) (ps : List Part) (lists later : Lists) (y : Action) → HasItsLists lists later y → trade w ps later y ≡ trade w ps lists y
trade-same w ps lists later (Move p a b) same = rw (same p (eq-eqb p p refl)) refl
trade-same w ps lists later (Lead p b) same = rw (same p (eq-eqb p p refl)) refl
trade-same w ps lists later (Swap p a q b) same = rw (same p (or_left _ _ (eq-eqb p p refl)), same q (or_right _ _ (eq-eqb q q refl))) refl

pub fits-same : (lists later : Lists) (y : Action) → HasItsLists lists later y → fits later y ≡ fits lists y
fits-same lists later (Move p a b) same = rw (same p (eq-eqb p p refl)) refl
fits-same lists later (Lead p b) same = rw (same p (eq-eqb p p refl)) refl
fits-same lists later (Swap p a q b) same = rw (same p (or_left _ _ (eq-eqb p p refl)), same q (or_right _ _ (eq-eqb q q refl))) refl

pub legal-same : (c : Cluster) (lists later : Lists) (y : Action) → HasItsLists lists later y → is_legal c later y ≡ is_legal c lists y
unfolding is_legal
legal-same c lists later (Move p a b) same = rw (same p (eq-eqb p p refl)) refl
legal-same c lists later (Lead p b) same = rw (same p (eq-eqb p p refl)) refl
legal-same c lists later (Swap p a q b) same = rw (same p (or_left _ _ (eq-eqb p p refl)), same q (or_right _ _ (eq-eqb q q refl))) refl

-- one of two holds, and the second doesn't
first-holds : (s t : Bool) → t ≡ false → (s || t) ≡ true → s ≡ true
first-holds true t e h = refl
first-holds false t e h = absurd (true≢false (sym h ∙ e))

-- what an action makes of its lists depends on them alone
pub after-same : (lists later : Lists) (y : Action) → HasItsLists lists later y → fits lists y ≡ true → fits later y ≡ true
    → (u : ℕ) → touches (λ q. q == u) y ≡ true → list_of (after y later) u ≡ list_of (after y lists) u
after-same lists later (Move p a b) same fit fit' u h =
    let e : p ≡ u = eqb-true p u h in
    rw (← e) (list_of-same later p _ (fits-Move later p a b fit').within
    ∙ ap (replace a b) (same p (eq-eqb p p refl))
    ∙ sym (list_of-same lists p _ (fits-Move lists p a b fit).within))
after-same lists later (Lead p b) same fit fit' u h =
    let e : p ≡ u = eqb-true p u h in
    rw (← e) (list_of-same later p _ (fits-Lead later p b fit').within
    ∙ ap (exchange_first b) (same p (eq-eqb p p refl))
    ∙ sym (list_of-same lists p _ (fits-Lead lists p b fit).within))
after-same lists later (Swap p a q b) same fit fit' u h = by (q == u) refl where
  one : (ls : Lists) → fits ls (Swap p a q b) ≡ true → list_of (after (Swap p a q b) ls) p ≡ replace a b (list_of ls p)
  one ls f =
      let swap = fits-Swap ls p a q b f in
      list_of-other (set ls p (replace a b (list_of ls p))) q p _ swap.apart ∙ list_of-same ls p _ swap.first

  two : (ls : Lists) → fits ls (Swap p a q b) ≡ true → list_of (after (Swap p a q b) ls) q ≡ replace b a (list_of ls q)
  two ls f =
      let swap = fits-Swap ls p a q b f in
      list_of-same (set ls p (replace a b (list_of ls p))) q _ (rw length-set swap.second)

  by : (t : Bool) → (q == u) ≡ t → list_of (after (Swap p a q b) later) u ≡ list_of (after (Swap p a q b) lists) u
  by true e =
      let i : q ≡ u = eqb-true q u e in
      rw (← i) (two later fit' ∙ ap (replace b a) (same q (or_right _ _ (eq-eqb q q refl))) ∙ sym (two lists fit))
  by false e =
      let i : p ≡ u = eqb-true p u (first-holds (p == u) (q == u) e h) in
      rw (← i) (one later fit' ∙ ap (replace a b) (same p (or_left _ _ (eq-eqb p p refl))) ∙ sym (one lists fit))

-- the two brokers that an action is apart from carry what they did, for every quantity
pub sides-same : (w : Weights) (b : Bounds) (c : Cluster) (lists : Lists) (x y : Action) → length lists ≡ length c.parts → fits lists x ≡ true → AreApart lists x y
    → sides w b c (after x lists) y ≡ sides w b c lists y
unfolding sides
sides-same w b c lists x y one_each fit apart =
    let law = trades w c.parts lists one_each x fit in
    let t = trade w c.parts lists y in
    let from : quantity w c.parts t.from (after x lists) ≡ quantity w c.parts t.from lists = law.others t.from
    (λ e. apart.from.gives (sym (trade-from w c.parts lists y) ∙ e ∙ trade-from w c.parts lists x))
    (λ e. apart.from.takes (sym (trade-from w c.parts lists y) ∙ e ∙ trade-to w c.parts lists x)) in
    let to : quantity w c.parts t.to (after x lists) ≡ quantity w c.parts t.to lists = law.others t.to
    (λ e. apart.to.gives (sym (trade-to w c.parts lists y) ∙ e ∙ trade-from w c.parts lists x))
    (λ e. apart.to.takes (sym (trade-to w c.parts lists y) ∙ e ∙ trade-to w c.parts lists x)) in
    rw (trade-same w c.parts lists (after x lists) y (lists-after lists x y apart.parts), total-after w c.parts lists x fit, from, to) refl

module _ (hard : Bool) (c : Cluster) (lists : Lists) (limits : Limits c) (belongs : Belongs c lists) (x y : Action) (fit : fits lists x ≡ true) (fit' : fits lists y ≡ true)
    (apart : AreApart lists x y) where
  abbrev later : Lists
  later = after x lists

  later-each : length later ≡ length c.parts
  later-each = length-after x lists ∙ belongs.one_each

  later-fits : fits later y ≡ true
  later-fits = fits-same lists later y (lists-after lists x y apart.parts) ∙ fit'

  -- of a goal over brokers
  pub broker-says : (w : Weights) (b : Bounds) → SaysTheSame (per_broker hard w b c) lists later y
  broker-says w b =
      let same = sides-same w b c lists x y belongs.one_each fit apart in
      record {
        accepts = (
          (λ h.
              let both = sides-accepts hard w b c lists limits.ids belongs.one_each y fit' h in
              accepts-sides hard w b c later limits.ids later-each y later-fits (rw same both.0) (rw same both.1)),
          (λ h.
              let both = rw same at (sides-accepts hard w b c later limits.ids later-each y later-fits h) in
              accepts-sides hard w b c lists limits.ids belongs.one_each y fit' both.0 both.1),
        );
        lessens = (
          (λ h. omega (arith, measure-sides hard w b c lists limits.ids belongs.one_each y fit', rw same at (measure-sides hard w b c later limits.ids later-each y later-fits))),
          (λ h. omega (arith, measure-sides hard w b c lists limits.ids belongs.one_each y fit', rw same at (measure-sides hard w b c later limits.ids later-each y later-fits))),
        );
      }

  -- of a goal over topics and brokers
  pub topic-says : (r : TopicRule) → SaysTheSame (per_topic hard r c) lists later y
  topic-says r =
      let one = first_topic c.parts y in
      let two = second_topic c.parts y in
      let first = broker-says (rule_weights r one) (r.bounds one) in
      let second = broker-says (rule_weights r two) (r.bounds two) in
      let before = λ (t : List ℕ). measure-sides hard (rule_weights r t) (r.bounds t) c lists limits.ids belongs.one_each y fit' in
      let behind = λ (t : List ℕ).
      rw (sides-same (rule_weights r t) (r.bounds t) c lists x y belongs.one_each fit apart) at
      (measure-sides hard (rule_weights r t) (r.bounds t) c later limits.ids later-each y later-fits) in
      record {
        accepts = (
          (λ h. topics-accept hard r c later limits.ids later-each y later-fits
              (first.accepts.0 (accept-first hard r c lists limits.ids belongs.one_each y fit' h))
              (second.accepts.0 (accept-second hard r c lists limits.ids belongs.one_each y fit' h))),
          (λ h. topics-accept hard r c lists limits.ids belongs.one_each y fit'
              (first.accepts.1 (accept-first hard r c later limits.ids later-each y later-fits h))
              (second.accepts.1 (accept-second hard r c later limits.ids later-each y later-fits h))),
        );
        lessens = elim (cases_text one two) as (λ _. Lessens (per_topic hard r c) lists y ↔ Lessens (per_topic hard r c) later y) [
          | inl same ↦
              let m = one-topic hard r c lists limits.ids belongs.one_each y fit' same in
              let n = one-topic hard r c later limits.ids later-each y later-fits same in
              ((λ h. omega (arith, m, n, before one, behind one)), (λ h. omega (arith, m, n, before one, behind one)))
          | inr other ↦
              let m = two-topics hard r c lists limits.ids belongs.one_each y fit' other in
              let n = two-topics hard r c later limits.ids later-each y later-fits other in
              ((λ h. omega (arith, m, n, before one, behind one, before two, behind two)), (λ h. omega (arith, m, n, before one, behind one, before two, behind two)))
        ];
      }

-- of the goal of least leaders
pub least-says : (c : Cluster) (lists : Lists) → Limits c → Belongs c lists → (x y : Action) → fits lists x ≡ true → fits lists y ≡ true → AreApart lists x y
    → SaysTheSame (least_leaders_goal c) lists (after x lists) y
least-says c lists limits belongs x y fit fit' apart =
    let rule = topic-says true c lists limits belongs x y fit fit' apart (least_rule c) in
    let later = after x lists in
    record {
      accepts = (
        (λ h. (least-accepts c later y).0 (rule.accepts.0 ((least-accepts c lists y).1 h))),
        (λ h. (least-accepts c lists y).0 (rule.accepts.1 ((least-accepts c later y).1 h))),
      );
      lessens = (
        (λ h. (least-lessens c later y).0 (rule.lessens.0 ((least-lessens c lists y).1 h))),
        (λ h. (least-lessens c lists y).0 (rule.lessens.1 ((least-lessens c later y).1 h))),
      );
    }

-- each term stays by one of the two changes, and the other is then the same
pub record EitherStays (old new old' new' : ℕ) : Type 0 where
  pub change : new + old' ≡ old + new'
  pub rise : new ≤ old → new' ≤ old'
  pub fall : new' ≤ old' → new ≤ old

sums-stay : (f g f' g' : ℕ → ℕ) (n : ℕ) → ((u : ℕ) → EitherStays (f u) (g u) (f' u) (g' u)) → sum_below g n + sum_below f' n ≡ sum_below f n + sum_below g' n
sums-stay f g f' g' zero h = refl
sums-stay f g f' g' (suc n) h = omega (arith, sums-stay f g f' g' n h, (h n).change)

-- of a goal over partitions
pub partition-says : (hard : Bool) (f : List ℕ → ℕ) (c : Cluster) (lists : Lists) (x y : Action) → fits lists y ≡ true → HaveOtherParts x y
    → SaysTheSame (per_partition hard f c) lists (after x lists) y
unfolding measure
partition-says hard f c lists x y fit apart = record {
  accepts = (
    (λ h. record { no_unit_rises = λ u l. (each u).rise (h.no_unit_rises u l) }),
    (λ h. record { no_unit_rises = λ u l. (each u).fall (h.no_unit_rises u l) }),
  );
  lessens = ((λ h. omega (arith, sums)), (λ h. omega (arith, sums)));
} where
  later : Lists
  later = after x lists

  same : HasItsLists lists later y
  same = lists-after lists x y apart

  later-fits : fits later y ≡ true
  later-fits = fits-same lists later y same ∙ fit

  each : (u : ℕ) → EitherStays (f (list_of lists u)) (f (list_of (after y lists) u)) (f (list_of later u)) (f (list_of (after y later) u))
  each u = by (touches (λ q. q == u) y) refl where
    by : (t : Bool) → touches (λ q. q == u) y ≡ t → EitherStays (f (list_of lists u)) (f (list_of (after y lists) u)) (f (list_of later u)) (f (list_of (after y later) u))
    by true e = rw (same u e, after-same lists later y same fit later-fits u e) (record { change = omega arith; rise = λ h. h; fall = λ h. h })
    by false e = rw (list_of-after y lists u e, list_of-after y later u e) (record { change = omega arith; rise = λ h. omega arith; fall = λ h. omega arith })

  sums : sum_below (λ u. f (list_of (after y lists) u)) (length c.parts) + sum_below (λ u. f (list_of later u)) (length c.parts)
      ≡ sum_below (λ u. f (list_of lists u)) (length c.parts) + sum_below (λ u. f (list_of (after y later) u)) (length c.parts)
  sums = sums-stay _ _ _ _ (length c.parts) each

-- the laws that goals of each shape keep
pub broker-verdicts_stay : (hard : Bool) (w : Weights) (b : Bounds) (c : Cluster) (lists : Lists) → Limits c → Belongs c lists → VerdictsStay (per_broker hard w b c) lists
broker-verdicts_stay hard w b c lists limits belongs = record { stay = λ x y fit fit' apart. broker-says hard c lists limits belongs x y fit fit' apart w b }

pub topic-verdicts_stay : (hard : Bool) (r : TopicRule) (c : Cluster) (lists : Lists) → Limits c → Belongs c lists → VerdictsStay (per_topic hard r c) lists
topic-verdicts_stay hard r c lists limits belongs = record { stay = λ x y fit fit' apart. topic-says hard c lists limits belongs x y fit fit' apart r }

pub least-verdicts_stay : (c : Cluster) (lists : Lists) → Limits c → Belongs c lists → VerdictsStay (least_leaders_goal c) lists
least-verdicts_stay c lists limits belongs = record { stay = λ x y fit fit' apart. least-says c lists limits belongs x y fit fit' apart }

pub partition-verdicts_stay : (hard : Bool) (f : List ℕ → ℕ) (c : Cluster) (lists : Lists) → VerdictsStay (per_partition hard f c) lists
partition-verdicts_stay hard f c lists = record { stay = λ x y fit fit' apart. partition-says hard f c lists x y fit' apart.parts }
