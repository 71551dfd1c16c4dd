-- What is kept of candidates that did not serve stays true.
use Rattle.std.specs.Prelude.{◌==◌, ◌&&◌, ◌||◌, is_some}
use Rattle.std.proofs.Common.{◌≡◌, ℕ, ◌<◌, ◌≤◌, ◌⊎◌, Bool, true, false, List, [], ◌∷◌, cond, length, get_or, set, replicate, map, zero, suc, refl, subst, ap, ◌∙◌, sym, arith, inl, inr, eq-eqb}
use Rattle.std.specs.List.{All}
use Rattle.std.proofs.lemmas.Bool.{cases_Bool, true≢false, cases_eq, eqb-true, ne_eqb}
use Rattle.std.proofs.lemmas.List.{get_or-set_same, get_or-set_other, get_or_default, length-map, length-set, length-replicate}
use Rattle.plan_terms.specs.Cluster.{Cluster, Lists, broker_of, has, id_at, ids_of}
use Rattle.plan_terms.specs.declared.cluster.Broker.{Broker}
use Rattle.plan_terms.specs.Effect.{after}
use Rattle.plan_terms.specs.Fits.{fits}
use Rattle.plan_terms.specs.Goal.{Meaning}
use Rattle.plan_terms.specs.Trace.{Step}
use Rattle.plan_terms.specs.declared.actions.Action.{Action}
use Rattle.plan_terms.specs.declared.actions.Action.TheVariants.{Move}
use Rattle.goal_terms.specs.Pairs.{giver, taker, touches}
use Rattle.goal_terms.specs.Verdicts.{VerdictsStay}
use Rattle.candidate_order.specs.Exhausted.{Stamps, AreExhausted, AreBefore, touched, passed, kind_of, is_kind}
use Rattle.candidate_order.specs.Rests.{IsRests, MovesRest, TargetsRest, times_of}
use Rattle.candidate_order.specs.declared.kinds.Kind.{Kind}
use Rattle.candidate_order.specs.declared.kinds.Kind.TheVariants.{Moves, Leads, Swaps}
use Rattle.candidate_order.specs.declared.kept.Row.{Row}
use Rattle.candidate_order.specs.declared.rests.Rests.{Rests}
use Rattle.candidate_order.proofs.ExhaustLemmas.{exhausted-after, exhausted-more, before-passed, same-kind}

-- a move of brokers and a partition that weren't touched since its row was passed doesn't serve
pub knows-move : (c : Cluster) (serves : Action → Type 0) (lists : Lists) (r : Rests) → IsRests c serves lists r
    → (p k m : ℕ) → p < length c.parts → k < length c.brokers → m < length c.brokers
    → get_or r.brokers.items k 0 < get_or r.moves.items k 0 → get_or r.brokers.items m 0 < get_or r.moves.items k 0 → get_or r.parts.items p 0 < get_or r.moves.items k 0
    → serves (Move p (id_at c.brokers k) (id_at c.brokers m)) → ⊥
knows-move c serves lists r h p k m lp lk lm i j n s =
    h.exhausted.none (Move p (id_at c.brokers k) (id_at c.brokers m)) (record {
      from = omega (arith, h.brokers_are k lk, h.rows_are Moves k lk);
      to = omega (arith, h.brokers_are m lm, h.rows_are Moves k lk);
      parts = λ q e. let same : p ≡ q = eqb-true p q e in rw (← same) (omega (arith, h.parts_are p lp, h.rows_are Moves k lk));
    }) s

-- no move serves of a broker and a partition that weren't touched since, to one that wasn't
pub moves-rest : (c : Cluster) (serves : Action → Type 0) (lists : Lists) (r : Rests) → IsRests c serves lists r → (k b : ℕ) → k < length c.brokers → b ≡ id_at c.brokers k
    → get_or r.brokers.items k 0 < get_or r.moves.items k 0 → MovesRest c serves r b (get_or r.moves.items k 0)
moves-rest c serves lists r h k b lk e i = record {
  each = λ p lp n. record {
    none = λ m lm j s. knows-move c serves lists r h p k m lp lk lm i j n (subst (λ (x : ℕ). serves (Move p x (id_at c.brokers m))) e s);
  };
}

-- at time 0 nothing is known
pub no-moves : (c : Cluster) (serves : Action → Type 0) (r : Rests) (b : ℕ) → MovesRest c serves r b 0
no-moves c serves r b = record { each = λ p lp n. absurd (omega arith) }

pub no-targets : (c : Cluster) (serves : Action → Type 0) (r : Rests) (b p : ℕ) → TargetsRest c serves r b p 0
no-targets c serves r b p = record { none = λ k lk n s. absurd (omega arith) }

-- at the start nothing is known
pub rests-new : (c : Cluster) (serves : Action → Type 0) (lists : Lists) (r : Rests) → r.brokers.items ≡ replicate (length c.brokers) 0 → r.parts.items ≡ replicate (length c.parts) 0
    → ((kind : Kind) → times_of kind r ≡ replicate (length c.brokers) 0) → IsRests c serves lists r
rests-new c serves lists r bs ps rows = record {
  stamps = record { broker = λ _. 0; part = λ _. 0; row = λ _ _. 0 };
  broker_each = ap (length {A = ℕ}) bs ∙ length-replicate (length c.brokers) 0;
  part_each = ap (length {A = ℕ}) ps ∙ length-replicate (length c.parts) 0;
  row_each = λ kind. ap (length {A = ℕ}) (rows kind) ∙ length-replicate (length c.brokers) 0;
  brokers_are = λ k l. rw bs (zeros 0 (length c.brokers) k);
  parts_are = λ p l. rw ps (zeros 0 (length c.parts) p);
  rows_are = λ kind k l. rw (rows kind) (zeros 0 (length c.brokers) k);
  exhausted = record { none = λ y free s. absurd (omega (arith, free.from)) };
  before = record { rows = λ kind b. omega arith };
} where
  zeros : (z n k : ℕ) → z ≡ get_or (replicate n z) k z
  zeros z zero k = refl
  zeros z (suc n) zero = refl
  zeros z (suc n) (suc k) = zeros z n k

-- a choice of the first
chosen : (t : Bool) (a b : ℕ) → t ≡ true → cond t a b ≡ a
chosen t a b e = rw e refl

-- and of the second
other : (t : Bool) (a b : ℕ) → t ≡ false → cond t a b ≡ b
other t a b e = rw e refl

left-true : (s t : Bool) → s ≡ true → (s || t) ≡ true
left-true s t e = rw e refl

right-true : (s t : Bool) → t ≡ true → (s || t) ≡ true
right-true true t e = refl
right-true false t e = e

both-false : (s t : Bool) → s ≡ false → t ≡ false → (s || t) ≡ false
both-false s t e f = rw (e, f) refl

-- an action is noted
module _ (c : Cluster) (earlier : List Meaning) (goal : Meaning) (lists : Lists) (r r' : Rests) (h : IsRests c (Step c earlier goal lists) lists r) where
  pub rests-touch : (x : Action) (from to : ℕ) → All (λ g. VerdictsStay g lists) earlier → VerdictsStay goal lists → fits lists x ≡ true
      → from < length c.brokers → to < length c.brokers → id_at c.brokers from ≡ giver lists x → id_at c.brokers to ≡ taker x
      → ((k : ℕ) → k < length c.brokers → id_at c.brokers k ≡ giver lists x → k ≡ from) → ((k : ℕ) → k < length c.brokers → id_at c.brokers k ≡ taker x → k ≡ to)
      → r'.brokers.items ≡ set (set r.brokers.items from r.time) to r.time
      → length r'.parts.items ≡ length r.parts.items
      → ((p : ℕ) → p < length r.parts.items → get_or r'.parts.items p 0 ≡ cond (touches (λ q. q == p) x) r.time (get_or r.parts.items p 0))
      → ((kind : Kind) → times_of kind r' ≡ times_of kind r) → r.time ≤ r'.time
      → IsRests c (Step c earlier goal (after x lists)) (after x lists) r'
  rests-touch x from to accept lessen fit lf lt at_from at_to only_from only_to bs ps each rows later =
      let from_in : from < length r.brokers.items = omega (arith, h.broker_each) in
      let to_in : to < length (set r.brokers.items from r.time) = omega (arith, h.broker_each, length-set r.brokers.items from r.time) in
      record {
        stamps = touched h.stamps lists x r.time;
        broker_each = ap (length {A = ℕ}) bs ∙ length-set (set r.brokers.items from r.time) to r.time ∙ length-set r.brokers.items from r.time ∙ h.broker_each;
        part_each = ps ∙ h.part_each;
        row_each = λ kind. ap (length {A = ℕ}) (rows kind) ∙ h.row_each kind;
        brokers_are = λ k l. rw bs (at k l from_in to_in);
        parts_are = λ p l. ap (λ n. cond (touches (λ q. q == p) x) r.time n) (h.parts_are p l) ∙ sym (each p (omega (arith, h.part_each)));
        rows_are = λ kind k l. rw (rows kind) (h.rows_are kind k l);
        exhausted = exhausted-after c earlier goal lists h.stamps r.time x accept lessen fit h.before h.exhausted;
        before = record { rows = λ kind b. omega (arith, h.before.rows kind b) };
      } where
        at : (k : ℕ) → k < length c.brokers → from < length r.brokers.items → to < length (set r.brokers.items from r.time)
            → cond (id_at c.brokers k == giver lists x || id_at c.brokers k == taker x) r.time (h.stamps.broker (id_at c.brokers k)) ≡ get_or (set (set r.brokers.items from r.time) to r.time) k 0
        at k l from_in to_in = elim (cases_eq k to) as (λ _. cond (id_at c.brokers k == giver lists x || id_at c.brokers k == taker x) r.time (h.stamps.broker (id_at c.brokers k)) ≡ get_or (set (set r.brokers.items from r.time) to r.time) k 0) [
          | inl e ↦
              chosen _ _ _ (right-true _ _ (eq-eqb _ _ (ap (id_at c.brokers) e ∙ at_to)))
              ∙ sym (get_or-set_same (set r.brokers.items from r.time) to r.time 0 to_in) ∙ ap (λ n. get_or (set (set r.brokers.items from r.time) to r.time) n 0) (sym e)
          | inr not_to ↦ elim (cases_eq k from) as (λ _. cond (id_at c.brokers k == giver lists x || id_at c.brokers k == taker x) r.time (h.stamps.broker (id_at c.brokers k)) ≡ get_or (set (set r.brokers.items from r.time) to r.time) k 0) [
            | inl e ↦
                chosen _ _ _ (left-true _ _ (eq-eqb _ _ (ap (id_at c.brokers) e ∙ at_from)))
                ∙ sym (get_or-set_same r.brokers.items from r.time 0 from_in) ∙ ap (λ n. get_or (set r.brokers.items from r.time) n 0) (sym e)
                ∙ sym (get_or-set_other (set r.brokers.items from r.time) to k r.time 0 not_to)
            | inr not_from ↦
                other _ _ _ (both-false _ _ (ne_eqb _ _ (λ i. not_from (only_from k l i))) (ne_eqb _ _ (λ i. not_to (only_to k l i))))
                ∙ h.brokers_are k l
                ∙ sym (get_or-set_other r.brokers.items from k r.time 0 not_from)
                ∙ sym (get_or-set_other (set r.brokers.items from r.time) to k r.time 0 not_to)
          ]
        ]

  -- a row is passed
  pub rests-pass : (kind : Kind) (place b : ℕ) → place < length c.brokers → id_at c.brokers place ≡ b
      → ((k : ℕ) → k < length c.brokers → id_at c.brokers k ≡ b → k ≡ place)
      → ((y : Action) → kind_of y ≡ kind → giver lists y ≡ b → Step c earlier goal lists y → ⊥)
      → times_of kind r' ≡ set (times_of kind r) place r.time → ((k : Kind) → is_kind kind k ≡ false → times_of k r' ≡ times_of k r)
      → r'.brokers.items ≡ r.brokers.items → r'.parts.items ≡ r.parts.items → r'.time ≡ r.time
      → IsRests c (Step c earlier goal lists) lists r'
  rests-pass kind place b lp at_place only none hit miss bs ps same_time = record {
    stamps = passed h.stamps kind (b ∷ []) r.time;
    broker_each = ap (length {A = ℕ}) bs ∙ h.broker_each;
    part_each = ap (length {A = ℕ}) ps ∙ h.part_each;
    row_each = λ k. each k (is_kind kind k) refl;
    brokers_are = λ k l. rw bs (h.brokers_are k l);
    parts_are = λ p l. rw ps (h.parts_are p l);
    rows_are = λ kind' k l. at kind' k l (is_kind kind kind') refl;
    exhausted = exhausted-more c earlier goal lists h.stamps r.time kind (b ∷ []) (λ y e m s. none y e (sym (eqb-true b (giver lists y) (one-of _ m))) s) h.exhausted;
    before = rw same_time (before-passed c earlier goal lists h.stamps r.time h.before kind (b ∷ []));
  } where
    one-of : (t : Bool) → (t || false) ≡ true → t ≡ true
    one-of true e = refl
    one-of false e = e

    each : (k : Kind) (t : Bool) → is_kind kind k ≡ t → length (times_of k r') ≡ length c.brokers
    each k true e = let i : k ≡ kind = same-kind c earlier goal lists h.stamps r.time kind k e in
        rw i (ap (length {A = ℕ}) hit ∙ length-set (times_of kind r) place r.time ∙ h.row_each kind)
    each k false e = ap (length {A = ℕ}) (miss k e) ∙ h.row_each k

    at : (kind' : Kind) (k : ℕ) → k < length c.brokers → (t : Bool) → is_kind kind kind' ≡ t
        → cond (is_kind kind kind' && has (b ∷ []) (id_at c.brokers k)) r.time (h.stamps.row kind' (id_at c.brokers k)) ≡ get_or (times_of kind' r') k 0
    at kind' k l false e = rw (e, miss kind' e) (h.rows_are kind' k l)
    at kind' k l true e =
        let i : kind' ≡ kind = same-kind c earlier goal lists h.stamps r.time kind kind' e in
        let d : is_kind kind kind ≡ true = rw i at e in
        rw (i, d, hit) (here (cases_eq k place)) where
          here : (k ≡ place) ⊎ (k ≡ place → ⊥) → cond ((b == id_at c.brokers k) || false) r.time (h.stamps.row kind (id_at c.brokers k)) ≡ get_or (set (times_of kind r) place r.time) k 0
          here (inl e') = chosen _ _ _ (left-true _ _ (eq-eqb _ _ (sym (ap (id_at c.brokers) e' ∙ at_place))))
              ∙ sym (get_or-set_same (times_of kind r) place r.time 0 (omega (arith, h.row_each kind))) ∙ ap (λ n. get_or (set (times_of kind r) place r.time) n 0) (sym e')
          here (inr ne) = other _ _ _ (both-false _ _ (ne_eqb _ _ (λ i'. ne (only k l (sym i')))) refl)
              ∙ h.rows_are kind k l ∙ sym (get_or-set_other (times_of kind r) place k r.time 0 ne)

-- the other two kinds
abbrev pub AreOthers : Kind → Rests → Rests → Type 0
AreOthers kind r r' = (k : Kind) → is_kind kind k ≡ false → times_of k r' ≡ times_of k r

pub others-Moves : (r r' : Rests) → r'.leads.items ≡ r.leads.items → r'.swaps.items ≡ r.swaps.items → AreOthers Moves r r'
others-Moves r r' e f Moves h = absurd (true≢false h)
others-Moves r r' e f Leads h = e
others-Moves r r' e f Swaps h = f

pub others-Leads : (r r' : Rests) → r'.moves.items ≡ r.moves.items → r'.swaps.items ≡ r.swaps.items → AreOthers Leads r r'
others-Leads r r' e f Moves h = e
others-Leads r r' e f Leads h = absurd (true≢false h)
others-Leads r r' e f Swaps h = f

pub others-Swaps : (r r' : Rests) → r'.moves.items ≡ r.moves.items → r'.leads.items ≡ r.leads.items → AreOthers Swaps r r'
others-Swaps r r' e f Moves h = e
others-Swaps r r' e f Leads h = f
others-Swaps r r' e f Swaps h = absurd (true≢false h)

pub same-times : (r r' : Rests) → r'.moves.items ≡ r.moves.items → r'.leads.items ≡ r.leads.items → r'.swaps.items ≡ r.swaps.items → (kind : Kind) → times_of kind r' ≡ times_of kind r
same-times r r' e f h Moves = e
same-times r r' e f h Leads = f
same-times r r' e f h Swaps = h

pub all-times : (r : Rests) (ts : List ℕ) → r.moves.items ≡ ts → r.leads.items ≡ ts → r.swaps.items ≡ ts → (kind : Kind) → times_of kind r ≡ ts
all-times r ts e f h Moves = e
all-times r ts e f h Leads = f
all-times r ts e f h Swaps = h

-- what an index reads
pub read : (xs : List ℕ) (i x : ℕ) → i < length xs → x ≡ get_or xs i x → x ≡ get_or xs i 0
read xs i x l e = e ∙ get_or_default xs i x 0 l

-- each broker of the cluster is known
pub known-at : (bs : List Broker) (k : ℕ) → k < length bs → is_some (broker_of bs (get_or (ids_of bs) k 0)) ≡ true
known-at [] k l = absurd (omega arith)
known-at (x ∷ bs) zero l = rw (eq-eqb x.id x.id refl) refl
known-at (x ∷ bs) (suc k) l = elim (cases_Bool (x.id == get_or (ids_of bs) k 0)) as (λ _. is_some (broker_of (x ∷ bs) (get_or (ids_of (x ∷ bs)) (suc k) 0)) ≡ true) [
  | inl e ↦ rw e refl
  | inr e ↦ rw e (known-at bs k (omega arith))
]

-- a row's place is that of a broker
pub row-within-place : (c : Cluster) (rows : List Row) (k : ℕ) → map (λ (r : Row). r.id) rows ≡ ids_of c.brokers → k < length rows → k < length c.brokers
row-within-place c rows k e l = omega (arith, ap length e, length-map rows (λ (r : Row). r.id), length-map c.brokers (λ (x : Broker). x.id))
