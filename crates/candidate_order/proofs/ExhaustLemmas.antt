-- What is remembered of candidates stays true.
use Rattle.std.specs.Prelude.{◌==◌, ◌&&◌, ◌||◌, IsTrue, ◌↔◌}
use Rattle.std.proofs.Common.{◌≡◌, ℕ, ◌<◌, ◌≤◌, Bool, true, false, List, cond, refl, ap, ◌∙◌, sym, arith, inl, inr, eq-eqb}
use Rattle.std.specs.List.{All}
use Rattle.std.proofs.lemmas.Bool.{true≢false, false≢true, cases_Bool, and_parts, or_left, or_right}
use Rattle.plan_terms.specs.Cluster.{Cluster, Lists, has}
use Rattle.plan_terms.specs.Effect.{after}
use Rattle.plan_terms.specs.Fits.{fits}
use Rattle.plan_terms.specs.Goal.{Meaning}
use Rattle.plan_terms.specs.Trace.{Step}
use Rattle.plan_terms.specs.declared.actions.Action.{Action}
use Rattle.plan_terms.proofs.EffectLemmas.{fits-legal}
use Rattle.goal_terms.specs.Pairs.{giver, taker, touches}
use Rattle.goal_terms.specs.Verdicts.{AreApart, HaveOtherParts, VerdictsStay}
use Rattle.goal_terms.proofs.VerdictLemmas.{lists-after, giver-same, legal-same}
use Rattle.candidate_order.specs.Exhausted.{Stamps, IsUntouched, AreExhausted, AreBefore, touched, passed, kind_of, is_kind}
use Rattle.candidate_order.specs.declared.kinds.Kind.{Kind}
use Rattle.candidate_order.specs.declared.kinds.Kind.TheVariants.{Moves, Leads, Swaps}

module _ (c : Cluster) (earlier : List Meaning) (goal : Meaning) (lists : Lists) (accept : All (λ g. VerdictsStay g lists) earlier) (lessen : VerdictsStay goal lists)
    (x : Action) (fit : fits lists x ≡ true) where
  -- an action that is a step is one after another that is apart from it
  pub step-stays : (y : Action) → AreApart lists x y → Step c earlier goal lists y → Step c earlier goal (after x lists) y
  step-stays y apart s =
      let fit' = fits-legal c lists y s.legal in
      record {
        legal = legal-same c lists (after x lists) y (lists-after lists x y apart.parts) ∙ s.legal;
        accepted = record { each = λ k d l. ((accept k d l).stay x y fit fit' apart).accepts.0 (s.accepted.each k d l) };
        lessens = (lessen.stay x y fit fit' apart).lessens.0 s.lessens;
      }

  -- and it was one
  pub step-was : (y : Action) → AreApart lists x y → Step c earlier goal (after x lists) y → Step c earlier goal lists y
  step-was y apart s =
      let legal = sym (legal-same c lists (after x lists) y (lists-after lists x y apart.parts)) ∙ s.legal in
      let fit' = fits-legal c lists y legal in
      record {
        legal = legal;
        accepted = record { each = λ k d l. ((accept k d l).stay x y fit fit' apart).accepts.1 (s.accepted.each k d l) };
        lessens = (lessen.stay x y fit fit' apart).lessens.1 s.lessens;
      }

-- a time that was before another one isn't that of a touch
kept-time : (t : Bool) (time old until : ℕ) → until ≤ time → cond t time old < until → (t ≡ false) × (old < until)
kept-time true time old until h l = absurd (omega arith)
kept-time false time old until h l = (refl, l)

-- neither of two
neither : (s t : Bool) → (s || t) ≡ false → (s ≡ false) × (t ≡ false)
neither false t h = (refl, h)
neither true t h = absurd (true≢false h)

not-equal : (k n : ℕ) → (k == n) ≡ false → k ≡ n → ⊥
not-equal k n h e = true≢false (sym (eq-eqb k n e) ∙ h)

module _ (c : Cluster) (earlier : List Meaning) (goal : Meaning) (lists : Lists) (st : Stamps) (time : ℕ) where
  pub exhausted-after : (x : Action) → All (λ g. VerdictsStay g lists) earlier → VerdictsStay goal lists → fits lists x ≡ true → AreBefore st time
      → AreExhausted st (Step c earlier goal lists) lists → AreExhausted (touched st lists x time) (Step c earlier goal (after x lists)) (after x lists)
  exhausted-after x accept lessen fit before was = record { none = none } where
    none : (y : Action) → IsUntouched (touched st lists x time) (after x lists) y (st.row (kind_of y) (giver (after x lists) y)) → Step c earlier goal (after x lists) y → ⊥
    none y free s =
        let until : ℕ = st.row (kind_of y) (giver (after x lists) y) in
        let limit : until ≤ time = before.rows (kind_of y) (giver (after x lists) y) in
        let parts = λ (p : ℕ) (h : touches (λ q. q == p) y ≡ true). kept-time (touches (λ q. q == p) x) time (st.part p) until limit (free.parts p h) in
        let other : HaveOtherParts x y = record { none = λ p h. (parts p h).0 } in
        let same : giver (after x lists) y ≡ giver lists y = giver-same lists (after x lists) y (lists-after lists x y other) in
        let from = rw same at (kept-time (giver (after x lists) y == giver lists x || giver (after x lists) y == taker x) time (st.broker (giver (after x lists) y)) until limit free.from) in
        let to = kept-time (taker y == giver lists x || taker y == taker x) time (st.broker (taker y)) until limit free.to in
        let not_from = neither _ _ from.0 in
        let not_to = neither _ _ to.0 in
        let apart : AreApart lists x y = record {
          from = record { gives = not-equal _ _ not_from.0; takes = not-equal _ _ not_from.1 };
          to = record { gives = not-equal _ _ not_to.0; takes = not-equal _ _ not_to.1 };
          parts = other;
        } in
        was.none y (record { from = from.1; to = rw same at to.1; parts = λ p h. rw same at (parts p h).1 })
        (step-was c earlier goal lists accept lessen x fit y apart s)

  pub same-kind : (k l : Kind) → is_kind k l ≡ true → l ≡ k
  same-kind Moves Moves h = refl
  same-kind Leads Leads h = refl
  same-kind Swaps Swaps h = refl
  same-kind Moves Leads h = absurd (false≢true h)
  same-kind Moves Swaps h = absurd (false≢true h)
  same-kind Leads Moves h = absurd (false≢true h)
  same-kind Leads Swaps h = absurd (false≢true h)
  same-kind Swaps Moves h = absurd (false≢true h)
  same-kind Swaps Leads h = absurd (false≢true h)

  pub exhausted-more : (kind : Kind) (ids : List ℕ) → ((y : Action) → kind_of y ≡ kind → has ids (giver lists y) ≡ true → Step c earlier goal lists y → ⊥)
      → AreExhausted st (Step c earlier goal lists) lists → AreExhausted (passed st kind ids time) (Step c earlier goal lists) lists
  exhausted-more kind ids found was = record { none = λ y free s. by y s (is_kind kind (kind_of y) && has ids (giver lists y)) refl free.from free.to free.parts } where
    by : (y : Action) → Step c earlier goal lists y → (t : Bool) → (is_kind kind (kind_of y) && has ids (giver lists y)) ≡ t
        → st.broker (giver lists y) < cond t time (st.row (kind_of y) (giver lists y))
        → st.broker (taker y) < cond t time (st.row (kind_of y) (giver lists y))
        → ((p : ℕ) → touches (λ q. q == p) y ≡ true → st.part p < cond t time (st.row (kind_of y) (giver lists y))) → ⊥
    by y s true e from to parts = let both = and_parts _ _ e in found y (same-kind kind (kind_of y) both.0) both.1 s
    by y s false e from to parts = was.none y (record { from = from; to = to; parts = parts }) s

  pub before-passed : AreBefore st time → (kind : Kind) (ids : List ℕ) → AreBefore (passed st kind ids time) time
  before-passed before kind ids = record { rows = λ k b. by k b (is_kind kind k && has ids b) } where
    by : (k : Kind) (b : ℕ) (t : Bool) → cond t time (st.row k b) ≤ time
    by k b true = omega arith
    by k b false = before.rows k b
