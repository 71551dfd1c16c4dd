-- Partitions whose actions may help.
use Rattle.std.specs.Prelude.{◌==◌, IsTrue}
use Rattle.std.proofs.Common.{◌≡◌, ℕ, ◌+◌, ◌<◌, Bool, true, false, List, [], ◌∷◌, ◌++◌, length, get_or, refl, ap, ◌∙◌, sym, arith, inl, inr, eq-eqb}
use Rattle.std.specs.List.{filter}
use Rattle.std.proofs.lemmas.List.Elements.{filter_passes}
use Rattle.std.proofs.lemmas.Bool.{cases_Bool, cases_eq, ne_eqb, false≢true, or_right}
use Rattle.plan_terms.proofs.EffectLemmas.{fits-legal, fits-Move, fits-Lead, fits-Swap}
use Rattle.plan_terms.specs.Cluster.{Cluster, Lists, has}
use Rattle.plan_terms.specs.Fits.{fits}
use Rattle.plan_terms.specs.Goal.{Meaning}
use Rattle.plan_terms.specs.Legal.{is_legal, candidates, all_actions}
use Rattle.plan_terms.specs.Trace.{NoneLeft}
use Rattle.plan_terms.specs.declared.actions.Action.{Action}
use Rattle.plan_terms.specs.declared.actions.Action.TheVariants.{Move, Lead, Swap}
use Rattle.goal_terms.specs.Pairs.{touches, StillParts}

pub has-push : (xs : List ℕ) (p : ℕ) → has (xs ++ p ∷ []) p ≡ true
has-push [] p = rw (eq-eqb p p refl) refl
has-push (x ∷ xs) p = or_right (x == p) (has (xs ++ p ∷ []) p) (has-push xs p)

pub has-more : (xs : List ℕ) (p q : ℕ) → has xs q ≡ true → has (xs ++ p ∷ []) q ≡ true
has-more [] p q h = absurd (false≢true h)
has-more (x ∷ xs) p q h = elim (cases_eq x q) as (λ _. has ((x ∷ xs) ++ p ∷ []) q ≡ true) [
  | inl e ↦ rw (eq-eqb x q e) refl
  | inr n ↦ rw (ne_eqb x q n) (has-more xs p q (rw (ne_eqb x q n) at h))
]

-- those below one number more
module _ (stirs : ℕ → Bool) (p : ℕ) (xs : List ℕ) (each : (q : ℕ) → q < p → stirs q ≡ true → has xs q ≡ true) where
  pub each-more : (q : ℕ) → q < p + 1 → stirs q ≡ true → has (xs ++ p ∷ []) q ≡ true
  each-more q l s = elim (cases_eq q p) as (λ _. has (xs ++ p ∷ []) q ≡ true) [
    | inl e ↦ rw e (has-push xs p)
    | inr n ↦ has-more xs p q (each q (omega arith) s)
  ]

  pub each-still : stirs p ≡ false → (q : ℕ) → q < p + 1 → stirs q ≡ true → has xs q ≡ true
  each-still f q l s = elim (cases_eq q p) as (λ _. has xs q ≡ true) [
    | inl e ↦ absurd (false≢true (sym f ∙ ap stirs (sym e) ∙ s))
    | inr n ↦ each q (omega arith) s
  ]

-- where none is among the stirring ones, none stirs
pub none-stirs : (stirs : ℕ → Bool) (n : ℕ) (xs : List ℕ) → length xs ≡ 0 → ((p : ℕ) → p < n → stirs p ≡ true → has xs p ≡ true) → (p : ℕ) → p < n → stirs p ≡ false
none-stirs stirs n [] e each p l = elim (cases_Bool (stirs p)) as (λ _. stirs p ≡ false) [
  | inl t ↦ absurd (false≢true (each p l t))
  | inr f ↦ f
]
none-stirs stirs n (x ∷ xs) e each p l = absurd (omega arith)

-- an action touches none of them
untouched : (lists : Lists) (stirs : ℕ → Bool) (a : Action) → IsTrue (fits lists a) → ((p : ℕ) → p < length lists → stirs p ≡ false) → touches stirs a ≡ false
untouched lists stirs (Move p a b) fit all = all p (fits-Move lists p a b fit).within
untouched lists stirs (Lead p b) fit all = all p (fits-Lead lists p b fit).within
untouched lists stirs (Swap p a q b) fit all = let swap = fits-Swap lists p a q b fit in rw (all p swap.first, all q swap.second) refl

-- where no partition stirs none is left
pub none-still : (c : Cluster) (lists : Lists) (m : Meaning) (stirs : ℕ → Bool) → StillParts m stirs lists → ((p : ℕ) → p < length lists → stirs p ≡ false)
    → (earlier : List Meaning) → NoneLeft c earlier m lists
unfolding all_actions
none-still c lists m stirs still all earlier = record {
  none = λ k a l.
      let legal = filter_passes (is_legal c lists) (candidates c.brokers (length lists)) k a l in
      let x = get_or (filter (is_legal c lists) (candidates c.brokers (length lists))) k a in
      record { fails = λ _ less. still.none x (fits-legal c lists x legal) (untouched lists stirs x (fits-legal c lists x legal) all) less };
}
