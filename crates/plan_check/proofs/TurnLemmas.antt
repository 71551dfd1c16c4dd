-- What steps, turns and failures say of the place of one of them.
use Rattle.std.proofs.Common.{◌≡◌, ℕ, ◌+◌, List, [], ◌∷◌, ◌++◌, length, take, zero, suc, refl, arith, append_assoc, append-nil, inl, inr, subst}
use Rattle.std.specs.Prelude.{◌⊎◌, IsTrue, Some, slice_get}
use Rattle.std.proofs.lemmas.Option.{none-some, same_Some}
use Rattle.plan_terms.specs.Belongs.{Belongs}
use Rattle.plan_terms.specs.Cluster.{Cluster, Lists}
use Rattle.plan_terms.specs.Effect.{after, after_all}
use Rattle.plan_terms.specs.Goal.{Meaning, measure}
use Rattle.plan_terms.specs.Trace.{Step, Steps, Turn, Turns, Failed, after_turns}
use Rattle.plan_terms.specs.declared.actions.Action.{Action}
use Rattle.plan_terms.proofs.EffectLemmas.{Belongs-legal}

module _ (c : Cluster) where
  pub Steps-at : (earlier : List Meaning) (goal : Meaning) (lists : Lists) (as' : List Action) (i : ℕ) (a : Action)
      → Steps c earlier goal lists as' → slice_get as' i ≡ Some a → Step c earlier goal (after_all (take i as') lists) a
  unfolding Steps
  Steps-at earlier goal lists [] i a h e = absurd (none-some a e)
  Steps-at earlier goal lists (x ∷ as') zero a h e = subst (λ (y : Action). Step c earlier goal lists y) (same_Some x a e) h.0
  Steps-at earlier goal lists (x ∷ as') (suc i) a h e = Steps-at earlier goal (after x lists) as' i a h.1 e

  pub Belongs-Steps : (earlier : List Meaning) (goal : Meaning) (lists : Lists) (as' : List Action) → Belongs c lists → Steps c earlier goal lists as' → Belongs c (after_all as' lists)
  unfolding Steps
  Belongs-Steps earlier goal lists [] b h = b
  Belongs-Steps earlier goal lists (x ∷ as') b h = Belongs-Steps earlier goal (after x lists) as' (Belongs-legal c lists x b h.0.legal) h.1

  pub Belongs-Turns : (earlier gs : List Meaning) (lists : Lists) (ts : List (List Action)) → Belongs c lists → Turns c earlier gs lists ts → Belongs c (after_turns ts lists)
  unfolding Turns
  Belongs-Turns earlier [] lists [] b h = b
  Belongs-Turns earlier [] lists (t ∷ ts) b h = absurd h
  Belongs-Turns earlier (g ∷ gs) lists [] b h = absurd h
  Belongs-Turns earlier (g ∷ gs) lists (t ∷ ts) b h = Belongs-Turns (earlier ++ g ∷ []) gs (after_all t lists) ts (Belongs-Steps earlier g lists t b h.0.steps) h.2

  pub Turns-at : (earlier gs : List Meaning) (lists : Lists) (ts : List (List Action)) (n : ℕ) (g : Meaning) (t : List Action)
      → Turns c earlier gs lists ts → slice_get gs n ≡ Some g → slice_get ts n ≡ Some t
      → Turn c (earlier ++ take n gs) g (after_turns (take n ts) lists) t
      × (IsTrue g.hard → measure g (after_all t (after_turns (take n ts) lists)) ≡ 0)
  unfolding Turns
  Turns-at earlier [] lists ts n g t h e f = absurd (none-some g e)
  Turns-at earlier (x ∷ gs) lists [] n g t h e f = absurd (none-some t f)
  Turns-at earlier (x ∷ gs) lists (y ∷ ts) zero g t h e f =
      rw (append-nil, ← same_Some x g e, ← same_Some y t f) (h.0, h.1)
  Turns-at earlier (x ∷ gs) lists (y ∷ ts) (suc n) g t h e f =
      rw append_assoc at (Turns-at (earlier ++ x ∷ []) gs (after_all y lists) ts n g t h.2 e f)

  -- turns that are good up to a last one, whose goal may be broken at its end
  module _ (broken : Meaning) (untried : List Meaning) (last : List Action) where
    pub Failed-at : (earlier met : List Meaning) (lists : Lists) (done : List (List Action)) (n : ℕ) (g : Meaning) (t : List Action)
        → Turns c earlier met lists done → Turn c (earlier ++ met) broken (after_turns done lists) last
        → slice_get (met ++ broken ∷ untried) n ≡ Some g → slice_get (done ++ last ∷ []) n ≡ Some t
        → Turn c (earlier ++ take n (met ++ broken ∷ untried)) g (after_turns (take n (done ++ last ∷ [])) lists) t
        × ((IsTrue g.hard → measure g (after_all t (after_turns (take n (done ++ last ∷ [])) lists)) ≡ 0) ⊎ (n + 1 ≡ length (done ++ last ∷ [])))
    unfolding Turns
    Failed-at earlier [] lists [] zero g t h turn e f = rw (← same_Some broken g e, ← same_Some last t f) (turn, inr refl)
    Failed-at earlier [] lists [] (suc n) g t h turn e f = absurd (none-some t f)
    Failed-at earlier [] lists (y ∷ done) n g t h turn e f = absurd h
    Failed-at earlier (x ∷ met) lists [] n g t h turn e f = absurd h
    Failed-at earlier (x ∷ met) lists (y ∷ done) zero g t h turn e f =
        rw (append-nil, ← same_Some x g e, ← same_Some y t f) (h.0, inl h.1)
    Failed-at earlier (x ∷ met) lists (y ∷ done) (suc n) g t h turn e f =
        let deeper = Failed-at (earlier ++ x ∷ []) met (after_all y lists) done n g t h.2 (rw append_assoc turn) e f in
        (rw append_assoc at deeper.0, elim deeper.1 [ inl met' ↦ inl met' | inr end ↦ inr (omega arith) ])

    -- were the last one good too, its goal would be met
    pub Failed-met : (earlier met : List Meaning) (lists : Lists) (done : List (List Action)) (k : ℕ)
        → Turns c earlier met lists done → Turns c earlier (take k (met ++ broken ∷ untried)) lists (done ++ last ∷ [])
        → IsTrue broken.hard → measure broken (after_all last (after_turns done lists)) ≡ 0
    unfolding Turns
    Failed-met earlier [] lists [] zero h all hard = absurd all
    Failed-met earlier [] lists [] (suc k) h all hard = all.1 hard
    Failed-met earlier [] lists (y ∷ done) k h all hard = absurd h
    Failed-met earlier (x ∷ met) lists [] k h all hard = absurd h
    Failed-met earlier (x ∷ met) lists (y ∷ done) zero h all hard = absurd all
    Failed-met earlier (x ∷ met) lists (y ∷ done) (suc k) h all hard = Failed-met (earlier ++ x ∷ []) met (after_all y lists) done k h.2 all.2 hard

module _ (c : Cluster) (goals : List Meaning) (start : Lists) (turns : List (List Action)) (place left : ℕ) (f : Failed c goals start turns place left) where
  -- each turn of a failure is one of its goal, and it is the last one where its goal is hard and broken
  pub Failed-turn : (n : ℕ) (g : Meaning) (t : List Action) → slice_get goals n ≡ Some g → slice_get turns n ≡ Some t
      → Turn c (take n goals) g (after_turns (take n turns) start) t
      × ((IsTrue g.hard → measure g (after_all t (after_turns (take n turns) start)) ≡ 0) ⊎ (n + 1 ≡ length turns))
  Failed-turn n g t e h =
      rw (← f.goals_are, ← f.turns_are) at
      (Failed-at c f.broken f.untried f.last [] f.met start f.done n g t f.before f.turn (rw f.goals_are at e) (rw f.turns_are at h))

  -- not all turns of a failure are good ones
  pub Failed-all : (k : ℕ) → Turns c [] (take k goals) start turns → ⊥
  Failed-all k all =
      let met = Failed-met c f.broken f.untried f.last [] f.met start f.done k f.before (rw (f.goals_are, f.turns_are) at all) f.hard in
      absurd (omega (arith, met, f.left_is, f.above))
