-- Laws of turns and traces: one more action, one more turn, and what a turn leaves.
use Rattle.std.proofs.Common.{◌≡◌, ℕ, ◌+◌, ◌<◌, ◌≤◌, List, [], ◌∷◌, ◌++◌, length, refl, arith, append_assoc, append-nil, length-set}
use Rattle.std.specs.Prelude.{IsTrue}
use Rattle.std.specs.List.{All}
use Rattle.std.proofs.Common.{map, take, get_or}
use Rattle.std.proofs.lemmas.List.{take_all, length-map, get_or-map}
use Rattle.std.proofs.lemmas.List.Elements.{All-nil, All-map, All-more}
use Rattle.plan_terms.specs.Cluster.{Cluster, Lists}
use Rattle.plan_terms.specs.Effect.{after, after_all}
use Rattle.plan_terms.specs.Goal.{Meaning, Accepts, measure}
use Rattle.plan_terms.specs.Trace.{AllAccept, Step, Steps, Turn, after_turns, Turns}
use Rattle.plan_terms.specs.declared.actions.Action.{Action}
use Rattle.plan_terms.specs.declared.actions.Action.TheVariants.{Move, Lead, Swap}

-- no action makes or drops a list
pub length-after : (a : Action) (lists : Lists) → length (after a lists) ≡ length lists
length-after (Move p a b) lists = search length-set
length-after (Lead p b) lists = search length-set
length-after (Swap p a q b) lists = simp length-set

pub length-after_all : (as' : List Action) (lists : Lists) → length (after_all as' lists) ≡ length lists
length-after_all [] lists = refl
length-after_all (a ∷ as') lists = omega (arith, length-after_all as' (after a lists), length-after a lists)

pub after_all-push : (as' : List Action) (a : Action) (lists : Lists) → after_all (as' ++ a ∷ []) lists ≡ after a (after_all as' lists)
after_all-push [] a lists = refl
after_all-push (x ∷ as') a lists = after_all-push as' a (after x lists)

module _ (c : Cluster) (earlier : List Meaning) (goal : Meaning) where
  pub Steps-nil : (lists : Lists) → Steps c earlier goal lists []
  unfolding Steps
  Steps-nil lists = tt

  pub Steps-push : (as' : List Action) (a : Action) (lists : Lists) → Steps c earlier goal lists as' → Step c earlier goal (after_all as' lists) a → Steps c earlier goal lists (as' ++ a ∷ [])
  unfolding Steps
  Steps-push [] a lists h s = (s, tt)
  Steps-push (x ∷ as') a lists h s = (h.0, Steps-push as' a (after x lists) h.1 s)

  -- a turn makes the measure smaller by at least one for each action
  pub measure-Steps : (as' : List Action) (lists : Lists) → Steps c earlier goal lists as' → measure goal (after_all as' lists) + length as' ≤ measure goal lists
  unfolding Steps
  measure-Steps [] lists h = omega arith
  measure-Steps (a ∷ as') lists h = omega (arith, measure-Steps as' (after a lists) h.1, h.0.lessens)

  -- no earlier goal's unit is worse after the turn
  pub excess-Steps : (as' : List Action) (lists : Lists) → Steps c earlier goal lists as' → All (λ g. (u : ℕ) → u < g.units → g.excess (after_all as' lists) u ≤ g.excess lists u) earlier
  unfolding Steps
  excess-Steps [] lists h = λ k d l u m. omega arith
  excess-Steps (a ∷ as') lists h = λ k d l u m. omega (arith, excess-Steps as' (after a lists) h.1 k d l u m, (h.0.accepted.each k d l).no_unit_rises u m)

pub after_turns-push : (ts : List (List Action)) (t : List Action) (lists : Lists) → after_turns (ts ++ t ∷ []) lists ≡ after_all t (after_turns ts lists)
after_turns-push [] t lists = refl
after_turns-push (x ∷ ts) t lists = after_turns-push ts t (after_all x lists)

pub length-after_turns : (ts : List (List Action)) (lists : Lists) → length (after_turns ts lists) ≡ length lists
length-after_turns [] lists = refl
length-after_turns (t ∷ ts) lists = omega (arith, length-after_turns ts (after_all t lists), length-after_all t lists)

module _ (c : Cluster) where
  pub Turns-nil : (earlier : List Meaning) (lists : Lists) → Turns c earlier [] lists []
  unfolding Turns
  Turns-nil earlier lists = tt

  pub Turns-push : (earlier gs : List Meaning) (g : Meaning) (ts : List (List Action)) (t : List Action) (lists : Lists)
      → Turns c earlier gs lists ts
      → Turn c (earlier ++ gs) g (after_turns ts lists) t
      → (IsTrue g.hard → measure g (after_all t (after_turns ts lists)) ≡ 0)
      → Turns c earlier (gs ++ g ∷ []) lists (ts ++ t ∷ [])
  unfolding Turns
  Turns-push earlier [] g [] t lists h turn met = (rw append-nil at turn, met, tt)
  Turns-push earlier [] g (t' ∷ ts) t lists h turn met = absurd h
  Turns-push earlier (x ∷ gs) g [] t lists h turn met = absurd h
  Turns-push earlier (x ∷ gs) g (t' ∷ ts) t lists h turn met =
      (h.0, h.1, Turns-push (earlier ++ x ∷ []) gs g ts t (after_all t' lists) h.2 (rw append_assoc turn) met)

-- acceptance by the goals of a list so far
module _ {X : Type 0} (f : X → Meaning) (xs : List X) (lists : Lists) (a : Action) where
  pub AllAccept-none : AllAccept (map f (take 0 xs)) lists a
  AllAccept-none = record { each = All-nil (λ g. Accepts g lists a) }

  pub AllAccept-more : (i : ℕ) (d : X) → i < length xs → AllAccept (map f (take i xs)) lists a → Accepts (f (get_or xs i d)) lists a → AllAccept (map f (take (i + 1) xs)) lists a
  AllAccept-more i d l h k = record { each = All-map (λ g. Accepts g lists a) f (take (i + 1) xs) (All-more (λ x. Accepts (f x) lists a) xs i d l (from_map (take i xs) h.each) k) } where
    from_map : (ys : List X) → All (λ g. Accepts g lists a) (map f ys) → All (λ x. Accepts (f x) lists a) ys
    from_map ys h = λ k d l. rw (get_or-map f ys k d (f d) l) at (h k (f d) (rw (length-map ys f) l))

  pub AllAccept-all : (i : ℕ) → length xs ≤ i → AllAccept (map f (take i xs)) lists a → AllAccept (map f xs) lists a
  AllAccept-all i l h = rw (take_all i xs l) at h

  pub AllAccept-at : (i : ℕ) (d : X) → i < length xs → AllAccept (map f xs) lists a → Accepts (f (get_or xs i d)) lists a
  AllAccept-at i d l h = rw (get_or-map f xs i d (f d) l) at (h.each i (f d) (rw (length-map xs f) l))
