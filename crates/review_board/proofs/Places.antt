-- Events of a history at their places.
use Rattle.std.proofs.Common.{◌≡◌, ℕ, zero, suc, ◌<◌, List, [], ◌∷◌, length, take, ap, arith, refl, subst, inl, inr}
use Rattle.std.specs.Prelude.{◌⊎◌, Some, fold}
use Rattle.std.specs.List.{slice_get}
use Rattle.review_board.specs.Step.{next}
use Rattle.review_board.specs.declared.reviews.Review.{Review}
use Rattle.review_board.specs.declared.events.BoardEvent.{BoardEvent}

-- at this place of a history that goes on from these requests stands an event that does it
pub record DoesAt (Does : List Review → BoardEvent → Type 0) (s : List Review) (es : List BoardEvent) (place : ℕ) : Type 0 where
  pub event : BoardEvent
  pub there : slice_get es place ≡ Some event
  pub does : Does (fold next s (take place es)) event

-- what is done once, stays so and isn't done again was done at one place
module _ (Does : List Review → BoardEvent → Type 0) (IsDone : List Review → Type 0)
    (done : (s : List Review) (e : BoardEvent) → Does s e → IsDone (next s e))
    (stays : (s : List Review) (e : BoardEvent) → IsDone s → IsDone (next s e))
    (not_again : (s : List Review) (e : BoardEvent) → IsDone s → Does s e → ⊥) where
  stays_on : (es : List BoardEvent) (s : List Review) → IsDone s → IsDone (fold next s es)
  stays_on [] s h = h
  stays_on (e ∷ es) s h = stays_on es (next s e) (stays s e h)

  not_later : (es : List BoardEvent) (s : List Review) (j : ℕ) → IsDone s → DoesAt Does s es j → ⊥
  not_later es s j h a = not_again (fold next s (take j es)) a.event (stays_on (take j es) s h) a.does

  first_does : (e : BoardEvent) (es : List BoardEvent) (s : List Review) → DoesAt Does s (e ∷ es) 0 → IsDone (next s e)
  first_does e es s a =
      let is : a.event ≡ e = cc (a.there) in
      done s e (subst (λ x. Does s x) is a.does)

  behind : (e : BoardEvent) (es : List BoardEvent) (s : List Review) (j : ℕ) → DoesAt Does s (e ∷ es) (suc j) → DoesAt Does (next s e) es j
  behind e es s j a = record { event = a.event; there = a.there; does = a.does }

  pub once_from : (es : List BoardEvent) (s : List Review) (i j : ℕ) → DoesAt Does s es i → DoesAt Does s es j → i ≡ j
  once_from [] s i j a b = cc (a.there)
  once_from (e ∷ es) s zero zero a b = refl
  once_from (e ∷ es) s zero (suc j) a b = absurd (not_later es (next s e) j (first_does e es s a) (behind e es s j b))
  once_from (e ∷ es) s (suc i) zero a b = absurd (not_later es (next s e) i (first_does e es s b) (behind e es s i a))
  once_from (e ∷ es) s (suc i) (suc j) a b = ap suc (once_from es (next s e) i j (behind e es s i a) (behind e es s j b))

-- what holds behind a history held before it, or an event of it made it so
module _ (Does : List Review → BoardEvent → Type 0) (Holds : List Review → Type 0)
    (back : (s : List Review) (e : BoardEvent) → Holds (next s e) → Holds s ⊎ Does s e) where
  pub made_from : (es : List BoardEvent) (s : List Review) → Holds (fold next s es) → Holds s ⊎ ((i : ℕ) × (i < length es) × DoesAt Does s es i)
  made_from [] s h = inl h
  made_from (e ∷ es) s h = elim (made_from es (next s e) h) [
    | inl here ↦ elim (back s e here) [
      | inl before ↦ inl before
      | inr d ↦ inr (0, omega arith, record { event = e; there = refl; does = d })
    ]
    | inr w ↦
        let lt : w.0 < length es = w.1 in
        inr (suc w.0, omega arith, record { event = w.2.event; there = w.2.there; does = w.2.does })
  ]

-- ---- a place of a front of a history is one of the history

get_take : (h : List BoardEvent) (j i : ℕ) (e : BoardEvent) → slice_get (take j h) i ≡ Some e → slice_get h i ≡ Some e
get_take h zero i e p = cc
get_take [] (suc j) i e p = cc
get_take (x ∷ h) (suc j) zero e p = p
get_take (x ∷ h) (suc j) (suc i) e p = get_take h j i e p

take_take : (h : List BoardEvent) (j i : ℕ) → i < j → take i (take j h) ≡ take i h
take_take h zero i p = absurd (omega arith)
take_take h (suc j) zero p = refl
take_take [] (suc j) (suc i) p = refl
take_take (x ∷ h) (suc j) (suc i) p = ap (λ (t : List BoardEvent). x ∷ t) (take_take h j i (omega arith))

pub take_short : (h : List BoardEvent) (j i : ℕ) → i < length (take j h) → i < j
take_short h zero i p = absurd (omega arith)
take_short [] (suc j) i p = absurd (omega arith)
take_short (x ∷ h) (suc j) zero p = omega arith
take_short (x ∷ h) (suc j) (suc i) p = let lt : i < j = take_short h j i (omega arith) in omega arith

pub in_front : (Does : List Review → BoardEvent → Type 0) (s : List Review) (h : List BoardEvent) (j i : ℕ) → i < j → DoesAt Does s (take j h) i → DoesAt Does s h i
in_front Does s h j i lt a = record {
  event = a.event;
  there = get_take h j i a.event a.there;
  does = subst (λ (t : List BoardEvent). Does (fold next s t) a.event) (take_take h j i lt) a.does;
}
