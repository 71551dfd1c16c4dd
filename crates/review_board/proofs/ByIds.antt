-- Requests by their ids.
use Rattle.std.proofs.Common.{◌≡◌, ◌≢◌, ℕ, zero, suc, ◌+◌, ◌-◌, ◌<◌, ◌≤◌, List, [], ◌∷◌, ◌++◌, length, map, set, ap, arith, refl, ◌∙◌, inl, inr}
use Rattle.std.specs.Prelude.{◌⊎◌, Some, option_map}
use Rattle.std.specs.List.{enumerate_from, slice_get}
use Rattle.std.proofs.lemmas.List.{length-map}
use Rattle.std.proofs.lemmas.List.FromFn.{length-enumerate_from}
use Rattle.std.proofs.lemmas.Option.{slice_get_within}
use Rattle.review_board.specs.Reviews.{numbered, review_at, reviewed, reviewed_one, verdict, with_state}
use Rattle.review_board.specs.declared.reviews.Review.{Review}

-- the request of an id is one of them
pub id_within : (s : List Review) (id : ℕ) (r : Review) → review_at s id ≡ Some r → id ≤ length s
id_within s zero r h = cc
id_within s (suc k) r h = let lt : k < length s = slice_get_within s k r h in omega arith

-- one more
get_pushed : (s : List Review) (x : Review) (k : ℕ) → (slice_get (s ++ x ∷ []) k ≡ slice_get s k) ⊎ ((k ≡ length s) × (slice_get (s ++ x ∷ []) k ≡ Some x))
get_pushed [] x zero = inr (refl, refl)
get_pushed [] x (suc k) = inl refl
get_pushed (y ∷ s) x zero = inl refl
get_pushed (y ∷ s) x (suc k) = elim (get_pushed s x k) [ inl h ↦ inl h | inr p ↦ inr (ap suc p.0, p.1) ]

pub pushed_at : (s : List Review) (x : Review) (id : ℕ) → (review_at (s ++ x ∷ []) id ≡ review_at s id) ⊎ ((id ≡ length s + 1) × (review_at (s ++ x ∷ []) id ≡ Some x))
pushed_at s x zero = inl refl
pushed_at s x (suc k) = elim (get_pushed s x k) [
  | inl h ↦ inl h
  | inr p ↦ let at : k ≡ length s = p.0 in inr (omega arith, p.1)
]

-- one that is set
get_set : (s : List Review) (k : ℕ) (r x : Review) → slice_get s k ≡ Some x → slice_get (set s k r) k ≡ Some r
get_set [] k r x h = cc
get_set (y ∷ s) zero r x h = refl
get_set (y ∷ s) (suc k) r x h = get_set s k r x h

get_unset : (s : List Review) (k m : ℕ) (r : Review) → m ≢ k → slice_get (set s k r) m ≡ slice_get s m
get_unset [] k m r n = refl
get_unset (y ∷ s) zero zero r n = absurd (n refl)
get_unset (y ∷ s) zero (suc m) r n = refl
get_unset (y ∷ s) (suc k) zero r n = refl
get_unset (y ∷ s) (suc k) (suc m) r n = get_unset s k m r (λ e. n (ap suc e))

pub set_at : (s : List Review) (id : ℕ) (r x : Review) → review_at s id ≡ Some x → review_at (set s (id - 1) r) id ≡ Some r
set_at s zero r x h = cc
set_at s (suc k) r x h = let place : suc k - 1 ≡ k = omega arith in rw place (get_set s k r x h)

pub unset_at : (s : List Review) (it id : ℕ) (r x : Review) → review_at s it ≡ Some x → id ≢ it → review_at (set s (it - 1) r) id ≡ review_at s id
unset_at s zero id r x h n = cc
unset_at s (suc k) zero r x h n = refl
unset_at s (suc k) (suc m) r x h n = let place : suc k - 1 ≡ k = omega arith in rw place (get_unset s k m r (λ e. n (ap suc e)))

-- all, behind a review
module _ (approve discard : List ℕ) where
  get_reviewed : (s : List Review) (n k id : ℕ) → id ≡ n + k
      → slice_get (map (reviewed_one approve discard) (enumerate_from n s)) k ≡ option_map (λ r. with_state r (verdict approve discard id r.state)) (slice_get s k)
  get_reviewed [] n k id e = refl
  get_reviewed (r ∷ s) n zero id e = let h : n ≡ id = omega arith in ap (λ j. Some (with_state r (verdict approve discard j r.state))) h
  get_reviewed (r ∷ s) n (suc k) id e = get_reviewed s (n + 1) k id (omega arith)

  pub reviewed_at : (s : List Review) (id : ℕ)
      → review_at (reviewed approve discard s) id ≡ option_map (λ r. with_state r (verdict approve discard id r.state)) (review_at s id)
  reviewed_at s zero = refl
  reviewed_at s (suc k) = get_reviewed s 1 k (suc k) (omega arith)

  pub length-reviewed : (s : List Review) → length (reviewed approve discard s) ≡ length s
  length-reviewed s = length-map (numbered s) (reviewed_one approve discard) ∙ length-enumerate_from 1 s
