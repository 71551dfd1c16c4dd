-- Tests and places in a list of images, and an element by its place.
use Rattle.std.proofs.Common.{◌≡◌, ◌∙◌, ℕ, ◌≤◌, ◌+◌, Bool, true, false, cond, eqb, List, [], ◌∷◌, length, get_or, map, suc, zero, Some, None, refl, sym, ap, arith, slice_get, ◌||◌, not, nat_lt, position, inl, inr}
use Rattle.std.specs.List.{list_any, find, prefix_len, position_or_len}
use Rattle.std.proofs.lemmas.Bool.{cases_eq, eq-eqb, ltb-false, ne_eqb}
use Rattle.std.proofs.lemmas.List.{length-map}
use Rattle.std.proofs.lemmas.List.Folds.{find_at}
use Rattle.std.proofs.lemmas.List.Quantifiers.{position-Some}
use Rattle.std.proofs.lemmas.Option.{slice_get_read}

pub true_from_not : (b : Bool) → not b ≡ false → b ≡ true
true_from_not true h = refl
true_from_not false h = absurd cc

pub false_from_not : (b : Bool) → not b ≡ true → b ≡ false
false_from_not true h = absurd cc
false_from_not false h = refl

-- neither of two tests passes
pub or_parts : (a b : Bool) → (a || b) ≡ false → (a ≡ false) × (b ≡ false)
or_parts true b h = absurd cc
or_parts false b h = (refl, h)

module _ {X Y : Type 0} (p : Y → Bool) (f : X → Y) where
  pub list_any-map : (xs : List X) → list_any p (map f xs) ≡ list_any (λ x. p (f x)) xs
  list_any-map [] = refl
  list_any-map (x ∷ xs) = ap (λ b. p (f x) || b) (list_any-map xs)

  prefix_len-map : (xs : List X) → prefix_len (λ y. not (p y)) (map f xs) ≡ prefix_len (λ x. not (p (f x))) xs
  prefix_len-map [] = refl
  prefix_len-map (x ∷ xs) = ap (λ n. cond (not (p (f x))) (1 + n) 0) (prefix_len-map xs)

  pub position-map : (xs : List X) → position p (map f xs) ≡ position (λ x. p (f x)) xs
  position-map xs =
      ap (λ n. cond (nat_lt n (length (map f xs))) (Some n) None) (prefix_len-map xs)
      ∙ ap (λ m. cond (nat_lt (prefix_len (λ x. not (p (f x))) xs) m) (Some (prefix_len (λ x. not (p (f x))) xs)) None) (length-map xs f)

placed : (b : Bool) (n i : ℕ) → cond b (Some n) None ≡ Some i → n ≡ i
placed true n i h = cc
placed false n i h = absurd cc

unplaced : (b : Bool) (n : ℕ) → cond b (Some n) None ≡ None → b ≡ false
unplaced true n h = absurd cc
unplaced false n h = refl

slice_get-past : {X : Type 0} (xs : List X) (i : ℕ) → length xs ≤ i → slice_get xs i ≡ None
slice_get-past [] i h = refl
slice_get-past (x ∷ xs) zero h = absurd (omega arith)
slice_get-past (x ∷ xs) (suc i) h = slice_get-past xs i (omega arith)

module _ {X : Type 0} (p : X → Bool) (xs : List X) where
  -- the element at the first place that passes is the first that passes
  pub find-placed : (i : ℕ) (x : X) → position p xs ≡ Some i → x ≡ get_or xs i x → Some x ≡ find p xs
  find-placed i x e is =
      let at = position-Some p xs i x e in
      let there : slice_get xs i ≡ Some x = slice_get_read xs (length xs) i x refl at.0 is in
      sym (find_at p xs ∙ ap (slice_get xs) (placed (nat_lt (position_or_len p xs) (length xs)) (position_or_len p xs) i e) ∙ there)

  pub find-unplaced : position p xs ≡ None → None ≡ find p xs
  find-unplaced e =
      let past : length xs ≤ position_or_len p xs = ltb-false (position_or_len p xs) (length xs) (unplaced (nat_lt (position_or_len p xs) (length xs)) (position_or_len p xs) e) in
      sym (find_at p xs ∙ slice_get-past xs (position_or_len p xs) past)

-- a test of equality, turned round
pub eqb-turned : (a b : ℕ) → eqb a b ≡ eqb b a
eqb-turned a b = elim (cases_eq a b) as (λ _. eqb a b ≡ eqb b a) [ inl e ↦ eq-eqb a b e ∙ sym (eq-eqb b a (sym e)) | inr n ↦ ne_eqb a b n ∙ sym (ne_eqb b a (λ e. n (sym e))) ]

pub position-turned : {X : Type 0} (f : X → ℕ) (k : ℕ) (xs : List X) → position (λ x. eqb k (f x)) xs ≡ position (λ x. eqb (f x) k) xs
position-turned f k xs = let same : (λ x. eqb k (f x)) ≡ (λ x. eqb (f x) k) = (λ j x. eqb-turned k (f x) j) in ap (λ p. position p xs) same
