-- The levels of a tree with no flag up, as they are made.
use Rattle.std.proofs.Common.{◌≡◌, ℕ, ◌+◌, ◌-◌, ◌*◌, ◌/◌, ◌<◌, ◌≤◌, Bool, false, List, [], ◌∷◌, ◌++◌, length, get_or, replicate, arith, refl, sym, ◌∙◌, ◌⊎◌, inl, inr, zero, suc}
use Rattle.std.proofs.lemmas.Bool.{cases_eq, cases_lt}
use Rattle.std.proofs.lemmas.List.{get_or_past, get_or_append_left, get_or_push, length_push, length-replicate, get_or-replicate}
use Rattle.task_index.specs.Trees.{level_at, flag_at, AreLevels}

-- so many levels are made, the last of this width, and no flag is up
pub record AreMade (flags width : ℕ) (levels : List (List Bool)) : Type 0 where
  pub some : 0 < length levels
  pub few : (h : ℕ) → length (level_at levels h) < 4294967296
  pub wide : (h p : ℕ) → h + 1 < length levels → p < length (level_at levels h) → p / 2 < length (level_at levels (h + 1))
  pub none : (h k : ℕ) → flag_at levels h k ≡ false
  pub last : length (level_at levels (length levels - 1)) ≡ width
  pub flags_are : level_at levels 0 ≡ replicate flags false

down : (n k : ℕ) → get_or (replicate n false) k false ≡ false
down n k = by (cases_lt k n) where
  by : (k < n) ⊎ (n ≤ k) → get_or (replicate n false) k false ≡ false
  by (inl h) = get_or-replicate n k false false h
  by (inr h) = get_or_past (replicate n false) k false (omega (arith, length-replicate n false))

-- what the levels are at a height, with one more
module _ (levels : List (List Bool)) (level : List Bool) where
  pub at-below : (h : ℕ) → h < length levels → level_at (levels ++ level ∷ []) h ≡ level_at levels h
  at-below h less = get_or_append_left levels (level ∷ []) [] h less

  pub at-end : (h : ℕ) → h ≡ length levels → level_at (levels ++ level ∷ []) h ≡ level
  at-end h same = get_or_push levels level [] h (sym same)

  pub at-past : (h : ℕ) → length levels < h → level_at (levels ++ level ∷ []) h ≡ []
  at-past h past = get_or_past (levels ++ level ∷ []) h [] (omega (arith, length_push levels level))

  -- what holds of each old level, the new one and the empty one holds of each
  at-each : (P : List Bool → Type 0) → ((h : ℕ) → P (level_at levels h)) → P level → P [] → (h : ℕ) → P (level_at (levels ++ level ∷ []) h)
  at-each P old new none h = by (cases_lt h (length levels)) (cases_eq h (length levels)) where
    by : (h < length levels) ⊎ (length levels ≤ h) → (h ≡ length levels) ⊎ (h ≡ length levels → ⊥) → P (level_at (levels ++ level ∷ []) h)
    by (inl less) c = rw (at-below h less) (old h)
    by (inr over) (inl same) = rw (at-end h same) new
    by (inr over) (inr other) = rw (at-past h (omega arith)) none

pub made-first : (flags : ℕ) → flags < 4294967296 → AreMade flags flags (replicate flags false ∷ [])
made-first flags small = record {
  some = omega arith;
  few = λ h. few h;
  wide = λ h p more _. absurd (omega arith);
  none = λ h k. none h k;
  last = length-replicate flags false;
  flags_are = refl;
} where
  few : (h : ℕ) → length (level_at (replicate flags false ∷ []) h) < 4294967296
  few zero = omega (arith, length-replicate flags false)
  few (suc h) = omega arith

  none : (h k : ℕ) → flag_at (replicate flags false ∷ []) h k ≡ false
  none zero k = down flags k
  none (suc h) k = refl

pub made-more : (flags width width' : ℕ) (levels : List (List Bool)) → 1 < width → width' ≡ (width + 1) / 2 → AreMade flags width levels → AreMade flags width' (levels ++ replicate width' false ∷ [])
made-more flags width width' levels many half m = record {
  some = omega (arith, length_push levels (replicate width' false));
  few = at-each levels (replicate width' false) (λ level. length level < 4294967296) m.few (omega (arith, length-replicate width' false, m.few (length levels - 1), m.last)) (omega arith);
  wide = λ h p more within. wide h p (omega (arith, length_push levels (replicate width' false))) within (cases_eq (h + 1) (length levels));
  none = λ h k. at-each levels (replicate width' false) (λ level. get_or level k false ≡ false) (λ g. m.none g k) (down width' k) refl h;
  last = rw (length_push, at-end levels (replicate width' false) (length levels + 1 - 1) (omega arith)) (length-replicate width' false);
  flags_are = at-below levels (replicate width' false) 0 m.some ∙ m.flags_are;
} where
  wide : (h p : ℕ) → h < length levels → p < length (level_at (levels ++ replicate width' false ∷ []) h) → (h + 1 ≡ length levels) ⊎ (h + 1 ≡ length levels → ⊥)
      → p / 2 < length (level_at (levels ++ replicate width' false ∷ []) (h + 1))
  wide h p more within (inl same) =
      let here : h ≡ length levels - 1 = omega arith in
      let l : p < width = rw (at-below levels (replicate width' false) h more, here, m.last) at within in
      rw (at-end levels (replicate width' false) (h + 1) same, length-replicate) (omega arith)
  wide h p more within (inr other) =
      let next : h + 1 < length levels = omega arith in
      rw (at-below levels (replicate width' false) (h + 1) next) (m.wide h p next (rw (at-below levels (replicate width' false) h more) at within))

pub made-all : (flags width : ℕ) (levels : List (List Bool)) → width ≤ 1 → AreMade flags width levels → AreLevels levels
made-all flags width levels one m = record {
  some = m.some;
  few = m.few;
  wide = m.wide;
  pairs = λ h k more. rw (m.none (h + 1) k, m.none h (2 * k), m.none h (2 * k + 1)) refl;
  top = rw m.last one;
}
