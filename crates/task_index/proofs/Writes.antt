-- A flag is put up or down in a tree of flags, and then one in each level above.
use Rattle.std.proofs.Common.{◌≡◌, ◌≢◌, ℕ, ◌+◌, ◌-◌, ◌*◌, ◌/◌, ◌<◌, ◌≤◌, Bool, false, List, [], set, length, get_or, arith, refl, sym, ap, ◌∙◌, ◌⊎◌, inl, inr}
use Rattle.std.proofs.lemmas.Bool.{cases_eq}
use Rattle.std.proofs.lemmas.List.{length-set, get_or-set_same, get_or-set_other}
use Rattle.task_index.specs.Trees.{level_at, flag_at, pair_at, AreLevels}

-- the levels with a flag put at a place of one level
abbrev pub put_at : List (List Bool) → ℕ → ℕ → Bool → List (List Bool)
put_at levels h p b = set levels h (set (level_at levels h) p b)

module _ (levels : List (List Bool)) (h p : ℕ) (b : Bool) (known : h < length levels) where
  level-same : level_at (put_at levels h p b) h ≡ set (level_at levels h) p b
  level-same = get_or-set_same levels h (set (level_at levels h) p b) [] known

  level-other : (g : ℕ) → g ≢ h → level_at (put_at levels h p b) g ≡ level_at levels g
  level-other g other = get_or-set_other levels h g (set (level_at levels h) p b) [] other

  length-level : (g : ℕ) → length (level_at (put_at levels h p b) g) ≡ length (level_at levels g)
  length-level g = by (cases_eq g h) where
    by : (g ≡ h) ⊎ (g ≡ h → ⊥) → length (level_at (put_at levels h p b) g) ≡ length (level_at levels g)
    by (inl same) = rw (same, level-same) (length-set (level_at levels h) p b)
    by (inr other) = ap length (level-other g other)

  flag-here : p < length (level_at levels h) → flag_at (put_at levels h p b) h p ≡ b
  flag-here within = rw level-same (get_or-set_same (level_at levels h) p b false within)

  flag-beside : (k : ℕ) → k ≢ p → flag_at (put_at levels h p b) h k ≡ flag_at levels h k
  flag-beside k other = rw level-same (get_or-set_other (level_at levels h) p k b false other)

  flag-other : (g k : ℕ) → g ≢ h → flag_at (put_at levels h p b) g k ≡ flag_at levels g k
  flag-other g k other = ap (λ (level : List Bool). get_or level k false) (level-other g other)

  pair-other : (g k : ℕ) → g ≢ h → pair_at (put_at levels h p b) g k ≡ pair_at levels g k
  pair-other g k other = rw (flag-other g (2 * k) other, flag-other g (2 * k + 1) other) refl

  pair-beside : (k : ℕ) → k ≢ p / 2 → pair_at (put_at levels h p b) h k ≡ pair_at levels h k
  pair-beside k other = rw (flag-beside (2 * k) (λ e. other (omega arith)), flag-beside (2 * k + 1) (λ e. other (omega arith))) refl

-- the flags were put in the levels up to a height, the last at a place; what is above it is still to be put
pub record ArePut (old : List (List Bool)) (place : ℕ) (flag : Bool) (height at : ℕ) (levels : List (List Bool)) : Type 0 where
  pub same : length levels ≡ length old
  pub lengths : (g : ℕ) → length (level_at levels g) ≡ length (level_at old g)
  pub flags : level_at levels 0 ≡ set (level_at old 0) place flag
  pub within : at < length (level_at levels height)
  pub pairs : (g k : ℕ) → g + 1 < length levels → ((g ≡ height) → (k ≡ at / 2) → ⊥) → flag_at levels (g + 1) k ≡ pair_at levels g k

pub put-start : (old : List (List Bool)) (place : ℕ) (flag : Bool) → AreLevels old → place < length (level_at old 0) → ArePut old place flag 0 place (put_at old 0 place flag)
put-start old place flag l within = record {
  same = length-set old 0 (set (level_at old 0) place flag);
  lengths = length-level old 0 place flag l.some;
  flags = level-same old 0 place flag l.some;
  within = rw (length-level old 0 place flag l.some 0) within;
  pairs = λ g k below other. by g k (rw length-set at below) other (cases_eq g 0);
} where
  by : (g k : ℕ) → g + 1 < length old → ((g ≡ 0) → (k ≡ place / 2) → ⊥) → (g ≡ 0) ⊎ (g ≡ 0 → ⊥) → flag_at (put_at old 0 place flag) (g + 1) k ≡ pair_at (put_at old 0 place flag) g k
  by g k below other (inl same) = flag-other old 0 place flag l.some (g + 1) k (λ e. omega arith) ∙ l.pairs g k below ∙ sym (rw same (pair-beside old 0 place flag l.some k (λ e. other same e)))
  by g k below other (inr apart) = flag-other old 0 place flag l.some (g + 1) k (λ e. omega arith) ∙ l.pairs g k below ∙ sym (pair-other old 0 place flag l.some g k apart)

pub put-step : (old : List (List Bool)) (place : ℕ) (flag : Bool) (height at : ℕ) (levels : List (List Bool)) (b : Bool) → AreLevels old → height + 1 < length levels
    → b ≡ pair_at levels height (at / 2) → ArePut old place flag height at levels → ArePut old place flag (height + 1) (at / 2) (put_at levels (height + 1) (at / 2) b)
put-step old place flag height at levels b l more is a = record {
  same = length-set levels (height + 1) (set (level_at levels (height + 1)) (at / 2) b) ∙ a.same;
  lengths = λ g. length-level levels (height + 1) (at / 2) b more g ∙ a.lengths g;
  flags = level-other levels (height + 1) (at / 2) b more 0 (λ e. omega arith) ∙ a.flags;
  within = rw (length-level levels (height + 1) (at / 2) b more (height + 1)) within;
  pairs = λ g k below other. by g k (rw length-set at below) other (cases_eq g height) (cases_eq g (height + 1)) (cases_eq k (at / 2));
} where
  within : at / 2 < length (level_at levels (height + 1))
  within = rw (a.lengths (height + 1)) (l.wide height at (rw (← a.same) more) (rw (← a.lengths height) a.within))

  by : (g k : ℕ) → g + 1 < length levels → ((g ≡ height + 1) → (k ≡ at / 2 / 2) → ⊥) → (g ≡ height) ⊎ (g ≡ height → ⊥) → (g ≡ height + 1) ⊎ (g ≡ height + 1 → ⊥) → (k ≡ at / 2) ⊎ (k ≡ at / 2 → ⊥)
      → flag_at (put_at levels (height + 1) (at / 2) b) (g + 1) k ≡ pair_at (put_at levels (height + 1) (at / 2) b) g k
  by g k below other (inl same) next (inl here) = rw (same, here) (flag-here levels (height + 1) (at / 2) b more within ∙ is ∙ sym (pair-other levels (height + 1) (at / 2) b more height (at / 2) (λ e. omega arith)))
  by g k below other (inl same) next (inr apart) =
      rw same (flag-beside levels (height + 1) (at / 2) b more k apart ∙ a.pairs height k more (λ _ e. apart e) ∙ sym (pair-other levels (height + 1) (at / 2) b more height k (λ e. omega arith)))
  by g k below other (inr apart) (inl same) place' =
      flag-other levels (height + 1) (at / 2) b more (g + 1) k (λ e. omega arith) ∙ a.pairs g k below (λ e _. apart e)
      ∙ sym (rw same (pair-beside levels (height + 1) (at / 2) b more k (λ e. other same e)))
  by g k below other (inr apart) (inr next) place' =
      flag-other levels (height + 1) (at / 2) b more (g + 1) k (λ e. apart (omega arith)) ∙ a.pairs g k below (λ e _. apart e) ∙ sym (pair-other levels (height + 1) (at / 2) b more g k next)

pub put-end : (old : List (List Bool)) (place : ℕ) (flag : Bool) (height at : ℕ) (levels : List (List Bool)) → AreLevels old → length levels ≤ height + 1 → ArePut old place flag height at levels → AreLevels levels
put-end old place flag height at levels l over a = record {
  some = rw a.same l.some;
  few = λ g. rw (a.lengths g) (l.few g);
  wide = λ g k below within. rw (a.lengths (g + 1)) (l.wide g k (rw (← a.same) below) (rw (← a.lengths g) within));
  pairs = λ g k below. a.pairs g k below (λ e _. absurd (omega arith));
  top = rw (a.same, a.lengths (length old - 1)) l.top;
}
