-- The first flag that is up in a tree of flags.
use Rattle.std.proofs.Common.{◌≡◌, ℕ, ◌+◌, ◌-◌, ◌*◌, ◌/◌, ◌%◌, ◌<◌, ◌≤◌, Bool, true, false, ◌||◌, cond, List, length, arith, refl, sym, ap, ◌∙◌, ◌⊎◌, inl, inr, zero, suc, Some, None, position}
use Rattle.std.specs.Prelude.{nat_lt}
use Rattle.std.specs.List.{position_or_len}
use Rattle.std.proofs.lemmas.Bool.{cases_eq, cases_lt, or_parts, true≢false, lt-ltb, le-ltb}
use Rattle.std.proofs.lemmas.List.{get_or_past}
use Rattle.std.proofs.lemmas.List.Sums.{position_or_len_is}
use Rattle.task_index.specs.Trees.{level_at, flag_at, AreLevels}

-- the flag is up, and none before it is
pub record IsFirst (levels : List (List Bool)) (h place : ℕ) : Type 0 where
  pub up : flag_at levels h place ≡ true
  pub none : (k : ℕ) → k < place → flag_at levels h k ≡ false

-- neither flag is up below one that is down
below : (levels : List (List Bool)) (h k : ℕ) → AreLevels levels → h + 1 < length levels → flag_at levels (h + 1) (k / 2) ≡ false → flag_at levels h k ≡ false
below levels h k l more down = by (cases_eq (k % 2) 0) where
  both : (flag_at levels h (2 * (k / 2)) ≡ false) × (flag_at levels h (2 * (k / 2) + 1) ≡ false)
  both = or_parts _ _ (sym (l.pairs h (k / 2) more) ∙ down)

  by : (k % 2 ≡ 0) ⊎ (k % 2 ≡ 0 → ⊥) → flag_at levels h k ≡ false
  by (inl even) = let e : k ≡ 2 * (k / 2) = omega arith in ap (flag_at levels h) e ∙ both.0
  by (inr odd) = let e : k ≡ 2 * (k / 2) + 1 = omega arith in ap (flag_at levels h) e ∙ both.1

pub first-step : (levels : List (List Bool)) (h place : ℕ) → AreLevels levels → h + 1 < length levels → IsFirst levels (h + 1) place
    → IsFirst levels h (cond (flag_at levels h (2 * place)) (2 * place) (2 * place + 1))
first-step levels h place l more f = by (flag_at levels h (2 * place)) refl where
  before : (k : ℕ) → k < 2 * place → flag_at levels h k ≡ false
  before k less = below levels h k l more (f.none (k / 2) (omega arith))

  by : (c : Bool) → flag_at levels h (2 * place) ≡ c → IsFirst levels h (cond c (2 * place) (2 * place + 1))
  by true is = record { up = is; none = before }
  by false is = record { up = ap (λ (c : Bool). c || flag_at levels h (2 * place + 1)) (sym is) ∙ sym (l.pairs h place more) ∙ f.up; none = λ k less. last k less (cases_eq k (2 * place)) } where
    last : (k : ℕ) → k < 2 * place + 1 → (k ≡ 2 * place) ⊎ (k ≡ 2 * place → ⊥) → flag_at levels h k ≡ false
    last k less (inl same) = ap (flag_at levels h) same ∙ is
    last k less (inr other) = before k (omega arith)

-- where the highest flag is down, none is up
none-down : (levels : List (List Bool)) → AreLevels levels → flag_at levels (length levels - 1) 0 ≡ false → (d h k : ℕ) → h + d + 1 ≡ length levels → flag_at levels h k ≡ false
none-down levels l down zero h k at =
    let here : h ≡ length levels - 1 = omega arith in
    ap (λ (g : ℕ). flag_at levels g k) here ∙ by (cases_eq k 0) where
      by : (k ≡ 0) ⊎ (k ≡ 0 → ⊥) → flag_at levels (length levels - 1) k ≡ false
      by (inl same) = ap (flag_at levels (length levels - 1)) same ∙ down
      by (inr other) = let past : length (level_at levels (length levels - 1)) ≤ k = omega (arith, l.top) in get_or_past (level_at levels (length levels - 1)) k false past
none-down levels l down (suc d) h k at = below levels h k l (omega arith) (none-down levels l down d (h + 1) (k / 2) (omega arith))

pub none-first : (levels : List (List Bool)) → AreLevels levels → flag_at levels (length levels - 1) 0 ≡ false → None ≡ position (λ up. up) (level_at levels 0)
none-first levels l down =
    let none : (k : ℕ) → flag_at levels 0 k ≡ false = λ k. none-down levels l down (length levels - 1) 0 k (omega (arith, l.some)) in
    let at : position_or_len (λ up. up) (level_at levels 0) ≡ length (level_at levels 0) = position_or_len_is (λ up. up) (level_at levels 0) (length (level_at levels 0)) false (omega arith) (λ k _. none k) (λ l'. absurd (omega arith)) in
    let past : nat_lt (position_or_len (λ up. up) (level_at levels 0)) (length (level_at levels 0)) ≡ false = le-ltb _ _ (omega arith) in
    rw past refl

pub is-first : (levels : List (List Bool)) (place : ℕ) → IsFirst levels 0 place → Some place ≡ position (λ up. up) (level_at levels 0)
is-first levels place f =
    let within : place < length (level_at levels 0) = by (cases_lt place (length (level_at levels 0))) in
    let at : position_or_len (λ up. up) (level_at levels 0) ≡ place = position_or_len_is (λ up. up) (level_at levels 0) place false (omega arith) f.none (λ _. f.up) in
    let known : nat_lt place (length (level_at levels 0)) ≡ true = lt-ltb _ _ within in
    rw (at, known) refl where
      by : (place < length (level_at levels 0)) ⊎ (length (level_at levels 0) ≤ place) → place < length (level_at levels 0)
      by (inl h) = h
      by (inr h) = absurd (true≢false (sym f.up ∙ get_or_past (level_at levels 0) place false h))
