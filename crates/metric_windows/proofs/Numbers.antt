-- Tests and places.
use Rattle.std.proofs.Common.{◌≡◌, ◌≢◌, ℕ, ◌+◌, ◌*◌, ◌/◌, ◌%◌, ◌<◌, ◌≤◌, Bool, true, false, ◌==◌, nat_lt, nat_le, Option, Some, None, refl, inl, inr, max, arith}
use Rattle.std.proofs.lemmas.Nat.{mod_below, same_from_place, mul-le}
use Rattle.std.proofs.lemmas.Nat.{div-add-mod'}
use Rattle.std.proofs.lemmas.Bool.{cases_lt}
use Rattle.std.proofs.lemmas.Bool.Decides.{nat_tests}
use Rattle.metric_windows.specs.Samples.{later, is_past}
use Rattle.plan_terms.specs.declared.settings.WindowRules.{WindowRules}
use Rattle.metric_windows.specs.Tables.{place}

pub test_lt : (a b : ℕ) → a < b → nat_lt a b ≡ true
test_lt a b h = grind (arith, nat_tests)

pub no_lt : (a b : ℕ) → b ≤ a → nat_lt a b ≡ false
no_lt a b h = grind (arith, nat_tests)

pub le_test : (a b : ℕ) → a ≤ b → nat_le a b ≡ true
le_test a b h = grind (arith, nat_tests)

pub lt_from_test : (a b : ℕ) → nat_lt a b ≡ true → a < b
lt_from_test a b h = grind (arith, nat_tests)

pub le_from_test : (a b : ℕ) → nat_le a b ≡ true → a ≤ b
le_from_test a b h = grind (arith, nat_tests)

pub lt_from_no_le : (a b : ℕ) → nat_le a b ≡ false → b < a
lt_from_no_le a b h = grind (arith, nat_tests)

pub no_le_from_lt : (a b : ℕ) → b < a → nat_le a b ≡ false
no_le_from_lt a b h = grind (arith, nat_tests)

pub test_same : (a b : ℕ) → a ≡ b → (a == b) ≡ true
test_same a b h = grind (arith, nat_tests)

pub test_other : (a b : ℕ) → a ≢ b → (a == b) ≡ false
test_other a b h = grind (arith, nat_tests)

-- two windows that share a cell are at least `keep` apart
pub apart : (k i j : ℕ) → i % k ≡ j % k → i < j → i + k ≤ j
apart k i j e l =
    let left : i / k * k + i % k ≡ i = div-add-mod' i k in
    let right : j / k * k + j % k ≡ j = div-add-mod' j k in
    elim (cases_lt (i / k) (j / k)) [
      | inl h ↦ omega (arith, mul-le (i / k + 1) k (j / k) k (omega arith) (omega arith))
      | inr h ↦ absurd (omega (arith, mul-le (j / k) k (i / k) k h (omega arith)))
    ]

pub same_place : (k p i q j : ℕ) → 0 < k → place k p i ≡ place k q j → (p ≡ q) × (i % k ≡ j % k)
same_place k p i q j some e = same_from_place p (i % k) q (j % k) k (mod_below i k some) (mod_below j k some) e

-- no sample has reached the window
abbrev pub is_ahead : Option ℕ → ℕ → Bool
is_ahead None i = true
is_ahead (Some n) i = nat_lt n i

max_below : (n w i : ℕ) → max n w < i → (n < i) × (w < i)
max_below n w i h = grind arith

pub ahead_later : (o : Option ℕ) (w i : ℕ) → is_ahead (later o w) i ≡ true → (is_ahead o i ≡ true) × (w < i)
ahead_later None w i h = (refl, lt_from_test w i h)
ahead_later (Some n) w i h =
    let m = max_below n w i (lt_from_test (max n w) i h) in
    (test_lt n i m.0, m.1)

pub past_later : (rules : WindowRules) (o : Option ℕ) (w i : ℕ) → is_past rules (later o w) i ≡ false → (is_past rules o i ≡ false) × (w < i + rules.keep)
past_later rules None w i h = (refl, lt_from_no_le (i + rules.keep) w h)
past_later rules (Some n) w i h =
    let m = max_below n w (i + rules.keep) (lt_from_no_le (i + rules.keep) (max n w) h) in
    (no_le_from_lt (i + rules.keep) n m.0, m.1)

-- a window so far behind one that isn't past
pub ahead_far : (rules : WindowRules) (o : Option ℕ) (w i : ℕ) → is_past rules o w ≡ false → w + rules.keep ≤ i → is_ahead o i ≡ true
ahead_far rules None w i h l = refl
ahead_far rules (Some n) w i h l =
    let m = lt_from_no_le (w + rules.keep) n h in
    test_lt n i (omega arith)
