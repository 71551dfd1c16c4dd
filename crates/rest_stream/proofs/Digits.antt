-- Digits are text.
use Rattle.std.proofs.Common.{◌≡◌, ℕ, zero, suc, ◌<◌, Bool, true, false, ◌&&◌, List, [], ◌∷◌, length, refl, sym, true≢false, arith, nat_le, nat_lt, Some, None, if◌then◌else◌}
use Rattle.std.specs.List.{list_all}
use Rattle.std.specs.Str.{IsUtf8, IsAscii}
use Rattle.std.proofs.lemmas.Str.{IsUtf8-from_ascii}
use Rattle.std.proofs.lemmas.Bool.Decides.{nat_tests}
use Rattle.plan_terms.specs.Digits.{is_digit, number_of, number_after}

digit_ascii : (b : ℕ) → is_digit b ≡ true → b < 128
digit_ascii b h = grind (arith, nat_tests)

and_split : (a b : Bool) → (a && b) ≡ true → (a ≡ true) × (b ≡ true)
and_split true b e = (refl, e)
and_split false b e = absurd (true≢false (sym e))

digits_ascii : (bs : List ℕ) → list_all is_digit bs ≡ true → IsAscii bs
digits_ascii [] h i = omega arith
digits_ascii (b ∷ bs) h zero = digit_ascii b (and_split (is_digit b) (list_all is_digit bs) h).0
digits_ascii (b ∷ bs) h (suc i) = digits_ascii bs (and_split (is_digit b) (list_all is_digit bs) h).1 i

no_more : (a b : Bool) (n : ℕ) → None ≡ (if a && b && false then Some n else None)
no_more true true n = refl
no_more true false n = refl
no_more false b n = refl

-- what is no text spells no number
pub no_number : (bs : List ℕ) → (IsUtf8 bs → ⊥) → None ≡ number_of 19 bs
unfolding number_of
no_number bs h = by (list_all is_digit bs) refl
  where
    by : (b : Bool) → list_all is_digit bs ≡ b → None ≡ number_of 19 bs
    by true e = absurd (h (IsUtf8-from_ascii bs (digits_ascii bs e)))
    by false e = rw e (no_more (nat_le 1 (length bs)) (nat_le (length bs) 19) (number_after 0 bs))

below_ascii : (bs : List ℕ) → list_all (λ b. nat_lt b 128) bs ≡ true → IsAscii bs
below_ascii [] h i = omega arith
below_ascii (b ∷ bs) h zero = let first : nat_lt b 128 ≡ true = (and_split (nat_lt b 128) (list_all (λ c. nat_lt c 128) bs) h).0 in grind (arith, nat_tests)
below_ascii (b ∷ bs) h (suc i) = below_ascii bs (and_split (nat_lt b 128) (list_all (λ c. nat_lt c 128) bs) h).1 i

-- ASCII is text
pub all_ascii : (bs : List ℕ) → list_all (λ b. nat_lt b 128) bs ≡ true → IsUtf8 bs
all_ascii bs h = IsUtf8-from_ascii bs (below_ascii bs h)
