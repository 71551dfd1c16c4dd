-- ASCII is text.
use Rattle.std.proofs.Common.{◌≡◌, ℕ, zero, suc, Bool, true, false, ◌&&◌, List, [], ◌∷◌, refl, sym, true≢false, arith, nat_lt}
use Rattle.std.specs.List.{list_all}
use Rattle.std.specs.Str.{IsUtf8, IsAscii}
use Rattle.std.proofs.lemmas.Str.{IsUtf8-from_ascii}
use Rattle.std.proofs.lemmas.Bool.Decides.{nat_tests}

pub and_split : (a b : Bool) → (a && b) ≡ true → (a ≡ true) × (b ≡ true)
and_split true b e = (refl, e)
and_split false b e = absurd (true≢false (sym e))

below_ascii : (bs : List ℕ) → list_all (λ b. nat_lt b 128) bs ≡ true → IsAscii bs
below_ascii [] h i = omega arith
below_ascii (b ∷ bs) h zero = let first : nat_lt b 128 ≡ true = (and_split (nat_lt b 128) (list_all (λ c. nat_lt c 128) bs) h).0 in grind (arith, nat_tests)
below_ascii (b ∷ bs) h (suc i) = below_ascii bs (and_split (nat_lt b 128) (list_all (λ c. nat_lt c 128) bs) h).1 i

-- ASCII is text
pub all_ascii : (bs : List ℕ) → list_all (λ b. nat_lt b 128) bs ≡ true → IsUtf8 bs
all_ascii bs h = IsUtf8-from_ascii bs (below_ascii bs h)
