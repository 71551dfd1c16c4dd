-- Numbers written in decimal digits.
use Rattle.plan_terms.specs.Bytes.{point, digit_0, digit_9}
use Rattle.std.specs.Prelude.{ℕ, ◌+◌, ◌-◌, ◌*◌, ◌==◌, Bool, ◌&&◌, nat_le, nat_lt, List, [], ◌∷◌, length, slice_index, Option, Some, None, if◌then◌else◌}
use Rattle.std.specs.List.{list_all, position_or_len}

-- an ASCII digit
abbrev pub is_digit : ℕ → Bool
is_digit b = nat_le digit_0 b && nat_le b digit_9

-- the number that digits spell, behind digits that spell n
abbrev pub number_after : ℕ → List ℕ → ℕ
number_after n [] = n
number_after n (d ∷ ds) = number_after (10 * n + (d - 48)) ds

-- the number that 1 to `most` digits spell; leading zeros are good
unfoldable pub number_of : ℕ → List ℕ → Option ℕ
number_of most text = if nat_le 1 (length text) && nat_le (length text) most && list_all is_digit text then Some (number_after 0 text) else None

-- a decimal point
abbrev pub is_point : ℕ → Bool
is_point b = b == point

-- a point stands in the text
abbrev pub has_point : List ℕ → Bool
has_point text = nat_lt (position_or_len is_point text) (length text)

-- a whole number in decimal digits, without a sign and without a leading zero; `0` itself is good
unfoldable pub whole_of : List ℕ → Option ℕ
whole_of text = if nat_lt 1 (length text) && (slice_index text 0 == digit_0) then None else number_of 19 text
