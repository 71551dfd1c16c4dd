-- Fractions of whole numbers.
use Rattle.std.specs.Prelude.{ℕ, ◌+◌, ◌-◌, ◌*◌, ◌^◌, ◌≤◌, List, length, Option, if◌then◌else◌}
use Rattle.std.specs.List.{before_first, after_first}
use Rattle.std.specs.Option.{option_and_then, option_map}
use Rattle.plan_terms.specs.Digits.{number_of, is_point, has_point}

pub record Fraction : Type 0 where
  pub num : ℕ
  pub den : ℕ

-- the range of thresholds
pub record IsRatio (n d : ℕ) : Type 0 where
  pub small : n ≤ 9999999
  pub some : 1 ≤ d
  pub few : d ≤ 1000

-- a whole number, and behind a point k digits, as a fraction of denominator 10^k
abbrev pub with_decimals : ℕ → ℕ → ℕ → Fraction
with_decimals whole k part = record { num = whole * 10 ^ k + part; den = 10 ^ k }

-- 1 to 4 digits, and perhaps a point and 1 to 3 digits more; nothing is reduced
unfoldable pub ratio_of : List ℕ → Option Fraction
ratio_of text =
    if has_point text
    then option_and_then (λ whole. option_map (with_decimals whole (length (after_first is_point text))) (number_of 3 (after_first is_point text))) (number_of 4 (before_first is_point text))
    else option_map (λ whole. with_decimals whole 0 0) (number_of 4 text)

-- how far a load lies above that share of a capacity, times the denominator: 0 where it doesn't
abbrev pub over : Fraction → ℕ → ℕ → ℕ
over f load cap = load * f.den - f.num * cap
