-- What a goal keeps of the case that it was made for.
use Rattle.std.specs.Prelude.{◌≡◌}
use Rattle.plan_terms.specs.Fraction.{Fraction, IsRatio}

-- the kept threshold is the wanted one, which is in range
pub record IsThreshold (kept wanted : Fraction) : Type 0 where
  pub is : kept ≡ wanted
  pub small : IsRatio wanted.num wanted.den
