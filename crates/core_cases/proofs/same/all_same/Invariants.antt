use Rattle.std.proofs.Common.{◌≡◌, drop}
use Rattle.std.specs.Cmp.Lexicographic.{pointwise}
use Rattle.core_cases.proofs.same.all_same.Given as goal

abbrev pub invariant-loop-place : goal.invariant-loop-place
invariant-loop-place g l = pointwise g.S.Same.same (drop l.place l.one) (drop l.place l.other) ≡ pointwise g.S.Same.same l.one l.other
