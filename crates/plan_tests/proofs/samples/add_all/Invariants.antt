use Rattle.std.proofs.Common.{◌≡◌}
use Rattle.plan_tests.proofs.samples.add_all.Given as goal

abbrev pub invariant-loop-turn : goal.invariant-loop-turn
invariant-loop-turn g l = l.windows.parts ≡ l.parts
