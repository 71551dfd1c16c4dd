use Rattle.std.proofs.Common.{sym, ◌∙◌}
use Rattle.executor_tests.proofs.Begun.{none_lost}
use Rattle.executor_tests.proofs.runs.avoids_lost.Goals as goal

pub returns : goal.returns
returns c = rw (← c.lists.ensures.value) (λ h. none_lost c.args.case.now c.lists.result.now (sym c.none_lost.ensures ∙ h))
