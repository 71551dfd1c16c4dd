use Rattle.std.proofs.Common.{◌≡◌}
use Rattle.plan_terms.specs.Goal.{sum_below}
use Rattle.move_actions.proofs.goals.measure.Given as goal

abbrev pub invariant-loop-unit : goal.invariant-loop-unit
invariant-loop-unit g l = l.total ≡ sum_below ((g.G.Goal.meaning l.goal l.case).excess l.book.lists) l.unit
