use Rattle.task_index.proofs.Trees.{AreMade}
use Rattle.task_index.proofs.flags.empty_levels.Given as goal

abbrev pub invariant-loop-width : goal.invariant-loop-width
invariant-loop-width l = AreMade l.flags l.width l.levels.items

abbrev pub decreases-loop-width : goal.decreases-loop-width
decreases-loop-width l = l.width
