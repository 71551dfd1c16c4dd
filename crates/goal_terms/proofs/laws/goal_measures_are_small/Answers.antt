use Rattle.goal_terms.proofs.GoalTable.{measures-small}
use Rattle.goal_terms.proofs.laws.goal_measures_are_small.Goals as goal

pub returns : goal.returns
returns c = measures-small
