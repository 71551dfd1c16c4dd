use Rattle.goal_terms.proofs.PartitionHeat.{partition-still_parts}
use Rattle.goal_terms.proofs.laws.still_parts_lessen_nothing.Goals as goal

pub returns : goal.returns
returns c = λ hard f cluster lists belongs. partition-still_parts f hard cluster lists belongs
