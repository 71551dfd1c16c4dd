use Rattle.goal_terms.proofs.PartitionHeat.{partition-cold_pairs}
use Rattle.goal_terms.proofs.laws.cold_members_lessen_nothing.Goals as goal

pub returns : goal.returns
returns c = λ hard f cluster lists belongs. partition-cold_pairs f hard cluster lists belongs
