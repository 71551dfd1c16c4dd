use Rattle.plan_terms.proofs.FaultLemmas.{few_parts}
use Rattle.goal_terms.proofs.PartitionGoals.{evacuation-fits_120_bits, demotion-fits_120_bits}
use Rattle.goal_terms.proofs.laws.partition_measures_are_small.Goals as goal

pub returns : goal.returns
returns c = λ cluster lists case belongs. (evacuation-fits_120_bits cluster lists (few_parts cluster case) belongs, demotion-fits_120_bits cluster lists (few_parts cluster case) belongs)
