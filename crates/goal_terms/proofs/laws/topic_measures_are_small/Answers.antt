use Rattle.goal_terms.proofs.TopicGoalLemmas.{topic-fits_120_bits}
use Rattle.goal_terms.proofs.CaseLemmas.{Limits-case}
use Rattle.goal_terms.proofs.laws.topic_measures_are_small.Goals as goal

pub returns : goal.returns
returns c = λ hard ratio cluster lists h case belongs. topic-fits_120_bits hard ratio cluster lists h (Limits-case cluster case) belongs
