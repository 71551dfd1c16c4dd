use Rattle.goal_terms.proofs.TopicGoalLemmas.{topic-cold_pairs}
use Rattle.goal_terms.proofs.CaseLemmas.{Limits-case}
use Rattle.goal_terms.proofs.laws.cold_topics_lessen_nothing.Goals as goal

pub returns : goal.returns
returns c = λ hard b cluster lists case belongs. topic-cold_pairs hard b cluster lists (Limits-case cluster case) belongs
