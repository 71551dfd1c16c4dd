use Rattle.goal_terms.proofs.TopicGoalLemmas.{excess-at}
use Rattle.plan_terms.specs.Faults.{topics}
use Rattle.goal_terms.proofs.laws.topics_come_first.Goals as goal

pub returns : goal.returns
returns c = λ hard b cluster lists i u l m. excess-at b cluster lists (topics cluster.parts) i u l m
