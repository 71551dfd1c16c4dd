use Rattle.std.proofs.Common.{arith}
use Rattle.goal_terms.proofs.CaseLemmas.{Limits-case}
use Rattle.goal_terms.proofs.TopicGoalLemmas.{few-units}
use Rattle.distribution_goals.proofs.topic.TopicReplicaDistributionGoalGoal.units.Goals as goal

pub overflow_mul-result : goal.overflow_mul-result
overflow_mul-result c =
    rw (c.topics.ensures.value, c.unit_count.ensures, c.brokers-brokers.ensures.value) (omega (arith, few-units c.args.case.now (Limits-case c.args.case.now c.brokers-brokers.ensures.case)))
