use Rattle.std.proofs.Common.{◌≡◌, ◌*◌, ◌<◌, get_or, length, drop}
use Rattle.goal_terms.specs.PerTopic.{replica_rule, topic_excesses}
use Rattle.goal_terms.specs.Bands.{even, units_of}
use Rattle.distribution_goals.proofs.topic.TopicReplicaDistributionGoalGoal.excess.Given as goal

abbrev pub invariant-loop-place : goal.invariant-loop-place
invariant-loop-place l = record {
  same : get_or (topic_excesses (drop l.place l.self.topics.items) (replica_rule (even l.case.options.topic_balance (units_of l.case))) l.case l.book.lists) l.left 0
      ≡ get_or (topic_excesses l.self.topics.items (replica_rule (even l.case.options.topic_balance (units_of l.case))) l.case l.book.lists) l.unit 0;
  within : l.left < length (drop l.place l.self.topics.items) * l.count;
}
