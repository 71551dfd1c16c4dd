use Rattle.std.proofs.Common.{◌≡◌, drop}
use Rattle.std.specs.Prelude.{nat_lt}
use Rattle.std.specs.List.{list_any}
use Rattle.goal_terms.specs.Bands.{even, units_of}
use Rattle.plan_terms.specs.Cluster.{id_at}
use Rattle.goal_terms.specs.Quantity.{quantity, topic_weights}
use Rattle.goal_terms.specs.Sides.{excess_with}
use Rattle.distribution_goals.proofs.topic.TopicReplicaDistributionGoalGoal.heat.Given as goal

abbrev pub invariant-loop-place : goal.invariant-loop-place
invariant-loop-place l =
    list_any (λ t. nat_lt 0 (excess_with (topic_weights t) (even l.case.options.topic_balance (units_of l.case)) l.case l.book.lists (id_at l.case.brokers l.broker) (quantity (topic_weights t) l.case.parts (id_at l.case.brokers l.broker) l.book.lists))) (drop l.place l.self.topics.items)
    ≡ list_any (λ t. nat_lt 0 (excess_with (topic_weights t) (even l.case.options.topic_balance (units_of l.case)) l.case l.book.lists (id_at l.case.brokers l.broker) (quantity (topic_weights t) l.case.parts (id_at l.case.brokers l.broker) l.book.lists))) l.self.topics.items
