use Rattle.std.proofs.Common.{◌≡◌, drop}
use Rattle.std.specs.Prelude.{nat_lt}
use Rattle.std.specs.List.{list_any}
use Rattle.goal_terms.specs.LeastLeaders.{least_rule}
use Rattle.plan_terms.specs.Cluster.{id_at}
use Rattle.goal_terms.specs.PerTopic.{rule_weights}
use Rattle.goal_terms.specs.Quantity.{quantity}
use Rattle.goal_terms.specs.Sides.{excess_with}
use Rattle.leader_goals.proofs.least.MinTopicLeadersPerBrokerGoalGoal.heat.Given as goal

abbrev pub invariant-loop-place : goal.invariant-loop-place
invariant-loop-place l =
    list_any (λ t. nat_lt 0 (excess_with (rule_weights (least_rule l.case) t) ((least_rule l.case).bounds t) l.case l.book.lists (id_at l.case.brokers l.broker) (quantity (rule_weights (least_rule l.case) t) l.case.parts (id_at l.case.brokers l.broker) l.book.lists))) (drop l.place l.self.topics.items)
    ≡ list_any (λ t. nat_lt 0 (excess_with (rule_weights (least_rule l.case) t) ((least_rule l.case).bounds t) l.case l.book.lists (id_at l.case.brokers l.broker) (quantity (rule_weights (least_rule l.case) t) l.case.parts (id_at l.case.brokers l.broker) l.book.lists))) l.self.topics.items
