use Rattle.std.proofs.Common.{◌∙◌, ℕ, List, [], get_or, false, ap}
use Rattle.goal_terms.proofs.CaseLemmas.{Limits-case}
use Rattle.goal_terms.proofs.TopicGoalLemmas.{accepts-then, accepts-else}
use Rattle.goal_terms.specs.Bands.{even, units_of}
use Rattle.goal_terms.specs.PerTopic.{replica_rule}
use Rattle.distribution_goals.proofs.topic.TopicReplicaDistributionGoalGoal.accepts.Goals as goal

pub returns-then-topic_accepts : goal.returns-then-topic_accepts
returns-then-topic_accepts c =
    accepts-then false (replica_rule (even c.args.case.now.options.topic_balance (units_of c.args.case.now))) c.args.case.now c.args.book.now.lists (Limits-case c.args.case.now c.brokers-brokers.ensures.case) c.requires.belongs.lists_belong c.args.action c.requires.applies
    c.replicas-first.result.name.now c.replicas-second.result.name.now
    (c.replicas-first.ensures.name ∙ ap (λ (ts : List (List ℕ)). get_or ts c.first_topic_place.result []) c.requires.made.1 ∙ c.first_topic_place.ensures.named)
    (c.replicas-second.ensures.name ∙ ap (λ (ts : List (List ℕ)). get_or ts c.second_topic_place.result []) c.requires.made.1 ∙ c.second_topic_place.ensures.named)
    c.topic_accepts-then-topic_accepts.result (c.topic_accepts.ensures.0 c.if-topic_accepts.true) c.topic_accepts-then-topic_accepts.ensures

pub returns-else-topic_accepts : goal.returns-else-topic_accepts
returns-else-topic_accepts c =
    accepts-else false (replica_rule (even c.args.case.now.options.topic_balance (units_of c.args.case.now))) c.args.case.now c.args.book.now.lists (Limits-case c.args.case.now c.brokers-brokers.ensures.case) c.requires.belongs.lists_belong c.args.action c.requires.applies
    c.replicas-first.result.name.now c.replicas-second.result.name.now
    (c.replicas-first.ensures.name ∙ ap (λ (ts : List (List ℕ)). get_or ts c.first_topic_place.result []) c.requires.made.1 ∙ c.first_topic_place.ensures.named)
    (c.replicas-second.ensures.name ∙ ap (λ (ts : List (List ℕ)). get_or ts c.second_topic_place.result []) c.requires.made.1 ∙ c.second_topic_place.ensures.named)
    c.topic_accepts.result c.if-topic_accepts.false c.topic_accepts.ensures
