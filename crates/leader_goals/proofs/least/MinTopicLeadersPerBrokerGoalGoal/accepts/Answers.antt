use Rattle.std.proofs.Common.{◌∙◌, ℕ, List, [], get_or, true, ap}
use Rattle.goal_terms.proofs.CaseLemmas.{Limits-case}
use Rattle.goal_terms.proofs.LeastLemmas.{least-accepts, then-iff}
use Rattle.goal_terms.proofs.TopicGoalLemmas.{accepts-then, accepts-else}
use Rattle.goal_terms.specs.LeastLeaders.{least_rule}
use Rattle.leader_goals.proofs.least.MinTopicLeadersPerBrokerGoalGoal.accepts.Goals as goal

pub returns-then-topic_accepts : goal.returns-then-topic_accepts
returns-then-topic_accepts c =
    let case = c.args.case.now in
    let ts = c.args.self.now.topics.items in
    then-iff
    (accepts-then true (least_rule case) case c.args.book.now.lists (Limits-case case c.brokers-brokers.ensures.case) c.requires.belongs.lists_belong c.args.action c.requires.applies
    (get_or ts c.first_topic_place-first.result []) (get_or ts c.second_topic_place-second.result [])
    (ap (λ (ts : List (List ℕ)). get_or ts c.first_topic_place-first.result []) c.requires.made.topics_are ∙ c.first_topic_place-first.ensures.named)
    (ap (λ (ts : List (List ℕ)). get_or ts c.second_topic_place-second.result []) c.requires.made.topics_are ∙ c.second_topic_place-second.ensures.named)
    c.topic_accepts-then-topic_accepts.result (c.topic_accepts.ensures.0 c.if-topic_accepts.true) c.topic_accepts-then-topic_accepts.ensures)
    (least-accepts case c.args.book.now.lists c.args.action)

pub returns-else-topic_accepts : goal.returns-else-topic_accepts
returns-else-topic_accepts c =
    let case = c.args.case.now in
    let ts = c.args.self.now.topics.items in
    then-iff
    (accepts-else true (least_rule case) case c.args.book.now.lists (Limits-case case c.brokers-brokers.ensures.case) c.requires.belongs.lists_belong c.args.action c.requires.applies
    (get_or ts c.first_topic_place-first.result []) (get_or ts c.second_topic_place-second.result [])
    (ap (λ (ts : List (List ℕ)). get_or ts c.first_topic_place-first.result []) c.requires.made.topics_are ∙ c.first_topic_place-first.ensures.named)
    (ap (λ (ts : List (List ℕ)). get_or ts c.second_topic_place-second.result []) c.requires.made.topics_are ∙ c.second_topic_place-second.ensures.named)
    c.topic_accepts.result c.if-topic_accepts.false c.topic_accepts.ensures)
    (least-accepts case c.args.book.now.lists c.args.action)
