use Rattle.std.proofs.Common.{◌∙◌, ℕ, List, [], get_or, false, sym, ap}
use Rattle.goal_terms.proofs.CaseLemmas.{Limits-case}
use Rattle.goal_terms.proofs.TopicGoalLemmas.{Lessens-one-topic, Lessens-two-topics}
use Rattle.goal_terms.specs.Bands.{even, units_of}
use Rattle.goal_terms.specs.PerTopic.{replica_rule}
use Rattle.load_model.specs.Places.{topic_at}
use Rattle.distribution_goals.proofs.topic.TopicReplicaDistributionGoalGoal.lessens.Goals as goal

pub returns-then-first-second : goal.returns-then-first-second
returns-then-first-second c =
    let first = c.replicas.ensures.name ∙ ap (λ (ts : List (List ℕ)). get_or ts c.first_topic_place-first.result []) c.requires.made.1 ∙ c.first_topic_place-first.ensures.named in
    Lessens-one-topic false (replica_rule (even c.args.case.now.options.topic_balance (units_of c.args.case.now))) c.args.case.now c.args.book.now.lists (Limits-case c.args.case.now c.brokers-brokers.ensures.case) c.requires.belongs.lists_belong c.args.action c.requires.applies
    c.sides_of-one.result (rw first at c.sides_of-one.ensures.value)
    (sym c.first_topic_place-first.ensures.named ∙ ap (topic_at c.args.case.now.parts) c.if-first-second.true ∙ c.second_topic_place-second.ensures.named)

pub returns : goal.returns
returns c =
    let first = c.replicas.ensures.name ∙ ap (λ (ts : List (List ℕ)). get_or ts c.first_topic_place-first.result []) c.requires.made.1 ∙ c.first_topic_place-first.ensures.named in
    let second = c.replicas-2.ensures.name ∙ ap (λ (ts : List (List ℕ)). get_or ts c.second_topic_place-second.result []) c.requires.made.1 ∙ c.second_topic_place-second.ensures.named in
    Lessens-two-topics false (replica_rule (even c.args.case.now.options.topic_balance (units_of c.args.case.now))) c.args.case.now c.args.book.now.lists (Limits-case c.args.case.now c.brokers-brokers.ensures.case) c.requires.belongs.lists_belong c.args.action c.requires.applies
    c.sides_of-one.result c.sides_of-two.result (rw first at c.sides_of-one.ensures.value) (rw second at c.sides_of-two.ensures.value)
    (λ e. c.if-first-second.false (c.second_topic_place-second.ensures.only c.first_topic_place-first.result c.first_topic_place-first.ensures.within (c.first_topic_place-first.ensures.named ∙ e)))
