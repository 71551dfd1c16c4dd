use Rattle.std.proofs.Common.{◌∙◌, ℕ, List, [], get_or, true, sym, ap}
use Rattle.goal_terms.proofs.CaseLemmas.{Limits-case}
use Rattle.goal_terms.proofs.LeastLemmas.{least-lessens, then-iff}
use Rattle.goal_terms.proofs.TopicGoalLemmas.{Lessens-one-topic, Lessens-two-topics}
use Rattle.goal_terms.specs.LeastLeaders.{least_rule}
use Rattle.load_model.specs.Places.{topic_at}
use Rattle.leader_goals.proofs.least.MinTopicLeadersPerBrokerGoalGoal.lessens.Goals as goal

pub returns-then-first-second : goal.returns-then-first-second
returns-then-first-second c =
    let case = c.args.case.now in
    let first = ap (λ (ts : List (List ℕ)). get_or ts c.first_topic_place-first.result []) c.requires.made.topics_are ∙ c.first_topic_place-first.ensures.named in
    then-iff
    (Lessens-one-topic true (least_rule case) case c.args.book.now.lists (Limits-case case c.brokers-brokers.ensures.case) c.requires.belongs.lists_belong c.args.action c.requires.applies
    c.sides_at-one.result (rw first at c.sides_at-one.ensures.value)
    (sym c.first_topic_place-first.ensures.named ∙ ap (topic_at case.parts) c.if-first-second.true ∙ c.second_topic_place-second.ensures.named))
    (least-lessens case c.args.book.now.lists c.args.action)

pub returns : goal.returns
returns c =
    let case = c.args.case.now in
    let first = ap (λ (ts : List (List ℕ)). get_or ts c.first_topic_place-first.result []) c.requires.made.topics_are ∙ c.first_topic_place-first.ensures.named in
    let second = ap (λ (ts : List (List ℕ)). get_or ts c.second_topic_place-second.result []) c.requires.made.topics_are ∙ c.second_topic_place-second.ensures.named in
    then-iff
    (Lessens-two-topics true (least_rule case) case c.args.book.now.lists (Limits-case case c.brokers-brokers.ensures.case) c.requires.belongs.lists_belong c.args.action c.requires.applies
    c.sides_at-one.result c.sides_at-two.result (rw first at c.sides_at-one.ensures.value) (rw second at c.sides_at-two.ensures.value)
    (λ e. c.if-first-second.false (c.second_topic_place-second.ensures.only c.first_topic_place-first.result c.first_topic_place-first.ensures.within (c.first_topic_place-first.ensures.named ∙ e))))
    (least-lessens case c.args.book.now.lists c.args.action)
