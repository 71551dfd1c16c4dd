use Rattle.std.proofs.Common.{◌∙◌, [], get_or, refl, true, sym}
use Rattle.goal_terms.proofs.BrokerLemmas.{Accepts-then, Accepts-else}
use Rattle.goal_terms.proofs.CaseLemmas.{Limits-case}
use Rattle.goal_terms.proofs.LeastLemmas.{unnamed-accepts}
use Rattle.goal_terms.specs.LeastLeaders.{least_rule}
use Rattle.goal_terms.specs.PerTopic.{rule_weights}
use Rattle.leader_goals.proofs.least.MinTopicLeadersPerBrokerGoal.topic_accepts.Goals as goal

pub returns-then-not-is_named : goal.returns-then-not-is_named
returns-then-not-is_named c =
    let named = sym c.is_named.ensures ∙ c.if-not-is_named.true in
    ((λ _. unnamed-accepts c.args.case.now c.args.book.now.lists c.args.action true (get_or c.args.self.now.topics.items c.args.place []) named), (λ _. refl))

pub returns-then-sides : goal.returns-then-sides
returns-then-sides c =
    let limits = Limits-case c.args.case.now c.brokers-brokers.ensures.case in
    let topic = get_or c.args.self.now.topics.items c.args.place [] in
    Accepts-then true (rule_weights (least_rule c.args.case.now) topic) ((least_rule c.args.case.now).bounds topic) c.args.case.now c.args.book.now.lists
    limits.ids c.requires.belongs.lists_belong.one_each c.args.action c.requires.applies c.sides_at-sides.result c.sides_at-sides.ensures.value c.if-sides.true

pub returns-else-sides : goal.returns-else-sides
returns-else-sides c =
    let limits = Limits-case c.args.case.now c.brokers-brokers.ensures.case in
    let topic = get_or c.args.self.now.topics.items c.args.place [] in
    Accepts-else true (rule_weights (least_rule c.args.case.now) topic) ((least_rule c.args.case.now).bounds topic) c.args.case.now c.args.book.now.lists
    limits.ids c.requires.belongs.lists_belong.one_each c.args.action c.requires.applies c.sides_at-sides.result c.sides_at-sides.ensures.value c.if-sides.false
