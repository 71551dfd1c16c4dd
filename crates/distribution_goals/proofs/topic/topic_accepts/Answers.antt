use Rattle.std.proofs.Common.{true}
use Rattle.goal_terms.proofs.BrokerLemmas.{Accepts-then, Accepts-else}
use Rattle.goal_terms.proofs.CaseLemmas.{Limits-case}
use Rattle.goal_terms.specs.Bands.{even, units_of}
use Rattle.goal_terms.specs.Quantity.{topic_weights}
use Rattle.distribution_goals.proofs.topic.topic_accepts.Goals as goal

pub returns-then-sides : goal.returns-then-sides
returns-then-sides c =
    let limits = Limits-case c.args.case.now c.brokers-brokers.ensures.case in
    Accepts-then true (topic_weights c.args.kind.now.name.now) (even c.args.case.now.options.topic_balance (units_of c.args.case.now)) c.args.case.now c.args.book.now.lists
    limits.ids c.requires.belongs.lists_belong.one_each c.args.action c.requires.applies c.sides_of-sides.result c.sides_of-sides.ensures.value c.if-sides.true

pub returns-else-sides : goal.returns-else-sides
returns-else-sides c =
    let limits = Limits-case c.args.case.now c.brokers-brokers.ensures.case in
    Accepts-else true (topic_weights c.args.kind.now.name.now) (even c.args.case.now.options.topic_balance (units_of c.args.case.now)) c.args.case.now c.args.book.now.lists
    limits.ids c.requires.belongs.lists_belong.one_each c.args.action c.requires.applies c.sides_of-sides.result c.sides_of-sides.ensures.value c.if-sides.false
