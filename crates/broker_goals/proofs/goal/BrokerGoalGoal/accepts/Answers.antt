use Rattle.goal_terms.proofs.BrokerLemmas.{Accepts-then, Accepts-else}
use Rattle.goal_terms.proofs.CaseLemmas.{Limits-case}
use Rattle.broker_goals.proofs.goal.BrokerGoalGoal.accepts.Goals as goal

pub returns-then-sides : goal.returns-then-sides
returns-then-sides g c =
    let limits = Limits-case c.args.case.now c.brokers-brokers.ensures.case in
    Accepts-then g.S.Strength.HARD (g.A.Amount.weights c.args.self.now.kind) (g.B.Band.bounds c.args.self.now.band c.args.case.now) c.args.case.now c.args.book.now.lists
    limits.ids c.requires.belongs.lists_belong.one_each c.args.action c.requires.applies c.sides_of-sides.result c.sides_of-sides.ensures.value c.if-sides.true

pub returns-else-sides : goal.returns-else-sides
returns-else-sides g c =
    let limits = Limits-case c.args.case.now c.brokers-brokers.ensures.case in
    Accepts-else g.S.Strength.HARD (g.A.Amount.weights c.args.self.now.kind) (g.B.Band.bounds c.args.self.now.band c.args.case.now) c.args.case.now c.args.book.now.lists
    limits.ids c.requires.belongs.lists_belong.one_each c.args.action c.requires.applies c.sides_of-sides.result c.sides_of-sides.ensures.value c.if-sides.false
