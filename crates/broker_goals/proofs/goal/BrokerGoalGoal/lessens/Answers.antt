use Rattle.goal_terms.proofs.BrokerLemmas.{Lessens-sides}
use Rattle.goal_terms.proofs.CaseLemmas.{Limits-case}
use Rattle.broker_goals.proofs.goal.BrokerGoalGoal.lessens.Goals as goal

pub returns : goal.returns
returns g c =
    let limits = Limits-case c.args.case.now c.brokers-brokers.ensures.case in
    Lessens-sides g.S.Strength.HARD (g.A.Amount.weights c.args.self.now.kind) (g.B.Band.bounds c.args.self.now.band c.args.case.now) c.args.case.now c.args.book.now.lists
    limits.ids c.requires.belongs.lists_belong.one_each c.args.action c.requires.applies c.sides_of-sides.result c.sides_of-sides.ensures.value
