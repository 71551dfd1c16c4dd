use Rattle.std.proofs.Common.{get_or}
use Rattle.goal_terms.proofs.BoundLemmas.{quantity-small}
use Rattle.goal_terms.proofs.CaseLemmas.{Limits-case}
use Rattle.plan_terms.specs.Cluster.{id_at}
use Rattle.broker_goals.proofs.excess.amount_at.Goals as goal

pub returns-clause-small : goal.returns-clause-small
returns-clause-small g c =
    let limits = Limits-case c.args.case.now c.brokers-brokers.ensures.case in
    rw c.amount.ensures (quantity-small (g.A.Amount.weights c.args.kind.now) c.args.case.now c.args.book.now.lists limits
    (λ k d l. g.met.A.Amount.small_weights c.args.kind.now (get_or c.args.case.now.parts k d) (limits.loads k d l)) c.requires.belongs.lists_belong (id_at c.args.case.now.brokers c.args.broker))
