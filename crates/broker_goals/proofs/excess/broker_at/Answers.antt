use Rattle.goal_terms.proofs.CaseLemmas.{Limits-case}
use Rattle.broker_goals.proofs.excess.broker_at.Goals as goal

pub returns-clause-cap : goal.returns-clause-cap
returns-clause-cap c =
    let limits = Limits-case c.args.case.now c.brokers.ensures.case in
    rw (← c.index-brokers-place.is) at (rw (← c.brokers.ensures.value) at (limits.caps c.args.place c.index-brokers-place.result c.requires))
