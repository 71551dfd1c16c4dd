use Rattle.std.proofs.Common.{arith, ◌^◌}
use Rattle.goal_terms.proofs.BandLemmas.{whole_cap-le}
use Rattle.goal_terms.proofs.BoundLemmas.{product-le}
use Rattle.goal_terms.proofs.CaseLemmas.{Limits-case}
use Rattle.broker_goals.proofs.usage.use_scale.Goals as goal

pub overflow_mul-result : goal.overflow_mul-result
overflow_mul-result c =
    let cap = whole_cap-le c.args.place c.args.case.now (Limits-case c.args.case.now c.brokers-brokers.ensures.case) in
    let few = product-le c.args.whole c.from.result (2 ^ 48) 1000 (omega arith) (omega arith) in
    omega arith
