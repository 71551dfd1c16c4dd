use Rattle.std.proofs.Common.{◌∙◌, sym, arith}
use Rattle.std.specs.Prelude.{slice_index}
use Rattle.goal_terms.proofs.BandLemmas.{whole_cap-le}
use Rattle.goal_terms.proofs.CaseLemmas.{Limits-case}
use Rattle.goal_terms.proofs.UnitSums.{units-sum-unit}
use Rattle.plan_terms.specs.declared.cluster.Broker.{Broker}
use Rattle.broker_goals.proofs.usage.whole_cap_of.Goals as goal

pub overflow_add-whole : goal.overflow_add-whole
overflow_add-whole c =
    let cap = λ (x : Broker). slice_index x.cap c.args.place in
    let items = c.brokers-broker-items.result.now in
    let live = sym c.is_dead.ensures ∙ c.if-not-is_dead.true in
    let step = rw (← c.broker-item.is) at (units-sum-unit cap items c.loop-broker.broker-index c.broker-item.result c.loop-broker-test.true (rw (← c.broker-item.is) live)) in
    let small = rw (← c.brokers-broker-items.ensures.value) at (whole_cap-le c.args.place c.args.case.now (Limits-case c.args.case.now c.brokers-broker-items.ensures.case)) in
    omega (arith, c.loop-broker.invariant, step, small)
