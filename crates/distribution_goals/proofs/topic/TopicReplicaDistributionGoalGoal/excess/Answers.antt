use Rattle.std.proofs.Common.{◌∙◌, ◌<◌, ℕ, List, [], length, map, get_or, sym, ap, arith}
use Rattle.goal_terms.proofs.TopicGoalLemmas.{unit-here, unit-later, unit-within}
use Rattle.goal_terms.specs.Bands.{even, units_of}
use Rattle.goal_terms.specs.PerBroker.{broker_excess, unit_brokers}
use Rattle.goal_terms.specs.PerTopic.{replica_rule, topic_excesses}
use Rattle.goal_terms.specs.Quantity.{topic_weights}
use Rattle.plan_terms.specs.declared.cluster.Broker.{Broker}
use Rattle.distribution_goals.proofs.topic.TopicReplicaDistributionGoalGoal.excess.Goals as goal

pub loop-place-preserved : goal.loop-place-preserved
loop-place-preserved c =
    let rule = replica_rule (even c.args.case.now.options.topic_balance (units_of c.args.case.now)) in
    let items = c.args.self.now.topics.items in
    let count = c.unit_count-count.ensures ∙ ap (λ bs. length (unit_brokers bs)) c.brokers.ensures.value in
    let many = rw count at c.if-left-count.false in
    let within : c.loop-place.place < length items = omega (arith, c.loop-place-test.true, c.len-place-end.ensures) in
    record {
      same = rw count (sym (unit-later rule c.args.case.now c.args.book.now.lists items c.loop-place.place [] within c.loop-place.left many) ∙ c.loop-place.invariant.same);
      within = unit-within items c.loop-place.place c.loop-place.left c.unit_count-count.result within c.loop-place.invariant.within c.if-left-count.false;
    }

pub returns-then-left-count : goal.returns-then-left-count
returns-then-left-count c =
    let case = c.args.case.now in
    let lists = c.args.book.now.lists in
    let items = c.args.self.now.topics.items in
    let i = c.loop-place.place in
    let bounds = even case.options.topic_balance (units_of case) in
    let f : Broker → ℕ = broker_excess (topic_weights (get_or items i [])) bounds case lists in
    let within : i < length items = omega (arith, c.loop-place-test.true, c.len-place-end.ensures) in
    let few : c.loop-place.left < length (unit_brokers case.brokers) =
    rw (c.unit_count-count.ensures ∙ ap (λ bs. length (unit_brokers bs)) c.brokers.ensures.value) at c.if-left-count.true in
    c.excess_at_place.ensures
    ∙ ap (λ (t : List ℕ). get_or (map (broker_excess (topic_weights t) bounds case lists) case.brokers) c.unit_place-broker.result 0) c.replicas.ensures.name
    ∙ sym (rw c.brokers-then-left-count.ensures.value at (c.unit_place-broker.ensures.value f))
    ∙ sym (unit-here (replica_rule bounds) case lists items i [] within c.loop-place.left few)
    ∙ c.loop-place.invariant.same
    ∙ ap (λ ts. get_or (topic_excesses ts (replica_rule bounds) case lists) c.args.unit 0) c.requires.made.1
