use Rattle.std.proofs.Common.{◌≡◌, ◌+◌, drop}
use Rattle.std.specs.Prelude.{slice_index}
use Rattle.std.specs.List.{sum_by}
use Rattle.goal_terms.specs.PerBroker.{unit_brokers}
use Rattle.plan_terms.specs.declared.cluster.Broker.{Broker}
use Rattle.broker_goals.proofs.usage.whole_cap_of.Given as goal

abbrev pub invariant-loop-broker : goal.invariant-loop-broker
invariant-loop-broker l =
    l.whole + sum_by (λ (x : Broker). slice_index x.cap l.place) (unit_brokers (drop l.broker-index l.broker-items))
    ≡ sum_by (λ (x : Broker). slice_index x.cap l.place) (unit_brokers l.broker-items)
