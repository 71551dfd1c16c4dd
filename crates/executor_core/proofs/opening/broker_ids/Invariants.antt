use Rattle.std.proofs.Common.{◌≡◌, take, map}
use Rattle.plan_terms.specs.declared.cluster.Broker.{Broker}
use Rattle.executor_core.proofs.opening.broker_ids.Given as goal

abbrev pub invariant-loop-broker : goal.invariant-loop-broker
invariant-loop-broker l = l.ids.items ≡ map (λ (b : Broker). b.id) (take l.broker-index l.brokers)
