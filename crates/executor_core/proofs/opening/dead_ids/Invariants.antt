use Rattle.std.proofs.Common.{◌≡◌, take, map}
use Rattle.std.specs.List.{filter}
use Rattle.plan_terms.specs.States.{is_dead}
use Rattle.plan_terms.specs.declared.cluster.Broker.{Broker}
use Rattle.executor_core.proofs.opening.dead_ids.Given as goal

abbrev pub invariant-loop-broker : goal.invariant-loop-broker
invariant-loop-broker l = l.ids.items ≡ map (λ (b : Broker). b.id) (filter (λ b. is_dead b.state) (take l.broker-index l.brokers))
