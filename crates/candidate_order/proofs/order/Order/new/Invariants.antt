use Rattle.std.proofs.Common.{◌≡◌, map, take}
use Rattle.plan_terms.specs.declared.cluster.Broker.{Broker}
use Rattle.candidate_order.specs.CandidateList.{replicas_of}
use Rattle.candidate_order.proofs.order.Order.new.Given as goal

abbrev pub invariant-loop-broker : goal.invariant-loop-broker
invariant-loop-broker l = l.rows.items ≡ map (λ (x : Broker). replicas_of l.case l.book.lists x.id) (take l.broker-index l.brokers)
