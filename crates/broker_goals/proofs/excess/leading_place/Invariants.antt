use Rattle.std.proofs.Common.{◌≡◌, ℕ, ◌<◌, map, get_or, length, drop}
use Rattle.goal_terms.specs.LeastLeaders.{leading_brokers}
use Rattle.plan_terms.specs.declared.cluster.Broker.{Broker}
use Rattle.broker_goals.proofs.excess.leading_place.Given as goal

abbrev pub invariant-loop-place : goal.invariant-loop-place
invariant-loop-place l = record {
  same : (f : Broker → ℕ) → get_or (map f (leading_brokers (drop l.place l.brokers))) l.left 0 ≡ get_or (map f (leading_brokers l.brokers)) l.unit 0;
  within : l.left < length (leading_brokers (drop l.place l.brokers));
}
