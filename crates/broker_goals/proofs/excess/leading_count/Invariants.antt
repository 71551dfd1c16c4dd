use Rattle.std.proofs.Common.{◌≡◌, ◌+◌, ◌≤◌, length, drop}
use Rattle.goal_terms.specs.LeastLeaders.{leading_brokers}
use Rattle.broker_goals.proofs.excess.leading_count.Given as goal

abbrev pub invariant-loop-broker : goal.invariant-loop-broker
invariant-loop-broker l = record {
  rest : l.count + length (leading_brokers (drop l.broker-index l.brokers)) ≡ length (leading_brokers l.brokers);
  few : l.count ≤ l.broker-index;
}
