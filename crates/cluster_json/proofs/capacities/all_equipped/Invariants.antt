use Rattle.std.proofs.Common.{◌≡◌}
use Rattle.cluster_json.specs.Capacities.{all_equipped}
use Rattle.cluster_json.specs.Views.{entries_seen}
use Rattle.cluster_json.proofs.Fails.{with_front}
use Rattle.cluster_json.proofs.capacities.all_equipped.Given as goal

abbrev pub invariant-loop-broker : goal.invariant-loop-broker
invariant-loop-broker l = with_front l.whole.items (all_equipped (entries_seen l.entries) l.broker-iterator.rest.items) ≡ all_equipped (entries_seen l.entries) l.fn.brokers.items
