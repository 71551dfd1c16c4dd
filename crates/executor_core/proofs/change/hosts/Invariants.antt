use Rattle.std.proofs.Common.{◌≡◌, take}
use Rattle.exec_terms.specs.Runs.{hosts_of}
use Rattle.executor_core.proofs.change.hosts.Given as goal

abbrev pub invariant-loop-broker : goal.invariant-loop-broker
invariant-loop-broker l = l.hosts.items ≡ hosts_of (take l.broker-index l.brokers) l.dead
