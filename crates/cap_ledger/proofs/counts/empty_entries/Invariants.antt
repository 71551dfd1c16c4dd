use Rattle.std.proofs.Common.{◌≡◌, take, map}
use Rattle.cap_ledger.specs.Entries.{empty_entry}
use Rattle.cap_ledger.proofs.counts.empty_entries.Given as goal

abbrev pub invariant-loop-broker : goal.invariant-loop-broker
invariant-loop-broker l = l.entries.items ≡ map empty_entry (take l.broker-index l.brokers)
