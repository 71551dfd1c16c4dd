use Rattle.std.proofs.Common.{◌≡◌, take}
use Rattle.load_model.proofs.case.copy_brokers.Given as goal

abbrev pub invariant-loop-broker : goal.invariant-loop-broker
invariant-loop-broker l = l.copies.items ≡ take l.broker-index l.brokers
