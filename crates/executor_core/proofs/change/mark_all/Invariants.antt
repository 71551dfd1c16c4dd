use Rattle.std.proofs.Common.{◌≡◌, ◌++◌, take, drop, map}
use Rattle.exec_terms.specs.Stops.{marked}
use Rattle.executor_core.proofs.change.mark_all.Given as goal

abbrev pub invariant-loop-host : goal.invariant-loop-host
invariant-loop-host l = l.host-items ≡ map (marked l.broker) (take l.host-index l.initial.host-items) ++ drop l.host-index l.initial.host-items
