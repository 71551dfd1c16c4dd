use Rattle.std.proofs.Common.{◌≡◌, ◌++◌, take, drop, map}
use Rattle.exec_terms.specs.Stops.{killed_by}
use Rattle.executor_core.specs.Kept.{slot_of}
use Rattle.executor_core.proofs.change.drop_doomed.Given as goal

abbrev pub invariant-loop-i : goal.invariant-loop-i
invariant-loop-i l = l.queue ≡ map (λ t. slot_of (killed_by l.broker t)) (take l.i l.tasks) ++ map slot_of (drop l.i l.tasks)
