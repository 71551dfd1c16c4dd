use Rattle.std.proofs.Common.{◌≡◌, ◌++◌, take, drop, map}
use Rattle.cap_ledger.specs.Entries.{entered}
use Rattle.cap_ledger.proofs.entry.enter_all.Given as goal

abbrev pub invariant-loop-entry : goal.invariant-loop-entry
invariant-loop-entry l = l.entry-items ≡ map (entered l.before l.after) (take l.entry-index l.initial.entry-items) ++ drop l.entry-index l.initial.entry-items
