use Rattle.std.proofs.Common.{◌≡◌, take}
use Rattle.plan_terms.specs.Change.{union}
use Rattle.exec_terms.proofs.lists.union.Given as goal

abbrev pub invariant-loop-b : goal.invariant-loop-b
invariant-loop-b l = l.ids.items ≡ union l.before (take l.b-index l.after)
