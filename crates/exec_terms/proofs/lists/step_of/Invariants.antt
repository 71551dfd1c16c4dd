use Rattle.std.proofs.Common.{◌≡◌, drop}
use Rattle.std.specs.Prelude.{slice_get}
use Rattle.exec_terms.specs.Words.{copies_of}
use Rattle.plan_terms.specs.Change.{added}
use Rattle.exec_terms.proofs.lists.step_of.Given as goal

abbrev pub invariant-loop-b : goal.invariant-loop-b
invariant-loop-b l = slice_get (copies_of (added l.before (drop l.b-index l.after)) l.chunks) l.left ≡ slice_get (copies_of (added l.before l.after) l.chunks) l.done
