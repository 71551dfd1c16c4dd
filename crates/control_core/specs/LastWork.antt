-- The last work on a task.
use Rattle.std.specs.Prelude.{ℕ, List}
use Rattle.exec_terms.specs.declared.task.Task.{Task}
use Rattle.exec_terms.specs.declared.work.WorkKind.{WorkKind}
use Rattle.exec_terms.specs.declared.work.WorkKind.TheVariants.{Cancel as ForCancel}
use Rattle.cluster_gate.specs.Calls.{AdminCall}
use Rattle.cluster_gate.specs.Calls as call

-- the list that its partition has afterwards: after a cancel the old one, else the new one
abbrev pub last_list : WorkKind → Task → List ℕ
last_list ForCancel task = task.before
last_list _ task = task.after

-- and the call that sets it
abbrev pub last_call : WorkKind → ℕ → List ℕ → AdminCall
last_call ForCancel = call.cancelled
last_call _ = call.committed
