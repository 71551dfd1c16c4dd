-- The lists and the calls that an admin tells after the call that goes with an event.
use Rattle.std.specs.Prelude.{ℕ, List, Option, Result, Ok, Err, if◌then◌else◌}
use Rattle.plan_terms.specs.Cluster.{Lists}
use Rattle.cluster_gate.specs.Calls.{AdminCall, with_call}
use Rattle.cluster_gate.specs.Calls as call
use Rattle.cluster_gate.specs.Lists.{with_list}
use Rattle.exec_terms.specs.Words.{union_of}
use Rattle.exec_terms.specs.Machine.{State, task_at, next_work}
use Rattle.exec_terms.specs.Leases.{test_lease}
use Rattle.exec_terms.specs.declared.task.Task.{Task}
use Rattle.exec_terms.specs.declared.replies.Given.{Given}
use Rattle.exec_terms.specs.declared.replies.Idle.{Idle}
use Rattle.exec_terms.specs.declared.replies.LeaseFault.{LeaseFault}
use Rattle.exec_terms.specs.declared.work.WorkKind.TheVariants.{Commit as ForCommit, Cancel as ForCancel}
use Rattle.core_terms.specs.declared.events.Event.{Event}
use Rattle.core_terms.specs.declared.events.Event.TheVariants as event

-- the partition of a task that begins has both its lists
abbrev pub begun : State → Option Lists → Result Given Idle → Option Lists
begun s told (Err why) = told
begun s told (Ok g) = if g.starts then with_list told g.part (union_of (task_at s.tasks g.task)) else told

-- the partition of the task of a lease has one of its lists, where the lease is worth it
abbrev pub written : (Task → List ℕ) → State → Option Lists → Result ℕ LeaseFault → Option Lists
written list s told (Err fault) = told
written list s told (Ok i) = with_list told (task_at s.tasks i).part (list (task_at s.tasks i))

-- what is told after an event: a task that begins has both its lists, one that is committed the new one, one that is cancelled the
-- old one; no other event calls the admin
abbrev pub told_after : State → Event → Option Lists → Option Lists
told_after s event.Take told = begun s told (next_work s)
told_after s (event.Commit lease) told = written (λ t. t.after) s told (test_lease s lease ForCommit)
told_after s (event.Cancel lease) told = written (λ t. t.before) s told (test_lease s lease ForCancel)
told_after s _ told = told

-- the same of the calls: a task that begins is begun with both its lists
abbrev pub with_begun : State → Option (List AdminCall) → Result Given Idle → Option (List AdminCall)
with_begun s calls (Err why) = calls
with_begun s calls (Ok g) = if g.starts then with_call calls (call.begun g.part (union_of (task_at s.tasks g.task))) else calls

-- the one that ends it, where its lease is worth it, has one of them
abbrev pub with_written : (ℕ → List ℕ → AdminCall) → (Task → List ℕ) → State → Option (List AdminCall) → Result ℕ LeaseFault → Option (List AdminCall)
with_written write list s calls (Err fault) = calls
with_written write list s calls (Ok i) = with_call calls (write (task_at s.tasks i).part (list (task_at s.tasks i)))

-- no other event calls the admin
abbrev pub calls_after : State → Event → Option (List AdminCall) → Option (List AdminCall)
calls_after s event.Take calls = with_begun s calls (next_work s)
calls_after s (event.Commit lease) calls = with_written call.committed (λ t. t.after) s calls (test_lease s lease ForCommit)
calls_after s (event.Cancel lease) calls = with_written call.cancelled (λ t. t.before) s calls (test_lease s lease ForCancel)
calls_after s _ calls = calls
