use Rattle.std.proofs.Common.{◌≡◌, ◌++◌, take, drop, map}
use Rattle.task_index.specs.Index.{wants_cancel, may_go_on}
use Rattle.task_index.proofs.index.TaskIndex.note_all.Given as goal

abbrev pub invariant-loop-place : goal.invariant-loop-place
invariant-loop-place l = record {
  cancels : l.self-inside.to_cancel ≡ map wants_cancel (take l.place l.tasks) ++ drop l.place l.initial.self-inside.to_cancel;
  steps : l.self-inside.to_go_on ≡ map may_go_on (take l.place l.tasks) ++ drop l.place l.initial.self-inside.to_go_on;
  leases : l.self-inside.leases ≡ l.initial.self-inside.leases;
}
