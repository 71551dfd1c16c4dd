use Rattle.std.proofs.Common.{◌≡◌, length, false, ap, ◌∙◌}
use Rattle.std.proofs.lemmas.List.{length-map}
use Rattle.exec_terms.specs.declared.task.Task.{Task}
use Rattle.task_index.specs.Index.{Marks, wants_cancel, may_go_on, number_in}
use Rattle.task_index.proofs.Notes.{noted}
use Rattle.task_index.proofs.index.TaskIndex.note_all.Goals as goal

pub loop-place-preserved : goal.loop-place-preserved
loop-place-preserved c =
    let x : Task = c.index-tasks-place.result in
    let many : length c.self.inside.leases ≡ length c.args.tasks.now = ap (λ (m : Marks). length m.leases) c.self.view_is ∙ ap length c.requires ∙ length-map c.args.tasks.now number_in in
    record {
      cancels = rw (c.put.ensures, c.wants_cancel.ensures) (noted wants_cancel c.args.tasks.now c.self.inside.to_cancel c.loop-place.self-inside.to_cancel c.loop-place.place x false c.loop-place-test.true (c.self.invariant.cancels ∙ many) c.index-tasks-place.is c.loop-place.invariant.cancels);
      steps = rw (c.put-in-loop-place.ensures, c.may_go_on.ensures) (noted may_go_on c.args.tasks.now c.self.inside.to_go_on c.loop-place.self-inside.to_go_on c.loop-place.place x false c.loop-place-test.true (c.self.invariant.steps ∙ many) c.index-tasks-place.is c.loop-place.invariant.steps);
      leases = c.loop-place.invariant.leases;
    }
