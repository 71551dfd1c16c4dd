use Rattle.std.proofs.Common.{◌∙◌, ◌<◌, length, Some, sym, subst, arith}
use Rattle.std.proofs.lemmas.List.{length-set}
use Rattle.exec_terms.specs.declared.task.Task.{Task}
use Rattle.executor_core.proofs.Places.{none_read, some_read, noted-new, noted-old}
use Rattle.executor_core.proofs.scan.places_by_part.Goals as goal
use Rattle.executor_core.proofs.scan.places_by_part.Goals.{then-is_none, else-is_none}

pub loop-place-preserved : goal.loop-place-preserved
loop-place-preserved c =
    let old = c.loop-place.places in
    let task = c.index-tasks-place.result in
    let tasks = c.args.tasks.now in
    let InParts : Task → Type 0 = λ t. t.part < c.args.parts in
    let here : task.part < c.args.parts = subst InParts (sym c.index-tasks-place.is) (c.requires.known c.loop-place.place task c.loop-place-test.true) in
    let within : task.part < length old.items = omega (arith, c.loop-place.invariant.long) in
    elim c.if-is_none.branch [
      | then-is_none w ↦ record {
        long = rw w.places-is (length-set old.items task.part (Some c.loop-place.place) ∙ c.loop-place.invariant.long);
        each = rw w.places-is (noted-new tasks c.loop-place.place task old.items c.args.parts c.loop-place-test.true c.index-tasks-place.is c.loop-place.invariant.long here
            (none_read old.items task.part c.index.result.now c.is_none.result within c.index.ensures c.is_none.ensures w.if-is_none.true) c.loop-place.invariant.each);
      }
      | else-is_none w ↦ record {
        long = rw w.places-is c.loop-place.invariant.long;
        each = rw w.places-is (noted-old tasks c.loop-place.place task old.items c.args.parts c.loop-place-test.true c.index-tasks-place.is
            (some_read old.items task.part c.index.result.now c.is_none.result within c.index.ensures c.is_none.ensures w.if-is_none.false) c.loop-place.invariant.each);
      }
    ]
