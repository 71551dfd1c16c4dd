use Rattle.std.proofs.Common.{◌∙◌, List, ◌++◌, ◌∷◌, [], map, take, ap, sym}
use Rattle.std.specs.List.{enumerate_from}
use Rattle.core_terms.specs.Shows.{task_shown}
use Rattle.core_terms.specs.declared.shows.TaskShown.{TaskShown}
use Rattle.core_cases.proofs.Listed.{placed-more}
use Rattle.core_cases.proofs.shows.tasks_shown.Goals as goal

pub loop-place-preserved : goal.loop-place-preserved
loop-place-preserved c =
    let front = map task_shown (enumerate_from 0 (take c.loop-place.place c.args.tasks.now)) in
    c.in_ok-push.ensures.items ∙ ap (λ (xs : List TaskShown). xs ++ c.task_shown.result ∷ []) c.loop-place.invariant
    ∙ ap (λ (x : TaskShown). front ++ x ∷ []) c.task_shown.ensures ∙ sym (placed-more task_shown c.args.tasks.now c.loop-place.place c.index-tasks-place.result c.loop-place-test.true c.index-tasks-place.is)
