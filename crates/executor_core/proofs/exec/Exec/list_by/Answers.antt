use Rattle.std.proofs.Common.{◌≡◌, ◌∙◌, ◌<◌, Some, length, position, ap, sym}
use Rattle.std.proofs.lemmas.List.Quantifiers.{position-Some}
use Rattle.exec_terms.specs.Words.{is_on}
use Rattle.exec_terms.specs.Machine.{State}
use Rattle.executor_core.proofs.Shown.{list_shown-few}
use Rattle.executor_core.proofs.exec.Exec.list_by.Goals as goal

pub returns-in-Some-clause-few : goal.returns-in-Some-clause-few
returns-in-Some-clause-few c =
    let tasks = c.self.inside.tasks.items in
    let task = c.index-in-Some.result.now in
    let place : position (is_on c.args.part) tasks ≡ Some c.in-Some.i =
    ap (λ (s : State). position (is_on c.args.part) s.tasks) c.self.view_is ∙ sym c.requires.task ∙ c.in-Some.is in
    let within : c.in-Some.i < length tasks = (position-Some (is_on c.args.part) tasks c.in-Some.i task place).0 in
    rw c.shown.ensures (list_shown-few _ _ _ _ tasks c.in-Some.i task within c.index-in-Some.ensures c.self.invariant.valid.each)
