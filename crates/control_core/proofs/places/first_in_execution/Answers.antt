use Rattle.std.proofs.Common.{◌≡◌, ◌∙◌}
use Rattle.std.specs.Prelude.{find}
use Rattle.core_terms.specs.Jobs.{is_in_execution, user_task_at}
use Rattle.control_core.specs.Desks.{open_places}
use Rattle.control_core.proofs.Open.{executing_within, found_executing}
use Rattle.control_core.proofs.places.first_in_execution.Goals as goal

pub returns-clause-place : goal.returns-clause-place
returns-clause-place c =
    let among : c.executing_among.result ≡ find (λ i. is_in_execution (user_task_at c.args.tasks.now i).status) (open_places c.args.tasks.now) = rw c.requires at c.executing_among.ensures in
    among ∙ found_executing c.args.tasks.now

pub returns-clause-within : goal.returns-clause-within
returns-clause-within c =
    let among : c.executing_among.result ≡ find (λ i. is_in_execution (user_task_at c.args.tasks.now i).status) (open_places c.args.tasks.now) = rw c.requires at c.executing_among.ensures in
    executing_within c.args.tasks.now c.executing_among.result (among ∙ found_executing c.args.tasks.now)
