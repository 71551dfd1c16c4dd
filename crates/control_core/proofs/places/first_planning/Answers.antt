use Rattle.std.proofs.Common.{◌≡◌, ◌∙◌}
use Rattle.std.specs.Prelude.{find}
use Rattle.core_terms.specs.Jobs.{plans_execution, user_task_at}
use Rattle.control_core.specs.Desks.{open_places}
use Rattle.control_core.proofs.Open.{found_planning}
use Rattle.control_core.proofs.places.first_planning.Goals as goal

pub returns : goal.returns
returns c =
    let among : c.planning_among.result ≡ find (λ i. plans_execution (user_task_at c.args.tasks.now i)) (open_places c.args.tasks.now) = rw c.requires at c.planning_among.ensures in
    among ∙ found_planning c.args.tasks.now
