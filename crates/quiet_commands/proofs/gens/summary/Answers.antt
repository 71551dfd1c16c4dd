use Rattle.quiet_commands.proofs.Made.{summed}
use Rattle.quiet_commands.specs.Input.{cluster_lists}
use Rattle.quiet_commands.proofs.gens.summary.Goals as goal

pub returns-in_ok-text-in-Ok : goal.returns-in_ok-text-in-Ok
returns-in_ok-text-in-Ok g c = record { plan = c.in-Ok.plan; planned = c.in-Ok.ensures.plan; spelled = c.in_ok-text-in-Ok.ensures }

pub returns-in-Err-Goal : goal.returns-in-Err-Goal
returns-in-Err-Goal g c =
    summed (cluster_lists c.args.loaded.now) c.args.goals.now c.in-Err-Goal.failure (rw c.in-Err-Goal.field-0-is at c.in-Err-Goal.ensures.fault) c.failed.result c.failed.ensures
