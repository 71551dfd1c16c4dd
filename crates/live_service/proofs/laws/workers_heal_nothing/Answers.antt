use Rattle.rest_session.specs.Heals.{is_heal}
use Rattle.rest_session.proofs.Spared.{heal_spared}
use Rattle.live_service.proofs.Unclosed.{mover_free, planner_free}
use Rattle.live_service.proofs.laws.workers_heal_nothing.Goals as goal

pub returns-clause-movers : goal.returns-clause-movers
returns-clause-movers c = mover_free is_heal heal_spared

pub returns-clause-planners : goal.returns-clause-planners
returns-clause-planners c = planner_free is_heal heal_spared
