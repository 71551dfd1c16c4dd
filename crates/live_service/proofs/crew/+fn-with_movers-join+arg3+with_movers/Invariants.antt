use Rattle.std.proofs.Common.{◌+◌, ◌*◌}
use Rattle.live_service.proofs.crew.+fn-with_movers-join+arg3+with_movers.Given as goal

abbrev pub decreases-join+arg3 : goal.decreases-join+arg3
decreases-join+arg3 g l = 2 * l.fewer + 1

abbrev pub decreases-with_movers : goal.decreases-with_movers
decreases-with_movers g l = 2 * l.movers
