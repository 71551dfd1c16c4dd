use Rattle.std.proofs.Common.{◌+◌, ◌*◌}
use Rattle.live_service.proofs.lanes.+fn-serve_lanes-join+arg2+serve_lanes.Given as goal

abbrev pub decreases-serve_lanes : goal.decreases-serve_lanes
decreases-serve_lanes g l = 2 * l.lanes

abbrev pub decreases-join+arg2 : goal.decreases-join+arg2
decreases-join+arg2 g l = 2 * l.fewer + 1
