use Rattle.std.proofs.Common.{◌+◌, ◌*◌}
use Rattle.live_service.proofs.links.+accept_links+fn-accept_links-join+arg2.Given as goal

abbrev pub decreases-accept_links : goal.decreases-accept_links
decreases-accept_links g l = 2 * l.links

abbrev pub decreases-join+arg2 : goal.decreases-join+arg2
decreases-join+arg2 g l = 2 * l.fewer + 1
