use Rattle.std.proofs.Common.{rules}
use Rattle.cluster_json.specs.Faults.{member_step}
use Rattle.cluster_json.proofs.Fails.{gives_under}
use Rattle.cluster_json.proofs.shape.optional.Goals as goal

pub returns-clause-means : goal.returns-clause-means
returns-clause-means g c = rw (← c.get.ensures) (gives_under (member_step c.args.name.now) (λ x. x) c.read_optional.result c.map_err.result _ c.read_optional.ensures.means c.map_err.ensures.cases (λ e f q. search rules))
