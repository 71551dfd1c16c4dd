use Rattle.std.proofs.Common.{rules}
use Rattle.cluster_json.specs.Faults.{index_step}
use Rattle.cluster_json.proofs.Fails.{gives_under}
use Rattle.cluster_json.proofs.shape.item.Goals as goal

pub returns-clause-means : goal.returns-clause-means
returns-clause-means g c = gives_under (index_step c.args.index) (λ x. x) c.read.result c.map_err.result _ c.read.ensures.means c.map_err.ensures.cases (λ e f q. search rules)
