use Rattle.std.proofs.Common.{rules}
use Rattle.cluster_json.specs.Faults.{index_step}
use Rattle.cluster_json.specs.Views.{entry_seen}
use Rattle.cluster_json.proofs.Fails.{gives_under}
use Rattle.cluster_json.proofs.leaders.entry_item.Goals as goal

pub returns-clause-means : goal.returns-clause-means
returns-clause-means c = gives_under (index_step c.args.index) (entry_seen) c.read_entry.result c.map_err.result _ c.read_entry.ensures.means c.map_err.ensures.cases (λ e f q. search rules)
