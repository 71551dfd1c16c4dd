use Rattle.std.proofs.Common.{rules, codes}
use Rattle.cluster_json.specs.Faults.{member_step}
use Rattle.cluster_json.proofs.Fails.{gives_under}
use Rattle.cluster_json.proofs.config.config_in.Goals as goal

pub returns-clause-means : goal.returns-clause-means
returns-clause-means c = rw (← c.get.ensures) (gives_under (member_step (codes "config")) (λ x. x) c.read_config.result c.map_err.result _ c.read_config.ensures.means c.map_err.ensures.cases (λ e f q. search rules))
