use Rattle.std.proofs.Common.{rules, codes}
use Rattle.cluster_json.specs.Faults.{member_step}
use Rattle.cluster_json.proofs.Fails.{gives_under}
use Rattle.cluster_json.proofs.leaders.topic_in.Goals as goal

pub returns-clause-means : goal.returns-clause-means
returns-clause-means c = rw (← c.get.ensures) (gives_under (member_step (codes "topic")) (λ s. s.now) c.read_topic.result c.map_err.result _ c.read_topic.ensures.means c.map_err.ensures.cases (λ e f q. search rules))
