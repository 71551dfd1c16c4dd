use Rattle.cluster_gen.specs.Clusters.{cluster_text}
use Rattle.cluster_json.specs.Views.{file_seen}
use Rattle.core_terms.specs.Asked.{goals_of}
use Rattle.quiet_commands.specs.Input.{planned_for}
use Rattle.quiet_commands.proofs.Made.{summary_made}
use Rattle.quiet_commands.proofs.gens.generated.Goals as goal

pub returns : goal.returns
returns g c =
    let p = c.args.planning.now in
    let r = c.args.recipe.now in
    rw c.if-whole.false
    (summary_made (planned_for p.ask (file_seen c.args.file)) (goals_of p.ask) (cluster_text r.seed r.brokers r.partitions) c.summary.result
    (rw (c.in_ok-loaded.ensures.value, p.named) at c.summary.ensures))
