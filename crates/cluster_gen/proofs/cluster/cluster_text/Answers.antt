use Rattle.std.proofs.Common.{◌≤◌, Some, ap, ◌∙◌}
use Rattle.serde_json.specs.Data.{depth}
use Rattle.serde_json.specs.View.{view}
use Rattle.serde_json.specs.Written.{has_float, compact_text}
use Rattle.cluster_gen.specs.Clusters.{cluster_text}
use Rattle.cluster_gen.proofs.Plain.{IsPlain-cluster}
use Rattle.cluster_gen.proofs.cluster.cluster_text.Goals as goal

pub returns-clause-text : goal.returns-clause-text
unfolding cluster_text
returns-clause-text c =
    let is = c.in_ok-value.ensures in
    let plain = IsPlain-cluster c.args.seed c.args.brokers c.args.partitions in
    c.in_ok-to_vec.ensures.text (ap has_float is ∙ plain.no_float) ∙ ap compact_text is

pub returns-clause-reads : goal.returns-clause-reads
returns-clause-reads c =
    let is = c.in_ok-value.ensures in
    let plain = IsPlain-cluster c.args.seed c.args.brokers c.args.partitions in
    let shallow : depth (view c.in_ok-value.value) ≤ 127 = rw is plain.flat in
    c.in_ok-to_vec.ensures.reads_back shallow ∙ ap Some is
