use Rattle.std.proofs.lemmas.Bool.{both_ways}
use Rattle.serde_json.specs.View.{view}
use Rattle.cluster_json.proofs.FileLemmas.{meaning_of-read, meaning_of-refused}
use Rattle.cluster_json.proofs.file.read_cluster.Goals as goal

pub returns-in-Ok-clause-means : goal.returns-in-Ok-clause-means
returns-in-Ok-clause-means c = rw (meaning_of-read c.args.bytes.now (view c.in-Ok.value) c.in-Ok.ensures.ok.0 c.in-Ok.ensures.ok.1) c.read_file.ensures.means

pub returns-in-Err-2-clause-means : goal.returns-in-Err-2-clause-means
returns-in-Err-2-clause-means c = meaning_of-refused c.args.bytes.now (c.in-Err.ensures.err (λ oom. both_ways _ c.if-is_memory.false (c.is_memory.ensures.1 oom)))
