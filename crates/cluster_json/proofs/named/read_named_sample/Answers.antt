use Rattle.std.proofs.lemmas.Bool.{both_ways}
use Rattle.serde_json.specs.View.{view}
use Rattle.cluster_json.proofs.NamedLemmas.{named_of-read, named_of-refused}
use Rattle.cluster_json.proofs.named.read_named_sample.Goals as goal

pub returns-in-Ok-clause-means : goal.returns-in-Ok-clause-means
returns-in-Ok-clause-means c = rw (named_of-read c.args.bytes.now (view c.in-Ok.value) c.in-Ok.ensures.ok.0 c.in-Ok.ensures.ok.1) c.read_named.ensures.means

pub returns-in-Err-2-clause-means : goal.returns-in-Err-2-clause-means
returns-in-Err-2-clause-means c = named_of-refused c.args.bytes.now (c.in-Err.ensures.err (λ oom. both_ways _ c.if-is_memory.false (c.is_memory.ensures.1 oom)))
