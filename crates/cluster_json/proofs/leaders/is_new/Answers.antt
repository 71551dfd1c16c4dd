use Rattle.std.proofs.Common.{◌∙◌, ap}
use Rattle.std.specs.Prelude.{not}
use Rattle.cluster_json.proofs.LeadersLemmas.{seen-any}
use Rattle.cluster_json.proofs.leaders.is_new.Goals as goal

pub returns : goal.returns
returns c = ap not (c.contains.ensures ∙ seen-any c.args.topic.now c.args.seen.now.keys)
