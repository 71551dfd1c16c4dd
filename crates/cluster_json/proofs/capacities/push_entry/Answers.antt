use Rattle.std.proofs.Common.{◌∙◌}
use Rattle.indexmap.proofs.CallerLemmas.{insert_entry-new}
use Rattle.cluster_json.specs.Capacities.{same_owner}
use Rattle.cluster_json.proofs.capacities.push_entry.Goals as goal

pub returns-clause-ok : goal.returns-clause-ok
returns-clause-ok c = c.in_ok-insert.ensures.entries ∙ insert_entry-new same_owner c.args.entries.now c.args.owner c.args.cap c.requires
