use Rattle.std.proofs.Common.{◌∙◌, ap}
use Rattle.cluster_json.specs.Views.{texts_seen}
use Rattle.cluster_json.proofs.LeadersLemmas.{seen-new}
use Rattle.cluster_json.proofs.leaders.note.Goals as goal

pub returns : goal.returns
returns c = ap texts_seen c.in_ok-_is_new.ensures.keys ∙ seen-new c.args.topic c.args.seen.now.keys c.requires
