use Rattle.std.proofs.Common.{◌≡◌}
use Rattle.serde_json.specs.View.{members_view}
use Rattle.cluster_json.specs.Config.{settings_of}
use Rattle.cluster_json.proofs.config.check_members.Given as goal

abbrev pub invariant-loop-name : goal.invariant-loop-name
invariant-loop-name l = settings_of (members_view l.name-iterator) ≡ settings_of (members_view l.members.entries)
