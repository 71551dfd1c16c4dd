use Rattle.std.proofs.Common.{rules, codes}
use Rattle.cluster_json.specs.Faults.{member_step}
use Rattle.cluster_json.specs.Views.{entries_seen}
use Rattle.cluster_json.proofs.Fails.{gives_under}
use Rattle.cluster_json.proofs.capacities.entries_in.Goals as goal

pub returns : goal.returns
returns c = rw (← c.get.ensures) (gives_under (member_step (codes "brokerCapacities")) (entries_seen) c.read_entries-entries.result c.map_err.result _ c.read_entries-entries.ensures c.map_err.ensures.cases (λ e f q. search rules))
