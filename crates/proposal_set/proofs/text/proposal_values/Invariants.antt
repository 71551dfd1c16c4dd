use Rattle.std.proofs.Common.{◌≡◌, ◌++◌, map, drop}
use Rattle.serde_json.specs.View.{view}
use Rattle.proposal_set.specs.Text.{proposal_entries}
use Rattle.proposal_set.proofs.text.proposal_values.Given as goal

abbrev pub invariant-loop-proposal : goal.invariant-loop-proposal
invariant-loop-proposal l = map view l.entries.items ++ proposal_entries l.parts (drop l.proposal-index l.proposals) ≡ proposal_entries l.parts l.proposals
