use Rattle.std.proofs.Common.{◌≡◌, ◌++◌, map}
use Rattle.serde_json.specs.View.{view}
use Rattle.proposal_set.specs.Text.{list_entries}
use Rattle.proposal_set.proofs.text.list_values.Given as goal

abbrev pub invariant-loop-part : goal.invariant-loop-part
invariant-loop-part l = map view l.entries.items ++ list_entries l.part-iterator.a.rest.now l.part-iterator.b.rest.now ≡ list_entries l.parts l.lists
