use Rattle.std.proofs.Common.{append-nil, inl, inr}
use Rattle.proposal_set.proofs.Entries.{list_entries-no_part, list_entries-no_list}
use Rattle.proposal_set.proofs.text.list_values.Goals as goal

pub returns : goal.returns
returns c =
    let rest = c.loop-part.part-iterator in
    elim c.in-None.ensures.steps [
      | inl w ↦ rw (list_entries-no_part rest.a.rest.now rest.b.rest.now w.1.0, append-nil) at c.loop-part.invariant
      | inr w ↦ rw (list_entries-no_list rest.a.rest.now rest.b.rest.now w.1.0, append-nil) at c.loop-part.invariant
    ]
