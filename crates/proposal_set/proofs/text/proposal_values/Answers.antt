use Rattle.std.proofs.Common.{append_assoc}
use Rattle.std.proofs.lemmas.List.{map-append}
use Rattle.proposal_set.proofs.Entries.{proposal_entries-drop}
use Rattle.proposal_set.proofs.text.proposal_values.Goals as goal

pub loop-proposal-preserved : goal.loop-proposal-preserved
loop-proposal-preserved c =
    let next = proposal_entries-drop c.args.parts.now c.args.proposals.now c.loop-proposal.proposal-index c.proposal-item.result c.index-parts-proposal.result
    c.requires c.loop-proposal-test.true c.proposal-item.is c.index-parts-proposal.is in
    rw (c.in_ok-push.ensures.items, map-append, append_assoc, c.in_ok-entry_value.ensures, c.as_slice.ensures) (rw next at c.loop-proposal.invariant)
