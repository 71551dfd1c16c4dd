use Rattle.std.proofs.Common.{◌≡◌}
use Rattle.proposal_set.proofs.Below.{changes_below}
use Rattle.proposal_set.proofs.changes.proposals.Given as goal

abbrev pub invariant-loop-part : goal.invariant-loop-part
invariant-loop-part l = l.changes.items ≡ changes_below l.before l.after l.part
