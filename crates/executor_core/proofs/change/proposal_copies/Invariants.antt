use Rattle.std.proofs.Common.{◌≡◌, take}
use Rattle.executor_core.proofs.change.proposal_copies.Given as goal

abbrev pub invariant-loop-proposal : goal.invariant-loop-proposal
invariant-loop-proposal l = l.copies.items ≡ take l.proposal-index l.proposals
