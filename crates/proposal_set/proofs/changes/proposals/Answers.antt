use Rattle.std.proofs.Common.{◌≡◌, length, arith}
use Rattle.plan_terms.specs.Change.{proposals}
use Rattle.proposal_set.proofs.Places.{proposals_within}
use Rattle.proposal_set.proofs.changes.proposals.Goals as goal

pub returns-clause-within : goal.returns-clause-within
unfolding proposals
returns-clause-within c =
    let end : c.loop-part.part ≡ length c.args.before.now = omega (arith, c.loop-part-test.false, c.loop-part.auto.part-end, c.len-part-end.ensures.value) in
    rw (c.loop-part.invariant, end) (proposals_within c.args.before.now c.args.after.now)
