use Rattle.proposal_set.proofs.Carrying.{carried_out-proposals}
use Rattle.proposal_set.proofs.laws.proposals_lead_from_before_to_after.Goals as goal

pub returns : goal.returns
returns c = carried_out-proposals
