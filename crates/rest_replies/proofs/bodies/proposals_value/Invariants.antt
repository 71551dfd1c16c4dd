use Rattle.std.proofs.Common.{◌≡◌, map, take}
use Rattle.serde_json.specs.View.{view}
use Rattle.rest_replies.specs.Bodies.{proposal_data}
use Rattle.rest_replies.proofs.bodies.proposals_value.Given as goal

abbrev pub invariant-loop-proposal : goal.invariant-loop-proposal
invariant-loop-proposal l = map view l.list.items ≡ map proposal_data (take l.proposal-index l.proposals)
