use Rattle.goal_terms.proofs.CaseLemmas.{Limits-case}
use Rattle.goal_terms.proofs.RoomLemmas.{broker-rooms_decide}
use Rattle.goal_terms.proofs.laws.broker_rooms_decide.Goals as goal

pub returns : goal.returns
returns c = λ hard w b cluster lists case belongs small. broker-rooms_decide hard w b cluster lists (Limits-case cluster case) belongs small
