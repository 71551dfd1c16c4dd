use Rattle.goal_terms.proofs.RoomLemmas.{broker-rooms_stay}
use Rattle.goal_terms.proofs.laws.rooms_stay.Goals as goal

pub returns : goal.returns
returns c = λ w b cluster lists a belongs fit k h i. broker-rooms_stay w b cluster lists a belongs fit k h i
