use Rattle.mover_rounds.proofs.Ending.{returned}
use Rattle.mover_rounds.proofs.ends.give_back.Goals as goal

pub returns-clause-returned : goal.returns-clause-returned
returns-clause-returned g c = returned _ _ _ c.tell.result c.requires c.tell.ensures.added c.tell.ensures.unasked
