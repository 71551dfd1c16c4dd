use Rattle.mover_rounds.proofs.Ending.{failed_by}
use Rattle.mover_rounds.proofs.ends.end_with.Goals as goal

pub returns-in-Err-clause-failed : goal.returns-in-Err-clause-failed
returns-in-Err-clause-failed g c = failed_by _ (g.X.Asker.known c.tell.new.asker) _ _ _ _ c.in-Err.ensures.unasked c.give_back.ensures.returned c.give_back.ensures.unfinished
