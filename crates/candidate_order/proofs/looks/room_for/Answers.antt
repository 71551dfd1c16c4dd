use Rattle.candidate_order.proofs.LookLemmas.{room-some, whole-if}
use Rattle.candidate_order.proofs.looks.room_for.Goals as goal

pub returns-in-Some : goal.returns-in-Some
returns-in-Some g c = room-some _ _ _ c.in-Some.ensures

pub room-requires-clause-all : goal.room-requires-clause-all
room-requires-clause-all g c = whole-if (g.G.Goal.weighs c.args.goal.now) _ _ _ c.requires.all
