use Rattle.candidate_order.proofs.LookLemmas.{whole-some, whole-none}
use Rattle.candidate_order.proofs.looks.whole_for.Goals as goal

pub returns-in-Some : goal.returns-in-Some
returns-in-Some g c = whole-some _ _ _ _ c.in-Some.ensures

pub returns-in-None : goal.returns-in-None
returns-in-None g c = whole-none _ _ _ c.in-None.ensures
