use Rattle.candidate_order.proofs.LookLemmas.{weight-some, weight-none}
use Rattle.candidate_order.proofs.looks.weight_for.Goals as goal

pub returns-in-Some : goal.returns-in-Some
returns-in-Some g c = weight-some _ _ _ _ _ c.in-Some.ensures

pub returns-in-None : goal.returns-in-None
returns-in-None g c = weight-none _ _ _ _ c.in-None.ensures
