use Rattle.goal_terms.proofs.BoundLemmas.{quantity-small, total-small}
use Rattle.goal_terms.proofs.CaseLemmas.{Limits-case}
use Rattle.goal_terms.proofs.laws.quantities_are_small.Goals as goal

pub returns : goal.returns
returns c = λ w cluster lists case belongs small. (quantity-small w cluster lists (Limits-case cluster case) small belongs, total-small w cluster lists (Limits-case cluster case) small belongs)
