use Rattle.goal_terms.proofs.TradeLemmas.{total-after}
use Rattle.goal_terms.proofs.laws.totals_stay.Goals as goal

pub returns : goal.returns
returns c = total-after
