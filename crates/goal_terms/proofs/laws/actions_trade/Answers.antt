use Rattle.goal_terms.proofs.TradeLemmas.{trades}
use Rattle.goal_terms.proofs.laws.actions_trade.Goals as goal

pub returns : goal.returns
returns c = λ w cluster lists a belongs fit. trades w cluster.parts lists belongs.one_each a fit
