use Rattle.goal_terms.proofs.PairLemmas.{broker-idle_trades}
use Rattle.goal_terms.proofs.CaseLemmas.{Limits-case}
use Rattle.goal_terms.proofs.laws.idle_trades_lessen_nothing.Goals as goal

pub returns : goal.returns
returns c = λ hard w b cluster lists case belongs. broker-idle_trades hard w b cluster lists (Limits-case cluster case) belongs
