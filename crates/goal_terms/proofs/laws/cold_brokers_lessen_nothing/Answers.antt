use Rattle.goal_terms.proofs.PairLemmas.{broker-cold_pairs}
use Rattle.goal_terms.proofs.CaseLemmas.{Limits-case}
use Rattle.goal_terms.proofs.laws.cold_brokers_lessen_nothing.Goals as goal

pub returns : goal.returns
returns c = λ hard w b cluster lists case belongs. broker-cold_pairs hard w b cluster lists (Limits-case cluster case) belongs
