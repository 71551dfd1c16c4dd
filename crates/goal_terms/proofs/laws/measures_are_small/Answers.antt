use Rattle.goal_terms.proofs.BoundLemmas.{per_broker-fits_120_bits}
use Rattle.goal_terms.proofs.CaseLemmas.{Limits-case}
use Rattle.goal_terms.proofs.laws.measures_are_small.Goals as goal

pub returns : goal.returns
returns c = λ hard w b cluster lists case belongs small bounds. per_broker-fits_120_bits w cluster lists (Limits-case cluster case) small belongs hard b bounds
