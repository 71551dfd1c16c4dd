use Rattle.goal_terms.proofs.CaseLemmas.{Limits-case}
use Rattle.goal_terms.proofs.laws.cases_are_limited.Goals as goal

pub returns : goal.returns
returns c = Limits-case
