use Rattle.plan_terms.proofs.OnceLemmas.{action_once}
use Rattle.plan_terms.proofs.laws.each_action_is_listed_once.Goals as goal

pub returns : goal.returns
returns c = action_once
