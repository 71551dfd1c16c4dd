use Rattle.plan_terms.proofs.EffectLemmas.{Belongs-legal}
use Rattle.plan_terms.proofs.laws.legal_actions_keep_lists.Goals as goal

pub returns : goal.returns
returns c = Belongs-legal
