use Rattle.plan_terms.proofs.Complete.{NoneLeft-legal}
use Rattle.plan_terms.proofs.laws.no_legal_action_helps.Goals as goal

pub returns : goal.returns
returns c = λ cluster earlier goal lists belongs none. NoneLeft-legal cluster lists belongs earlier goal none
