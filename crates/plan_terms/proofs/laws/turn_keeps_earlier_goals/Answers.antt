use Rattle.plan_terms.proofs.Runs.{excess-Steps}
use Rattle.plan_terms.proofs.laws.turn_keeps_earlier_goals.Goals as goal

pub returns : goal.returns
returns c = λ cluster earlier goal lists actions turn. excess-Steps cluster earlier goal actions lists turn.steps
