use Rattle.candidate_order.proofs.ExhaustLemmas.{step-stays, step-was}
use Rattle.candidate_order.proofs.laws.steps_stay.Goals as goal

pub returns : goal.returns
returns c = λ cluster earlier goal' lists x y accept lessen fit apart.
    (step-stays cluster earlier goal' lists accept lessen x fit y apart, step-was cluster earlier goal' lists accept lessen x fit y apart)
