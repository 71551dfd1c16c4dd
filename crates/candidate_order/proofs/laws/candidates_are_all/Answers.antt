use Rattle.candidate_order.proofs.Complete.{NoneLeft-candidates}
use Rattle.candidate_order.proofs.laws.candidates_are_all.Goals as goal

pub returns : goal.returns
returns c = λ cluster earlier goal' lists belongs none. NoneLeft-candidates cluster lists belongs earlier goal' none
