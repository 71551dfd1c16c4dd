use Rattle.candidate_order.proofs.Complete.{row-none}
use Rattle.candidate_order.proofs.laws.rows_are_all.Goals as goal

pub returns : goal.returns
returns c = λ cluster earlier goal' lists kind b belongs none. row-none cluster lists belongs earlier goal' kind b none
