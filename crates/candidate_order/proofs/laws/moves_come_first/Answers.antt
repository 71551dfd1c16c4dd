use Rattle.candidate_order.proofs.KindLemmas.{by_kind}
use Rattle.candidate_order.proofs.laws.moves_come_first.Goals as goal

pub returns : goal.returns
returns c = λ cluster earlier target lists. by_kind cluster earlier target lists
