use Rattle.candidate_order.proofs.OrderLemmas.{replicas-are, replicas-only}
use Rattle.candidate_order.proofs.laws.replicas_are_unique.Goals as goal

pub returns : goal.returns
returns c = λ cluster lists b. record {
  are = replicas-are cluster lists b;
  only = λ xs h. replicas-only cluster lists b xs h;
}
