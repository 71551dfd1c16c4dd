use Rattle.std.proofs.Common.{[]}
use Rattle.goal_terms.proofs.ReadingLemmas.{total-replicas, total-leaders, total-leader_in}
use Rattle.goal_terms.proofs.TotalLemmas.{total-sum}
use Rattle.goal_terms.proofs.laws.totals_are_sums.Goals as goal

pub returns : goal.returns
returns c = record {
  together = total-sum;
  replicas = λ cluster lists belongs. total-replicas cluster.parts lists belongs.one_each;
  leads = λ cluster lists belongs. total-leaders cluster.parts lists belongs.one_each (λ k l. (belongs.lists_are k [] l).some);
  inbound = λ cluster lists belongs. total-leader_in cluster.parts lists belongs.one_each (λ k l. (belongs.lists_are k [] l).some);
}
