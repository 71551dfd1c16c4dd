use Rattle.goal_terms.proofs.ReadingLemmas.{quantity-replicas, quantity-leaders, quantity-load, quantity-potential_out, quantity-leader_in, quantity-topic}
use Rattle.goal_terms.proofs.laws.quantities_are_sums.Goals as goal

pub returns : goal.returns
returns c = record {
  replicas = λ cluster lists b belongs. quantity-replicas cluster.parts lists b belongs.one_each;
  leads = λ cluster lists b belongs. quantity-leaders cluster.parts lists b belongs.one_each;
  loads = λ cluster lists r b. quantity-load cluster r b lists;
  potential = λ cluster lists b. quantity-potential_out cluster b lists;
  inbound = λ cluster lists b. quantity-leader_in cluster b lists;
  topic = λ cluster lists t b. quantity-topic cluster t b lists;
}
