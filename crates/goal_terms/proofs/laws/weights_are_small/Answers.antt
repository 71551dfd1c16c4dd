use Rattle.goal_terms.proofs.BoundLemmas.{replica-small, leader-small, load-small, potential_out-small, leader_in-small, topic-small}
use Rattle.goal_terms.proofs.laws.weights_are_small.Goals as goal

pub returns : goal.returns
returns c = record {
  replicas = replica-small;
  leads = leader-small;
  loads = load-small;
  potential = potential_out-small;
  inbound = leader_in-small;
  topic = topic-small;
}
