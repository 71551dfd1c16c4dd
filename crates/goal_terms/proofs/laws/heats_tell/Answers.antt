use Rattle.goal_terms.proofs.HeatLemmas.{cold-excess, excess-cold, above-more, more-above, below-less, less-below, absent-cold}
use Rattle.goal_terms.specs.PerBroker.{unit_brokers}
use Rattle.goal_terms.proofs.laws.heats_tell.Goals as goal

pub returns : goal.returns
returns c = record {
  cold = λ b all q x. (cold-excess b all q x, excess-cold b all q x);
  above = λ b all q x. (above-more b all q x, more-above b all q x);
  below = λ b all q x. (below-less b all q x, λ h. less-below b all q x h.0 h.1);
  lost = λ w b cluster lists k h. absent-cold _ (unit_brokers cluster.brokers) k h;
}
