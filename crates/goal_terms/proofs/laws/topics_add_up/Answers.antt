use Rattle.goal_terms.proofs.TopicLemmas.{measure-topics, sum_by-adds}
use Rattle.std.proofs.Common.{◌∙◌, sym}
use Rattle.plan_terms.specs.Faults.{topics}
use Rattle.plan_terms.specs.Goal.{measure}
use Rattle.goal_terms.specs.PerBroker.{per_broker}
use Rattle.goal_terms.specs.PerTopic.{rule_weights}
use Rattle.goal_terms.proofs.laws.topics_add_up.Goals as goal

pub returns : goal.returns
returns c = λ hard r cluster lists. measure-topics hard r cluster lists ∙ sym (sum_by-adds (λ t. measure (per_broker hard (rule_weights r t) (r.bounds t) cluster) lists) (topics cluster.parts))
