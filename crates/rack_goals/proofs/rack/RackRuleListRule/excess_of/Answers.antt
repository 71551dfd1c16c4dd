use Rattle.plan_terms.proofs.RackLemmas.{rack_count-le}
use Rattle.rack_goals.proofs.rack.RackRuleListRule.excess_of.Goals as goal

pub overflow_sub-result : goal.overflow_sub-result
overflow_sub-result c = rw c.count_racks-racks.ensures (rack_count-le _ _)
