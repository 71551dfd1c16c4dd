use Rattle.std.proofs.Common.{◌∙◌}
use Rattle.executor_core.proofs.Launching.{kept_new}
use Rattle.executor_core.proofs.exec.Exec.new.Goals as goal

pub invariant_of-result : goal.invariant_of-result
invariant_of-result c = kept_new c.args.lists.now c.in_ok-base.base.items c.in_ok-from_slice.field-0.items c.args.caps c.args.brokers.now c.args.dead.now c.in_ok-from_slice-2.field-0.items
    c.in_ok-hosts.field-0.items c.new.result.items c.new-2.result.items c.new-none.result.items c.as_slice.result.now c.in_ok-new.field-0 c.in_ok-new-2.field-0 c.in_ok-new-3.field-0
    (c.in_ok-base.ensures ∙ c.lists.ensures.value) c.in_ok-from_slice-2.ensures.items c.in_ok-hosts.ensures c.new.ensures.items c.new-2.ensures.items c.new-none.ensures.items c.in_ok-new-2.ensures (c.as_slice.ensures.value ∙ c.new-none.ensures.items) c.in_ok-new-3.ensures
    (rw c.in_ok-from_slice.ensures.items c.requires.few) c.requires.broker_cap c.requires.cluster_cap c.requires.leader_cap
    c.requires.distinct c.lists.ensures.assignment.each c.requires.members c.in_ok-new.ensures
