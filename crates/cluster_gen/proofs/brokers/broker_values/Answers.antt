use Rattle.cluster_gen.specs.Clusters.{broker_data}
use Rattle.cluster_gen.proofs.Steps.{values_more}
use Rattle.cluster_gen.proofs.brokers.broker_values.Goals as goal

pub loop-id-preserved : goal.loop-id-preserved
loop-id-preserved c =
    rw (c.in_ok-push.ensures.items) (values_more broker_data c.loop-id.id c.loop-id.values.items c.in_ok-broker_value.field-0 c.loop-id.invariant c.in_ok-broker_value.ensures)
