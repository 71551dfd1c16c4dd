use Rattle.cluster_gen.specs.Clusters.{partition_data}
use Rattle.cluster_gen.proofs.Steps.{values_more}
use Rattle.cluster_gen.proofs.partitions.partition_values.Goals as goal

pub loop-number-preserved : goal.loop-number-preserved
loop-number-preserved c =
    let partition = partition_data c.args.seed c.args.brokers in
    let here = c.in_ok-partition_value.ensures.value c.args.seed c.loop-number.invariant.1 in (
      rw (c.in_ok-push.ensures.items) (values_more partition c.loop-number.number c.loop-number.values.items c.in_ok-partition_value.field-0 c.loop-number.invariant.0 here),
      c.in_ok-partition_value.ensures.next c.args.seed c.loop-number.invariant.1,
    )
