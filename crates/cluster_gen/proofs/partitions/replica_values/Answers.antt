use Rattle.std.proofs.Common.{ℕ, ◌+◌, ◌%◌}
use Rattle.cluster_gen.proofs.Steps.{numbers_more}
use Rattle.cluster_gen.proofs.partitions.replica_values.Goals as goal

pub loop-place-preserved : goal.loop-place-preserved
loop-place-preserved c =
    let replica = λ (k : ℕ). (c.args.first + k) % c.args.brokers in
    rw (c.in_ok-push.ensures.items) (numbers_more replica c.loop-place.place c.loop-place.replicas.items c.from.result c.loop-place.invariant c.from.ensures)
