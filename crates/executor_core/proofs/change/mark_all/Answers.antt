use Rattle.exec_terms.specs.Stops.{marked}
use Rattle.exec_terms.proofs.Mapped.{map_step_at}
use Rattle.executor_core.proofs.change.mark_all.Goals as goal

pub loop-host-preserved : goal.loop-host-preserved
loop-host-preserved c = map_step_at (marked c.args.broker) c.deref_mut-host-items.result.now c.loop-host.host-items c.loop-host.host-index _ c.mark.new.self c.loop-host-test.true c.loop-host.invariant c.mark.ensures
