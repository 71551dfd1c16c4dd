use Rattle.exec_terms.proofs.Mapped.{map_step_at}
use Rattle.cap_ledger.specs.Entries.{entered}
use Rattle.cap_ledger.proofs.entry.enter_all.Goals as goal

pub loop-entry-preserved : goal.loop-entry-preserved
loop-entry-preserved c = map_step_at (entered c.args.before.now c.args.after.now) c.deref_mut-entry-items.result.now c.loop-entry.entry-items c.loop-entry.entry-index _ c.enter.new.self c.loop-entry-test.true c.loop-entry.invariant c.enter.ensures
