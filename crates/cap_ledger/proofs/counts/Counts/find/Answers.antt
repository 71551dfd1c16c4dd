use Rattle.std.proofs.Common.{Ok, Err}
use Rattle.std.proofs.lemmas.List.Sorted.{searched}
use Rattle.cap_ledger.proofs.Sorting.{in_order, found_at, found_none}
use Rattle.cap_ledger.proofs.counts.Counts.find.Goals as goal

pub returns-in-Ok : goal.returns-in-Ok
returns-in-Ok c = rw (← c.self.view_is) (found_at c.self.inside.ids.items c.self.inside.entries.items c.args.broker c.self.invariant c.in-Ok.i c.index.result.now
    (searched c.self.inside.ids.items c.args.broker (Ok c.in-Ok.i) (rw c.as_slice.ensures.value at c.in-Ok.ensures.position) (in_order c.self.inside.ids.items c.self.inside.entries.items c.self.invariant)) c.index.ensures)

pub returns-in-Err : goal.returns-in-Err
returns-in-Err c = rw (← c.self.view_is) (found_none c.self.inside.ids.items c.self.inside.entries.items c.args.broker c.self.invariant c.in-Err.field-0
    (searched c.self.inside.ids.items c.args.broker (Err c.in-Err.field-0) (rw c.as_slice.ensures.value at c.in-Err.ensures.position) (in_order c.self.inside.ids.items c.self.inside.entries.items c.self.invariant)))
