use Rattle.std.proofs.Common.{◌≡◌, length, sym, true, false, nat_lt}
use Rattle.std.proofs.lemmas.Bool.{lt-ltb, le-ltb}
use Rattle.task_planner.proofs.Grouped.{first-filed}
use Rattle.task_planner.proofs.queue.TaskQueue.first_fitting.Goals as goal

pub first_of-best-requires : goal.first_of-best-requires
first_of-best-requires c = rw (c.as_slice-slots.ensures.value, c.as_slice.ensures.value) (record { each = c.self.invariant.filed.each })

pub returns-then-best-slots : goal.returns-then-best-slots
returns-then-best-slots c =
    let slots = c.as_slice-slots.ensures.value in
    let here : nat_lt c.first_of-best.result (length c.self.inside.slots.items) ≡ true = lt-ltb _ _ (rw slots at c.if-best-slots.true) in
    let first = first-filed c.args.caps.now c.args.counts.now c.may_lead-may_lead.result c.self.inside.slots.items c.self.inside.groups.items c.self.inside.movers c.first_of-best.result c.self.invariant.filed
    (rw slots at c.first_of-best.ensures.within) (rw slots at c.first_of-best.ensures.fits) (rw (slots, c.as_slice.ensures.value) at c.first_of-best.ensures.least) in
    rw (← c.self.view_is) (sym (rw (here, c.may_lead-may_lead.ensures, ← c.self.view_is) at first))

pub returns-else-best-slots : goal.returns-else-best-slots
returns-else-best-slots c =
    let slots = c.as_slice-slots.ensures.value in
    let past : nat_lt c.first_of-best.result (length c.self.inside.slots.items) ≡ false = le-ltb _ _ (rw slots at c.if-best-slots.false) in
    let first = first-filed c.args.caps.now c.args.counts.now c.may_lead-may_lead.result c.self.inside.slots.items c.self.inside.groups.items c.self.inside.movers c.first_of-best.result c.self.invariant.filed
    (rw slots at c.first_of-best.ensures.within) (rw slots at c.first_of-best.ensures.fits) (rw (slots, c.as_slice.ensures.value) at c.first_of-best.ensures.least) in
    rw (← c.self.view_is) (sym (rw (past, c.may_lead-may_lead.ensures, ← c.self.view_is) at first))
