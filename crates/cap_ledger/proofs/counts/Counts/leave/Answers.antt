use Rattle.std.proofs.Common.{refl, ap, not, ◌-◌, ◌∙◌}
use Rattle.cap_ledger.specs.Entries.{left}
use Rattle.cap_ledger.specs.Ledger.{one_if}
use Rattle.cap_ledger.proofs.Changes.{all_counted, left_all}
use Rattle.cap_ledger.proofs.Sorting.{brokers_once, order_kept}
use Rattle.cap_ledger.proofs.counts.Counts.leave.Goals as goal

pub leave_all-requires : goal.leave_all-requires
leave_all-requires c = all_counted c.args.before.now c.args.after.now _ (brokers_once _ _ c.self.invariant) (rw (← c.self.view_is) at c.requires.counted)

pub invariant_of-self : goal.invariant_of-self
invariant_of-self c = order_kept (left c.args.before.now c.args.after.now) (λ e. refl) c.self.inside.ids.items c.self.inside.entries.items c.leave_all.new.entries.items c.leave_all.ensures c.self.invariant

pub returns : goal.returns
returns c = rw (← c.self.view_is) (left_all c.args.before.now c.args.after.now _ _
    (rw (← c.self.view_is) at c.requires.before) (rw (← c.self.view_is) at c.requires.after) (rw (← c.self.view_is) at c.requires.counted)
    c.leave_all.ensures
    (ap (λ n. c.self.inside.replica - n) (c.one_if.ensures ∙ ap one_if c.differs-moves.ensures))
    (ap (λ n. c.self.inside.leader - n) (c.one_if-2.ensures ∙ ap (λ b. one_if (not b)) c.differs-moves.ensures)))
