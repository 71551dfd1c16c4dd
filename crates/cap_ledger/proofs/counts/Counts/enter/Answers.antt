use Rattle.std.proofs.Common.{refl, ap, not, ◌+◌, ◌∙◌}
use Rattle.cap_ledger.specs.Entries.{entered}
use Rattle.cap_ledger.specs.Ledger.{one_if}
use Rattle.cap_ledger.proofs.Changes.{all_have_room, entered_all}
use Rattle.cap_ledger.proofs.Sorting.{brokers_once, order_kept}
use Rattle.cap_ledger.proofs.counts.Counts.enter.Goals as goal

pub enter_all-requires : goal.enter_all-requires
enter_all-requires c = all_have_room c.args.before.now c.args.after.now _ (brokers_once _ _ c.self.invariant) (rw (← c.self.view_is) at c.requires.room)

pub invariant_of-self : goal.invariant_of-self
invariant_of-self c = order_kept (entered c.args.before.now c.args.after.now) (λ e. refl) c.self.inside.ids.items c.self.inside.entries.items c.enter_all.new.entries.items c.enter_all.ensures c.self.invariant

pub returns : goal.returns
returns c = rw (← c.self.view_is) (entered_all c.args.before.now c.args.after.now _ _
    (rw (← c.self.view_is) at c.requires.before) (rw (← c.self.view_is) at c.requires.after)
    c.enter_all.ensures
    (ap (λ n. c.self.inside.replica + n) (c.one_if.ensures ∙ ap one_if c.differs-moves.ensures))
    (ap (λ n. c.self.inside.leader + n) (c.one_if-2.ensures ∙ ap (λ b. one_if (not b)) c.differs-moves.ensures)))
