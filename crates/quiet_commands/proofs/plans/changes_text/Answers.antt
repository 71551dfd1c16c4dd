use Rattle.quiet_commands.proofs.plans.changes_text.Goals as goal

pub reassignment_text-requires : goal.reassignment_text-requires
reassignment_text-requires c = rw (c.deref.ensures.value, ← c.requires.before.one_each) c.in_ok-changes.ensures.within
