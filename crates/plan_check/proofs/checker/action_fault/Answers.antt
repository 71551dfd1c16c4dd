use Rattle.std.proofs.Common.{sym}
use Rattle.plan_terms.proofs.EffectLemmas.{fits-legal, targets_known-legal}
use Rattle.plan_check.proofs.checker.action_fault.Goals as goal

pub all_accept-requires-clause-applies : goal.all_accept-requires-clause-applies
all_accept-requires-clause-applies g c = fits-legal _ _ _ (sym c.if-not-legal.ensures)

pub all_accept-requires-clause-known : goal.all_accept-requires-clause-known
all_accept-requires-clause-known g c = targets_known-legal _ _ _ (sym c.if-not-legal.ensures)

pub lessens-requires-clause-applies : goal.lessens-requires-clause-applies
lessens-requires-clause-applies g c = fits-legal _ _ _ (sym c.if-not-legal.ensures)

pub lessens-requires-clause-known : goal.lessens-requires-clause-known
lessens-requires-clause-known g c = targets_known-legal _ _ _ (sym c.if-not-legal.ensures)
