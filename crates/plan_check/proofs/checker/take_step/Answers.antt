use Rattle.plan_terms.proofs.EffectLemmas.{fits-legal, targets_known-legal}
use Rattle.plan_check.proofs.checker.take_step.Goals as goal

pub apply-requires-clause-applies : goal.apply-requires-clause-applies
apply-requires-clause-applies c = fits-legal _ _ _ c.requires.legal

pub apply-requires-clause-known : goal.apply-requires-clause-known
apply-requires-clause-known c = targets_known-legal _ _ _ c.requires.legal
