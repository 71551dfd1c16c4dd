use Rattle.plan_terms.proofs.EffectLemmas.{fits-legal, targets_known-legal}
use Rattle.plan_terms.specs.declared.actions.Action.TheVariants.{Move}
use Rattle.plan_tests.proofs.scans.first_of.Goals as goal

pub lessens-requires-clause-applies : goal.lessens-requires-clause-applies
lessens-requires-clause-applies g c = fits-legal c.args.case.now c.args.book.now.lists _ (c.requires.legal c.loop-action.action-index (Move 0 0 0) c.loop-action-test.true)

pub lessens-requires-clause-known : goal.lessens-requires-clause-known
lessens-requires-clause-known g c = targets_known-legal c.args.case.now c.args.book.now.lists _ (c.requires.legal c.loop-action.action-index (Move 0 0 0) c.loop-action-test.true)

pub all_accept-requires-clause-applies : goal.all_accept-requires-clause-applies
all_accept-requires-clause-applies g c = fits-legal c.args.case.now c.args.book.now.lists _ (c.requires.legal c.loop-action.action-index (Move 0 0 0) c.loop-action-test.true)

pub all_accept-requires-clause-known : goal.all_accept-requires-clause-known
all_accept-requires-clause-known g c = targets_known-legal c.args.case.now c.args.book.now.lists _ (c.requires.legal c.loop-action.action-index (Move 0 0 0) c.loop-action-test.true)
