use Rattle.std.proofs.Common.{◌∙◌}
use Rattle.plan_terms.proofs.EffectLemmas.{Belongs-legal, fits-legal, targets_known-legal}
use Rattle.plan_terms.proofs.SameLemmas.{SameLoads-by}
use Rattle.plan_terms.specs.declared.actions.Action.TheVariants.{Move}
use Rattle.plan_summary.proofs.Turns.{after-next, legal-here, legal-next}
use Rattle.plan_summary.proofs.replay.take_turn.Goals as goal

pub apply-requires-clause-applies : goal.apply-requires-clause-applies
apply-requires-clause-applies c =
    let p = c.loop-action in
    fits-legal _ _ _ (legal-here c.args.case.now p.book.lists c.args.actions.now p.action-index (Move 0 0 0) c.loop-action-test.true p.invariant.legal)

pub apply-requires-clause-known : goal.apply-requires-clause-known
apply-requires-clause-known c =
    let p = c.loop-action in
    targets_known-legal _ _ _ (legal-here c.args.case.now p.book.lists c.args.actions.now p.action-index (Move 0 0 0) c.loop-action-test.true p.invariant.legal)

pub loop-action-preserved : goal.loop-action-preserved
loop-action-preserved c =
    let p = c.loop-action in
    let legal = legal-here c.args.case.now p.book.lists c.args.actions.now p.action-index (Move 0 0 0) c.loop-action-test.true p.invariant.legal in
    record {
      left = rw c.apply.ensures.lists (after-next c.args.case.now p.book.lists c.args.actions.now p.action-index (Move 0 0 0) c.loop-action-test.true ∙ p.invariant.left);
      legal = rw c.apply.ensures.lists (legal-next c.args.case.now p.book.lists c.args.actions.now p.action-index (Move 0 0 0) c.loop-action-test.true p.invariant.legal);
      belongs = record {
        same_loads = SameLoads-by _ _ _ c.apply.ensures.cluster p.invariant.belongs.same_loads;
        lists_belong = rw c.apply.ensures.lists (Belongs-legal _ _ _ p.invariant.belongs.lists_belong legal);
      };
    }
