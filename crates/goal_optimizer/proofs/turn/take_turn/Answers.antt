use Rattle.std.proofs.Common.{◌∙◌, refl}
use Rattle.plan_terms.proofs.SameLemmas.{SameLoads-by}
use Rattle.plan_terms.proofs.EffectLemmas.{fits-legal, targets_known-legal, Belongs-legal}
use Rattle.plan_terms.proofs.Runs.{Steps-nil, Steps-push, after_all-push}
use Rattle.goal_optimizer.proofs.Firsts.{firsts-nil, firsts-push}
use Rattle.goal_optimizer.proofs.turn.take_turn.Goals as goal

pub scan-init : goal.scan-init
scan-init g c = record {
  steps = rw c.new-actions.ensures (Steps-nil _ _ _ _);
  firsts = rw c.new-actions.ensures (firsts-nil _ _ _ _);
  book_is = rw c.new-actions.ensures;
  belongs = c.requires.belongs;
  order_is = c.requires.order;
  case_is = refl;
  kept_is = c.in_ok-scan.ensures.kept;
  rests_are = c.in_ok-scan.ensures.rests;
}

pub step-requires-clause-applies : goal.step-requires-clause-applies
step-requires-clause-applies g c = let first = rw c.in-Some.is at c.in_ok-next.ensures.next in fits-legal _ _ _ first.serves.legal

pub step-requires-clause-scan : goal.step-requires-clause-scan
step-requires-clause-scan g c = rw c.in-Some.is at c.in_ok-next.ensures.scan

pub step-requires-clause-known : goal.step-requires-clause-known
step-requires-clause-known g c = let first = rw c.in-Some.is at c.in_ok-next.ensures.next in targets_known-legal _ _ _ first.serves.legal

pub after-requires-clause-applies : goal.after-requires-clause-applies
after-requires-clause-applies g c = let first = rw c.in-Some.is at c.in_ok-next.ensures.next in fits-legal _ _ _ first.serves.legal

pub after-requires-clause-known : goal.after-requires-clause-known
after-requires-clause-known g c = let first = rw c.in-Some.is at c.in_ok-next.ensures.next in targets_known-legal _ _ _ first.serves.legal

pub apply-requires-clause-applies : goal.apply-requires-clause-applies
apply-requires-clause-applies g c = let first = rw c.in-Some.is at c.in_ok-next.ensures.next in fits-legal _ _ _ first.serves.legal

pub apply-requires-clause-known : goal.apply-requires-clause-known
apply-requires-clause-known g c = let first = rw c.in-Some.is at c.in_ok-next.ensures.next in targets_known-legal _ _ _ first.serves.legal

pub scan-preserved : goal.scan-preserved
scan-preserved g c = let first = rw c.in-Some.is at c.in_ok-next.ensures.next in record {
  steps = rw c.in_ok-push-in-Some.ensures.ok (Steps-push _ _ _ _ _ _ c.scan.invariant.steps (rw c.scan.invariant.book_is at first.serves));
  firsts = rw c.in_ok-push-in-Some.ensures.ok (firsts-push _ _ _ _ _ _ c.scan.invariant.firsts (rw c.scan.invariant.book_is at first));
  book_is = rw (c.in_ok-push-in-Some.ensures.ok, after_all-push, ← c.scan.invariant.book_is) c.apply.ensures.lists;
  belongs = record {
    same_loads = SameLoads-by _ _ _ c.apply.ensures.cluster c.scan.invariant.belongs.same_loads;
    lists_belong = rw c.apply.ensures.lists (Belongs-legal _ _ _ c.scan.invariant.belongs.lists_belong first.serves.legal);
  };
  order_is = rw c.apply.ensures.lists c.after.ensures;
  case_is = c.apply.ensures.cluster ∙ c.scan.invariant.case_is;
  kept_is = rw c.apply.ensures.lists c.step.ensures.kept;
  rests_are = rw c.apply.ensures.lists c.step.ensures.rests;
}
