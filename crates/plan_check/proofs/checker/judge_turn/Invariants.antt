use Rattle.std.proofs.Common.{◌≡◌, map, take}
use Rattle.plan_terms.specs.Belongs.{IsBookOf}
use Rattle.plan_terms.specs.Effect.{after_all}
use Rattle.plan_terms.specs.Trace.{Steps}
use Rattle.plan_check.proofs.checker.judge_turn.Given as goal

abbrev pub invariant-loop-place : goal.invariant-loop-place
invariant-loop-place g l = record {
  steps : Steps l.case (map (λ x. g.G.Goal.meaning x l.case) l.earlier) (g.G.Goal.meaning l.goal l.case) l.fn.book.lists (take l.place l.actions);
  lists_are : l.here.lists ≡ after_all (take l.place l.actions) l.fn.book.lists;
  belongs : IsBookOf l.case l.here;
}
