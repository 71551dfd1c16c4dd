use Rattle.std.proofs.Common.{map, ◌≡◌}
use Rattle.candidate_order.specs.Order.{IsOrderOf}
use Rattle.candidate_order.specs.Rests.{IsRestsFor}
use Rattle.candidate_order.specs.Scan.{IsKept}
use Rattle.goal_optimizer.specs.Firsts.{FirstSteps}
use Rattle.plan_terms.specs.Belongs.{IsBookOf}
use Rattle.plan_terms.specs.Effect.{after_all}
use Rattle.plan_terms.specs.Goal.{measure}
use Rattle.plan_terms.specs.Trace.{Steps}
use Rattle.goal_optimizer.proofs.turn.take_turn.Given as goal

abbrev pub invariant-scan : goal.invariant-scan
invariant-scan g l = record {
  steps : Steps l.case (map (λ x. g.G.Goal.meaning x l.case) l.earlier) (g.G.Goal.meaning l.goal l.case) l.initial.book.lists l.actions;
  firsts : FirstSteps l.case (map (λ x. g.G.Goal.meaning x l.case) l.earlier) (g.G.Goal.meaning l.goal l.case) l.initial.book.lists l.actions;
  book_is : l.book.lists ≡ after_all l.actions l.initial.book.lists;
  belongs : IsBookOf l.case l.book;
  order_is : IsOrderOf l.case l.book.lists l.order;
  case_is : l.book.cluster ≡ l.initial.book.cluster;
  kept_is : IsKept g.G.Goal.weighs (λ x. g.G.Goal.room_at x l.case l.book.lists) l.earlier l.case l.scan;
  rests_are : IsRestsFor g.G.Goal l.case l.book.lists l.earlier l.goal l.scan.rests;
}

abbrev pub decreases-scan : goal.decreases-scan
decreases-scan g l = measure (g.G.Goal.meaning l.goal l.case) l.book.lists
