use Rattle.std.proofs.Common.{map, take, ◌≡◌, []}
use Rattle.plan_terms.specs.Belongs.{IsBookOf}
use Rattle.plan_terms.specs.Trace.{Turns, after_turns}
use Rattle.goal_set.specs.Kinds.{meanings}
use Rattle.candidate_order.specs.Order.{IsOrderOf}
use Rattle.goal_optimizer.specs.Firsts.{FirstTurns}
use Rattle.goal_optimizer.proofs.optimiser.take_turns.Given as goal

abbrev pub invariant-loop-place : goal.invariant-loop-place
invariant-loop-place g l = record {
  turns_are : Turns l.case [] (meanings l.case (take l.place l.kinds)) l.start (map (λ t. t.actions) l.turns.items);
  goals_are : map (λ t. t.goal) l.turns.items ≡ take l.place l.kinds;
  book_is : l.book.lists ≡ after_turns (map (λ t. t.actions) l.turns.items) l.start;
  belongs : IsBookOf l.case l.book;
  firsts : FirstTurns l.case [] (meanings l.case l.kinds) l.start (map (λ t. t.actions) l.turns.items);
  order_is : IsOrderOf l.case l.book.lists l.order;
  case_is : l.book.cluster ≡ l.case;
}
