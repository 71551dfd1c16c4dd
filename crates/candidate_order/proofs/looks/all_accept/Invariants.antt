use Rattle.std.proofs.Common.{map, take}
use Rattle.plan_terms.specs.Trace.{AllAccept}
use Rattle.candidate_order.proofs.looks.all_accept.Given as goal

abbrev pub invariant-loop-goal : goal.invariant-loop-goal
invariant-loop-goal g l = AllAccept (map (λ x. g.G.Goal.meaning x l.case) (take l.goal-index l.earlier)) l.book.lists l.action
