use Rattle.std.proofs.Common.{take}
use Rattle.std.specs.Prelude.{IfNone}
use Rattle.std.specs.List.{All}
use Rattle.plan_terms.specs.Goal.{Accepts}
use Rattle.candidate_order.proofs.rows.others_accept.Given as goal

abbrev pub invariant-loop-goal : goal.invariant-loop-goal
invariant-loop-goal g l = All (λ x. IfNone (g.G.Goal.weighs x) (Accepts (g.G.Goal.meaning x l.case) l.book.lists l.action)) (take l.goal-index l.earlier)
