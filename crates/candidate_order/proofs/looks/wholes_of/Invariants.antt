use Rattle.std.proofs.Common.{◌≡◌, map, take}
use Rattle.candidate_order.specs.Looks.{look_whole}
use Rattle.candidate_order.proofs.looks.wholes_of.Given as goal

abbrev pub invariant-loop-goal : goal.invariant-loop-goal
invariant-loop-goal g l = l.wholes.items ≡ map (λ x. look_whole (g.G.Goal.weighs x) l.case.parts l.book.lists) (take l.goal-index l.goals)
