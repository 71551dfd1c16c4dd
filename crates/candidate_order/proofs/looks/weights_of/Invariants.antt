use Rattle.std.proofs.Common.{◌≡◌, map, take}
use Rattle.candidate_order.specs.Looks.{look_weight}
use Rattle.candidate_order.proofs.looks.weights_of.Given as goal

abbrev pub invariant-loop-goal : goal.invariant-loop-goal
invariant-loop-goal g l = l.weights.items ≡ map (λ x. look_weight (g.G.Goal.weighs x) l.case.parts l.part l.leads) (take l.goal-index l.goals)
