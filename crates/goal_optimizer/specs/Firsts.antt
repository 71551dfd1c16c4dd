-- Runs of the planner that take the first candidate each time.
use Rattle.std.specs.Prelude.{List, [], ◌∷◌, ◌++◌, map}
use Rattle.candidate_order.specs.CandidateList.{FirstStep}
use Rattle.goal_set.specs.Kinds.{meanings}
use Rattle.goal_set.specs.declared.kinds.GoalKind.{GoalKind}
use Rattle.goal_set.specs.declared.trace.Turned.{Turned}
use Rattle.goal_optimizer.specs.declared.optimiser.PlanFault.{PlanFault}
use Rattle.goal_optimizer.specs.declared.optimiser.PlanFault.TheVariants as fault
use Rattle.plan_terms.specs.Cluster.{Cluster, Lists}
use Rattle.plan_terms.specs.Effect.{after, after_all}
use Rattle.plan_terms.specs.Goal.{Meaning}
use Rattle.plan_terms.specs.declared.actions.Action.{Action}

-- each action of a turn is, on the lists where it stands, the first of the candidates that the earlier goals accept and that
-- lessens the goal
unfoldable pub FirstSteps : Cluster → List Meaning → Meaning → Lists → List Action → Type 0
FirstSteps c earlier goal lists [] = Unit {0}
FirstSteps c earlier goal lists (a ∷ as') = FirstStep c earlier goal lists a × FirstSteps c earlier goal (after a lists) as'

-- so is each action of some turns of the first goals, one after another
unfoldable pub FirstTurns : Cluster → List Meaning → List Meaning → Lists → List (List Action) → Type 0
FirstTurns c earlier goals lists [] = Unit {0}
FirstTurns c earlier [] lists (t ∷ ts) = ⊥
FirstTurns c earlier (g ∷ gs) lists (t ∷ ts) = FirstSteps c earlier g lists t × FirstTurns c (earlier ++ g ∷ []) gs (after_all t lists) ts

-- so is each action of the turns of a run
pub record TakesFirsts (c : Cluster) (start : Lists) (goals : List GoalKind) (turns : List Turned) : Type 0 where
  pub each : FirstTurns c [] (meanings c goals) start (map (λ t. t.actions) turns)

-- and of a failure's
abbrev pub FaultTakesFirsts : Cluster → Lists → List GoalKind → PlanFault → Type 0
FaultTakesFirsts c start goals (fault.Goal f) = TakesFirsts c start goals f.trace.turns.items
FaultTakesFirsts c start goals fault.Memory = Unit {0}
