-- What a run of the planner gives for a case, a start and a list of goals.
use Rattle.std.specs.Prelude.{◌≡◌, ℕ, true, false, List, Option, Some, None}
use Rattle.plan_terms.specs.Cluster.{Cluster, Lists}
use Rattle.goal_set.specs.Kept.{PlanView, IsPlan, FailureView, IsFailure}
use Rattle.goal_set.specs.declared.kinds.GoalKind.{GoalKind}
use Rattle.goal_optimizer.specs.declared.optimiser.Outcome.{Outcome}
use Rattle.goal_optimizer.specs.declared.optimiser.PlanFault.{PlanFault}
use Rattle.goal_optimizer.specs.declared.optimiser.PlanFault.TheVariants as fault

-- a plan for these
pub record IsPlanOf (c : Cluster) (start : Lists) (goals : List GoalKind) (p : PlanView) : Type 0 where
  pub case_is : p.case ≡ c
  pub start_is : p.start ≡ start
  pub goals_are : p.goals ≡ goals
  pub kept : IsPlan p

-- a failure for these
pub record IsFailureOf (c : Cluster) (start : Lists) (goals : List GoalKind) (f : FailureView) : Type 0 where
  pub case_is : f.case ≡ c
  pub start_is : f.start ≡ start
  pub goals_are : f.goals ≡ goals
  pub kept : IsFailure f

-- why there is no plan: a failure for these, or want of memory
abbrev pub IsFaultOf : Cluster → Lists → List GoalKind → PlanFault → Type 0
IsFaultOf c start goals (fault.Goal f) = IsFailureOf c start goals f
IsFaultOf c start goals fault.Memory = Unit {0}

-- the turns are those of a plan, or of a failure with this measure
abbrev Ends : Cluster → Lists → List GoalKind → Outcome → Option ℕ → Type 0
Ends c start goals o None = IsPlan (record { case = c; start = start; goals = goals; trace = record { turns = o.turns; planned = true }; end = o.end })
Ends c start goals o (Some left) = IsFailure (record { case = c; start = start; goals = goals; trace = record { turns = o.turns; planned = false }; left = left })

abbrev pub IsOutcome : Cluster → Lists → List GoalKind → Outcome → Type 0
IsOutcome c start goals o = Ends c start goals o o.broken
