-- What a plan and a failure keep.
use Rattle.std.specs.Prelude.{◌≡◌, ℕ, ◌+◌, true, false, List, ◌++◌, length, map}
use Rattle.plan_terms.specs.Belongs.{Belongs}
use Rattle.plan_terms.specs.Cluster.{Cluster, Lists}
use Rattle.plan_terms.specs.Trace.{Planned, Failed, after_turns}
use Rattle.plan_terms.specs.declared.actions.Action.{Action}
use Rattle.goal_set.specs.Kinds.{meanings}
use Rattle.goal_set.specs.declared.kinds.GoalKind.{GoalKind}
use Rattle.goal_set.specs.declared.trace.Trace.{Trace}

-- the goals of the turns
abbrev pub kinds_of : Trace → List GoalKind
kinds_of trace = map (λ t. t.goal) trace.turns.items

-- and their actions
abbrev pub actions_of : Trace → List (List Action)
actions_of trace = map (λ t. t.actions) trace.turns.items

-- a plan, as contracts see it
pub record PlanView : Type 0 where
  pub case : Cluster
  pub start : Lists
  pub goals : List GoalKind
  pub trace : Trace
  pub end : Lists

-- each goal had its turn, in order, the turns are a plan for the case, the start and the goals, and they lead from lists of
-- the case to the end, which are too
pub record IsPlan (p : PlanView) : Type 0 where
  pub planned_is : p.trace.planned ≡ true
  pub in_order : kinds_of p.trace ≡ p.goals
  pub planned : Planned p.case (meanings p.case p.goals) p.start (actions_of p.trace)
  pub end_is : p.end ≡ after_turns (actions_of p.trace) p.start
  pub start_belongs : Belongs p.case p.start
  pub end_belongs : Belongs p.case p.end

-- a failure, as contracts see it
pub record FailureView : Type 0 where
  pub case : Cluster
  pub start : Lists
  pub goals : List GoalKind
  pub trace : Trace
  pub left : ℕ

-- the first goals had their turns, in order, and the turns are a failure for the case, the start and the goals: the last of
-- them, at this place, is that of a hard goal, which it leaves with this measure
pub record IsFailure (f : FailureView) : Type 0 where
  pub unplanned : f.trace.planned ≡ false
  pub untried : List GoalKind
  pub in_order : f.goals ≡ kinds_of f.trace ++ untried
  pub place : ℕ
  pub place_is : length f.trace.turns.items ≡ place + 1
  pub failed : Failed f.case (meanings f.case f.goals) f.start (actions_of f.trace) place f.left
  pub start_belongs : Belongs f.case f.start
