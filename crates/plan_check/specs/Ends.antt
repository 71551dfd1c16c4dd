-- What the test of one turn says, from the lists where the turn starts.
use Rattle.std.specs.Prelude.{◌≡◌, ◌<◌, ◌⊎◌, ℕ, true, false, IsTrue, List, length, take, Some, slice_get}
use Rattle.plan_terms.specs.Belongs.{Book, IsBookOf}
use Rattle.plan_terms.specs.Cluster.{Cluster, Lists}
use Rattle.plan_terms.specs.Effect.{after_all}
use Rattle.plan_terms.specs.Goal.{Meaning, Lessens, measure}
use Rattle.plan_terms.specs.Legal.{is_legal}
use Rattle.plan_terms.specs.Trace.{AllAccept, NoneLeft, Step, Steps, Turn}
use Rattle.plan_terms.specs.declared.actions.Action.{Action}
use Rattle.plan_check.specs.declared.checker.TurnEnd.{TurnEnd}
use Rattle.plan_check.specs.declared.checker.TurnEnd.TheVariants as end
use Rattle.plan_check.specs.declared.faults.FaultKind.{FaultKind}
use Rattle.plan_check.specs.declared.faults.FaultKind.TheVariants as kind

-- why an action is no step on these lists: the first test that it fails
abbrev pub IsActionFault : Cluster → List Meaning → Meaning → Lists → Action → FaultKind → Type 0
IsActionFault c earlier goal lists a kind.WrongGoal = ⊥
IsActionFault c earlier goal lists a kind.Illegal = is_legal c lists a ≡ false
IsActionFault c earlier goal lists a kind.NotAccepted = (is_legal c lists a ≡ true) × (AllAccept earlier lists a → ⊥)
IsActionFault c earlier goal lists a kind.NotLessening = (is_legal c lists a ≡ true) × AllAccept earlier lists a × (Lessens goal lists a → ⊥)
IsActionFault c earlier goal lists a kind.NotFinished = ⊥
IsActionFault c earlier goal lists a kind.WrongResult = ⊥

-- the action at place a is no step, and those before it are
pub record IsWrongAction (c : Cluster) (earlier : List Meaning) (goal : Meaning) (lists : Lists) (actions : List Action) (a : ℕ) (k : FaultKind) : Type 0 where
  pub here : Action
  pub action_is : slice_get actions a ≡ Some here
  pub steps : Steps c earlier goal lists (take a actions)
  pub fault : IsActionFault c earlier goal (after_all (take a actions) lists) here k

-- the actions are steps, a in number, and one more could be taken
pub record IsUnfinished (c : Cluster) (earlier : List Meaning) (goal : Meaning) (lists : Lists) (actions : List Action) (a : ℕ) (k : FaultKind) : Type 0 where
  pub kind_is : k ≡ kind.NotFinished
  pub all : a ≡ length actions
  pub steps : Steps c earlier goal lists actions
  pub left : Action
  pub step : Step c earlier goal (after_all actions lists) left

-- the actions are a turn, at whose end the goal is met if it is hard, and the book has the lists that they lead to
pub record IsDone (c : Cluster) (earlier : List Meaning) (goal : Meaning) (lists : Lists) (actions : List Action) (b : Book) : Type 0 where
  pub turn : Turn c earlier goal lists actions
  pub met : IsTrue goal.hard → measure goal (after_all actions lists) ≡ 0
  pub lists_are : b.lists ≡ after_all actions lists
  pub belongs : IsBookOf c b

-- the actions are a turn, at whose end the goal is hard and broken
pub record IsBroken (c : Cluster) (earlier : List Meaning) (goal : Meaning) (lists : Lists) (actions : List Action) : Type 0 where
  pub steps : Steps c earlier goal lists actions
  pub none_left : NoneLeft c earlier goal (after_all actions lists)
  pub hard : IsTrue goal.hard
  pub above : 0 < measure goal (after_all actions lists)

abbrev pub IsTurnEnd : Cluster → List Meaning → Meaning → Lists → List Action → TurnEnd → Type 0
IsTurnEnd c earlier goal lists actions (end.Done book) = IsDone c earlier goal lists actions book
IsTurnEnd c earlier goal lists actions end.Broken = IsBroken c earlier goal lists actions
IsTurnEnd c earlier goal lists actions (end.Fault action kind) =
    IsWrongAction c earlier goal lists actions action kind ⊎ IsUnfinished c earlier goal lists actions action kind
