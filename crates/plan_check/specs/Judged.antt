-- Good traces, and the first fault of one that isn't.
use Rattle.std.specs.Prelude.{◌≡◌, ◌≢◌, ℕ, ◌+◌, ◌<◌, ◌≤◌, ◌⊎◌, true, false, IsTrue, List, [], length, take, Some, slice_get}
use Rattle.plan_terms.specs.Cluster.{Cluster, Lists}
use Rattle.plan_terms.specs.Effect.{after_all}
use Rattle.plan_terms.specs.Goal.{Meaning, Lessens, measure}
use Rattle.plan_terms.specs.Legal.{is_legal}
use Rattle.plan_terms.specs.Trace.{AllAccept, NoneLeft, Step, Steps, Turns, after_turns}
use Rattle.plan_terms.specs.declared.actions.Action.{Action}
use Rattle.goal_set.specs.Kept.{IsPlan, IsFailure, actions_of, kinds_of}
use Rattle.goal_set.specs.Kinds.{meaning_of, meanings}
use Rattle.goal_set.specs.declared.kinds.GoalKind.{GoalKind}
use Rattle.goal_set.specs.declared.trace.Trace.{Trace}
use Rattle.plan_check.specs.declared.faults.FaultKind.{FaultKind}
use Rattle.plan_check.specs.declared.faults.FaultKind.TheVariants as kind
use Rattle.plan_check.specs.declared.faults.Verdict.{Verdict}
use Rattle.plan_check.specs.declared.faults.Verdict.TheVariants as verdict

-- a trace with what it is checked for
pub record Checked : Type 0 where
  pub case : Cluster
  pub start : Lists
  pub goals : List GoalKind
  pub trace : Trace

-- the trace is that of a plan, or of a failure
abbrev pub IsGood : Checked → Type 0
IsGood x =
    IsPlan (record { case = x.case; start = x.start; goals = x.goals; trace = x.trace; end = after_turns (actions_of x.trace) x.start })
    ⊎ ((left : ℕ) × IsFailure (record { case = x.case; start = x.start; goals = x.goals; trace = x.trace; left = left }))

-- the lists from which turn n starts
abbrev pub lists_at : Checked → ℕ → Lists
lists_at x n = after_turns (take n (actions_of x.trace)) x.start

-- the goals before the n-th
abbrev pub goals_before : Checked → ℕ → List Meaning
goals_before x n = meanings x.case (take n x.goals)

-- the turns before turn n are those of the first goals, each good, and each hard goal is met at the end of its own
pub record IsGoodBefore (x : Checked) (n : ℕ) : Type 0 where
  pub there : n ≤ length x.trace.turns.items
  pub goals_are : take n (kinds_of x.trace) ≡ take n x.goals
  pub turns_are : Turns x.case [] (goals_before x n) x.start (take n (actions_of x.trace))

-- turn n is of the n-th goal, which is g, and its actions are these
pub record IsTurnOf (x : Checked) (n : ℕ) (g : GoalKind) (actions : List Action) : Type 0 where
  pub before : IsGoodBefore x n
  pub goal_is : slice_get x.goals n ≡ Some g
  pub kind_is : slice_get (kinds_of x.trace) n ≡ Some g
  pub actions_are : slice_get (actions_of x.trace) n ≡ Some actions

-- action a of turn n, the turn of goal g, is here; the actions before it are steps, and lead to these lists
pub record IsActionOf (x : Checked) (n a : ℕ) (g : GoalKind) (here : Action) (lists : Lists) : Type 0 where
  pub actions : List Action
  pub turn : IsTurnOf x n g actions
  pub action_is : slice_get actions a ≡ Some here
  pub steps : Steps x.case (goals_before x n) (meaning_of g x.case) (lists_at x n) (take a actions)
  pub lists_are : lists ≡ after_all (take a actions) (lists_at x n)

-- the actions of turn n, the turn of goal g, are a steps, and lead to these lists
pub record IsEndOf (x : Checked) (n a : ℕ) (g : GoalKind) (lists : Lists) : Type 0 where
  pub actions : List Action
  pub turn : IsTurnOf x n g actions
  pub all : a ≡ length actions
  pub steps : Steps x.case (goals_before x n) (meaning_of g x.case) (lists_at x n) actions
  pub lists_are : lists ≡ after_all actions (lists_at x n)

-- turn n is there and its goal isn't the n-th, or there is no n-th; or turn n isn't there, and the n-th goal is
pub record IsWrongGoal (x : Checked) (n a : ℕ) : Type 0 where
  pub before : IsGoodBefore x n
  pub at_start : a ≡ 0
  pub differs : slice_get (kinds_of x.trace) n ≢ slice_get x.goals n

pub record IsIllegal (x : Checked) (n a : ℕ) : Type 0 where
  pub goal : GoalKind
  pub here : Action
  pub lists : Lists
  pub action : IsActionOf x n a goal here lists
  pub illegal : is_legal x.case lists here ≡ false

pub record IsNotAccepted (x : Checked) (n a : ℕ) : Type 0 where
  pub goal : GoalKind
  pub here : Action
  pub lists : Lists
  pub action : IsActionOf x n a goal here lists
  pub legal : is_legal x.case lists here ≡ true
  pub refused : AllAccept (goals_before x n) lists here → ⊥

pub record IsNotLessening (x : Checked) (n a : ℕ) : Type 0 where
  pub goal : GoalKind
  pub here : Action
  pub lists : Lists
  pub action : IsActionOf x n a goal here lists
  pub legal : is_legal x.case lists here ≡ true
  pub accepted : AllAccept (goals_before x n) lists here
  pub idle : Lessens (meaning_of goal x.case) lists here → ⊥

-- a legal action that the goals before accept lessens the goal at the end of its turn
pub record IsNotFinished (x : Checked) (n a : ℕ) : Type 0 where
  pub goal : GoalKind
  pub lists : Lists
  pub end : IsEndOf x n a goal lists
  pub left : Action
  pub step : Step x.case (goals_before x n) (meaning_of goal x.case) lists left

-- a hard goal is broken at the end of its turn, which is finished, and the trace isn't said to fail there or goes on
pub record IsNotStopped (x : Checked) (n a : ℕ) : Type 0 where
  pub goal : GoalKind
  pub lists : Lists
  pub end : IsEndOf x n a goal lists
  pub none_left : NoneLeft x.case (goals_before x n) (meaning_of goal x.case) lists
  pub hard : IsTrue (meaning_of goal x.case).hard
  pub broken : 0 < measure (meaning_of goal x.case) lists
  pub told : (x.trace.planned ≡ true) ⊎ (n + 1 < length x.trace.turns.items)

-- each goal had its turn and each hard goal was met, and the trace isn't said to be planned
pub record IsNotPlanned (x : Checked) (n a : ℕ) : Type 0 where
  pub before : IsGoodBefore x n
  pub at_start : a ≡ 0
  pub no_turn : length x.trace.turns.items ≡ n
  pub no_goal : length x.goals ≡ n
  pub told : x.trace.planned ≡ false

-- the first fault of the trace is of this kind, at action a of turn n
abbrev pub IsFirstFault : Checked → ℕ → ℕ → FaultKind → Type 0
IsFirstFault x n a kind.WrongGoal = IsWrongGoal x n a
IsFirstFault x n a kind.Illegal = IsIllegal x n a
IsFirstFault x n a kind.NotAccepted = IsNotAccepted x n a
IsFirstFault x n a kind.NotLessening = IsNotLessening x n a
IsFirstFault x n a kind.NotFinished = IsNotFinished x n a
IsFirstFault x n a kind.WrongResult = IsNotStopped x n a ⊎ IsNotPlanned x n a

-- good for a good trace; else the first fault, and then the trace isn't good
abbrev pub Judges : Checked → Verdict → Type 0
Judges x verdict.Good = IsGood x
Judges x (verdict.Fault turn action kind) = IsFirstFault x turn action kind × (IsGood x → ⊥)
