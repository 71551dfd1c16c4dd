-- What is known of goals and of steps, by what the trait of goals tells.
use Rattle.std.specs.Prelude.{ℕ, List, Option, MatchOption, map, option_map}
use Rattle.plan_terms.specs.Cluster.{Cluster, Lists, leads, list_of}
use Rattle.plan_terms.specs.Trace.{NoneLeft, Step}
use Rattle.plan_terms.specs.declared.actions.Action.{Action}
use Rattle.goal_terms.specs.Quantity.{part_weight}
use Rattle.goal_terms.specs.declared.room.Room.{Room}
use Rattle.move_actions.specs.declared.goals.Goal as goal_trait
use Rattle.candidate_order.specs.CandidateList.{FirstStep, NoStep, candidates_at}
use Rattle.candidate_order.specs.First.{IsFirst}
use Rattle.candidate_order.specs.Looks.{look_room, look_weight}
use Rattle.candidate_order.specs.Scan.{AreBelow, AreChosen, IsKept, IsRow, IsScan, IsSearch}
use Rattle.candidate_order.specs.declared.blocks.Search.{Search}
use Rattle.candidate_order.specs.declared.kept.Choice.{Choice}
use Rattle.candidate_order.specs.declared.kept.Row.{Row}
use Rattle.candidate_order.specs.declared.kept.Scan.{Scan}

-- the action is legal, the earlier goals accept it, and it lessens the goal
abbrev pub StepFor : {G : Type 0} → goal_trait.Ghosts G → Cluster → Lists → List G → G → Action → Type 0
StepFor g c lists earlier goal a = Step c (map (λ x. g.meaning x c) earlier) (g.meaning goal c) lists a

-- no action is such a step
abbrev pub NoneLeftFor : {G : Type 0} → goal_trait.Ghosts G → Cluster → Lists → List G → G → Type 0
NoneLeftFor g c lists earlier goal = NoneLeft c (map (λ x. g.meaning x c) earlier) (g.meaning goal c) lists

-- the action is the first such step of the list of candidates
abbrev pub FirstStepFor : {G : Type 0} → goal_trait.Ghosts G → Cluster → Lists → List G → G → Action → Type 0
FirstStepFor g c lists earlier goal a = FirstStep c (map (λ x. g.meaning x c) earlier) (g.meaning goal c) lists a

-- what each goal weighs of a place of a partition's list: the first one where the broker leads, else another one
abbrev pub weights_for : {G : Type 0} → goal_trait.Ghosts G → Cluster → Lists → ℕ → ℕ → List G → List ℕ
weights_for g c lists part from goals = map (λ x. look_weight (g.weighs x) c.parts part (leads (list_of lists part) from)) goals

-- the same of one goal, where it weighs anything
abbrev pub weight_for : {G : Type 0} → goal_trait.Ghosts G → Cluster → Lists → ℕ → ℕ → G → Option ℕ
weight_for g c lists part from goal = option_map (λ w. part_weight w c.parts part (leads (list_of lists part) from)) (g.weighs goal)

-- the room of a broker in each goal
abbrev pub rooms_for : {G : Type 0} → goal_trait.Ghosts G → Cluster → Lists → ℕ → List G → List Room
rooms_for g c lists b goals = map (λ x. look_room (g.weighs x) (g.room_at x c lists b)) goals

-- a broker's row tells its rooms and its heat
abbrev pub IsRowFor : {G : Type 0} → goal_trait.Ghosts G → Cluster → Lists → List G → G → Row → Type 0
IsRowFor g c lists earlier goal row = IsRow g.weighs (λ x. g.room_at x c lists) (g.heat_at goal c lists) earlier c row

-- the rows are those of the brokers that are chosen
abbrev pub AreChosenFor : {G : Type 0} → goal_trait.Ghosts G → Cluster → Lists → List G → G → Choice → List Row → Type 0
AreChosenFor g c lists earlier goal choice rows = AreChosen choice g.weighs (λ x. g.room_at x c lists) (g.heat_at goal c lists) earlier c rows

-- the rows are those of the brokers below their bounds
abbrev pub AreBelowFor : {G : Type 0} → goal_trait.Ghosts G → Cluster → Lists → List G → G → List Row → Type 0
AreBelowFor g c lists earlier goal rows = AreBelow g.weighs (λ x. g.room_at x c lists) (g.heat_at goal c lists) earlier c rows

-- what is kept for a search is true of the lists
abbrev pub IsScanFor : {G : Type 0} → goal_trait.Ghosts G → Cluster → Lists → List G → G → Scan → Type 0
IsScanFor g c lists earlier goal scan = IsScan g.weighs (λ x. g.room_at x c lists) (g.heat_at goal c lists) (g.stirs_at goal c lists) earlier c (StepFor g c lists earlier goal) lists scan

-- of it, all but two brokers' rooms is true of the lists
abbrev pub IsKeptFor : {G : Type 0} → goal_trait.Ghosts G → Cluster → Lists → List G → Scan → Type 0
IsKeptFor g c lists earlier scan = IsKept g.weighs (λ x. g.room_at x c lists) earlier c scan

-- what was found is the first of these actions that is a step, or none of them is one
abbrev pub FindsFirst : {G : Type 0} → goal_trait.Ghosts G → Cluster → Lists → List G → G → List Action → Option Action → Type 0
FindsFirst g c lists earlier goal actions found =
    MatchOption found
    (NoStep c (map (λ x. g.meaning x c) earlier) (g.meaning goal c) lists actions)
    (λ a. IsFirst (Step c (map (λ x. g.meaning x c) earlier) (g.meaning goal c) lists) actions a)

-- what was found is the first step of the list of candidates, or no action is a step
abbrev pub FindsNext : {G : Type 0} → goal_trait.Ghosts G → Cluster → Lists → List G → G → Option Action → Type 0
FindsNext g c lists earlier goal found = MatchOption found (NoneLeftFor g c lists earlier goal) (λ a. FirstStepFor g c lists earlier goal a)

-- what a search stands on is known of its parts
abbrev pub IsSearchOf : {G : Type 0} → goal_trait.Ghosts G → Search G → Type 0
IsSearchOf g s = IsSearch g s.earlier.now s.goal.now s.case.now s.book.now s.order.now s.scan.now s.source.now

-- the candidates that a search has for a replica
abbrev pub searched : {G : Type 0} → Search G → ℕ → List Action
searched s p = candidates_at s.kind s.case.now s.book.now.lists s.source.now.id p

-- what a search found is the first of these actions that is a step, or none of them is one
abbrev pub SearchFinds : {G : Type 0} → goal_trait.Ghosts G → Search G → List Action → Option Action → Type 0
SearchFinds g s actions found = FindsFirst g s.case.now s.book.now.lists s.earlier.now s.goal.now actions found
