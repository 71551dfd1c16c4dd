-- Turns, plans and failures.
use Rattle.std.specs.Prelude.{◌≡◌, ℕ, ◌<◌, ◌⊎◌, IsTrue, List, [], ◌∷◌, ◌++◌, length}
use Rattle.std.specs.List.{All}
use Rattle.plan_terms.specs.Cluster.{Cluster, Lists}
use Rattle.plan_terms.specs.Effect.{after, after_all}
use Rattle.plan_terms.specs.Legal.{is_legal, all_actions}
use Rattle.plan_terms.specs.Goal.{Meaning, Accepts, Lessens, measure}
use Rattle.plan_terms.specs.declared.actions.Action.{Action}

-- each earlier goal accepts the action
pub record AllAccept (earlier : List Meaning) (lists : Lists) (a : Action) : Type 0 where
  pub each : All (λ g. Accepts g lists a) earlier

-- one action of a goal's turn
pub record Step (c : Cluster) (earlier : List Meaning) (goal : Meaning) (lists : Lists) (a : Action) : Type 0 where
  pub legal : IsTrue (is_legal c lists a)
  pub accepted : AllAccept earlier lists a
  pub lessens : Lessens goal lists a

-- each action is a step on the lists where it stands
unfoldable pub Steps : Cluster → List Meaning → Meaning → Lists → List Action → Type 0
Steps c earlier goal lists [] = Unit {0}
Steps c earlier goal lists (a ∷ as') = Step c earlier goal lists a × Steps c earlier goal (after a lists) as'

-- some earlier goal does not accept the action, or it does not lessen the goal
pub record IsUnhelpful (earlier : List Meaning) (goal : Meaning) (lists : Lists) (a : Action) : Type 0 where
  pub fails : AllAccept earlier lists a → Lessens goal lists a → ⊥

-- no legal action that the earlier goals accept lessens the goal
pub record NoneLeft (c : Cluster) (earlier : List Meaning) (goal : Meaning) (lists : Lists) : Type 0 where
  pub none : All (IsUnhelpful earlier goal lists) (all_actions c lists)

-- the turn of a goal: steps, up to lists at which the goal is met or none is left
pub record Turn (c : Cluster) (earlier : List Meaning) (goal : Meaning) (lists : Lists) (actions : List Action) : Type 0 where
  pub steps : Steps c earlier goal lists actions
  pub finished : (measure goal (after_all actions lists) ≡ 0) ⊎ NoneLeft c earlier goal (after_all actions lists)

-- the turns one after another
abbrev pub after_turns : List (List Action) → Lists → Lists
after_turns [] lists = lists
after_turns (t ∷ ts) lists = after_turns ts (after_all t lists)

-- one turn for each goal, in order, from where the last ended; each hard goal is met at the end of its own turn
unfoldable pub Turns : Cluster → List Meaning → List Meaning → Lists → List (List Action) → Type 0
Turns c earlier [] lists [] = Unit {0}
Turns c earlier [] lists (t ∷ ts) = ⊥
Turns c earlier (g ∷ gs) lists [] = ⊥
Turns c earlier (g ∷ gs) lists (t ∷ ts) =
    Turn c earlier g lists t
    × (IsTrue g.hard → measure g (after_all t lists) ≡ 0)
    × Turns c (earlier ++ g ∷ []) gs (after_all t lists) ts

-- a good trace that is planned, which is a plan: a turn for each goal, each hard goal met at the end of its turn
pub record Planned (c : Cluster) (goals : List Meaning) (lists : Lists) (turns : List (List Action)) : Type 0 where
  pub each : Turns c [] goals lists turns

-- a good trace that failed, which is a failure: the last turn is that of the first hard goal that is broken at the end of
-- its turn, at this place in the goals and with this measure
pub record Failed (c : Cluster) (goals : List Meaning) (lists : Lists) (turns : List (List Action)) (place left : ℕ) : Type 0 where
  pub met : List Meaning
  pub broken : Meaning
  pub untried : List Meaning
  pub done : List (List Action)
  pub last : List Action
  pub place_is : place ≡ length met
  pub goals_are : goals ≡ met ++ broken ∷ untried
  pub turns_are : turns ≡ done ++ last ∷ []
  pub before : Turns c [] met lists done
  pub turn : Turn c met broken (after_turns done lists) last
  pub hard : IsTrue broken.hard
  pub left_is : left ≡ measure broken (after_all last (after_turns done lists))
  pub above : 0 < left
