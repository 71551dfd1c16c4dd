-- What is known before candidates are tried.
use Rattle.std.specs.Prelude.{◌≡◌, ℕ, ◌<◌, Bool, true, List, Option, MatchOption, map, length, get_or}
use Rattle.std.specs.List.{All, filter}
use Rattle.plan_terms.specs.Belongs.{Book, IsBookOf}
use Rattle.plan_terms.specs.Cluster.{Cluster, Lists, has, some_broker, id_at, ids_of}
use Rattle.plan_terms.specs.States.{is_new}
use Rattle.plan_terms.specs.Trace.{Step}
use Rattle.plan_terms.specs.declared.actions.Action.{Action}
use Rattle.plan_terms.specs.declared.cluster.Part.{Part}
use Rattle.goal_terms.specs.Quantity.{Weights}
use Rattle.goal_terms.specs.declared.heat.Heat.{Heat}
use Rattle.goal_terms.specs.declared.room.Room.{Room}
use Rattle.move_actions.specs.declared.goals.Goal as goal_trait
use Rattle.candidate_order.specs.CandidateList.{NoStep, candidates_at}
use Rattle.candidate_order.specs.First.{IsFirst}
use Rattle.candidate_order.specs.Looks.{is_below, look_room, IsWeighed}
use Rattle.candidate_order.specs.Order.{IsOrderOf}
use Rattle.candidate_order.specs.Rests.{IsRests}
use Rattle.candidate_order.specs.declared.kept.Choice.{Choice}
use Rattle.candidate_order.specs.declared.kept.Choice.TheVariants as choice
use Rattle.candidate_order.specs.declared.kept.PartWeights.{PartWeights}
use Rattle.candidate_order.specs.declared.kept.Row.{Row}
use Rattle.candidate_order.specs.declared.kept.Scan.{Scan}
use Rattle.candidate_order.specs.declared.kinds.Kind.{Kind}

-- of one broker: its place, its room for each earlier goal, and where its quantity lies for the goal at hand
pub record IsRow {X : Type 0} (weighs : X → Option Weights) (room : X → ℕ → Room) (heat : ℕ → Heat) (earlier : List X) (c : Cluster) (r : Row) : Type 0 where
  pub place_within : r.place < length c.brokers
  pub place_is : r.id ≡ id_at c.brokers r.place
  pub rooms_are : r.rooms.items ≡ map (λ x. look_room (weighs x) (room x r.id)) earlier
  pub heat_is : r.heat ≡ heat r.id

-- of each partition: what its places weigh for each earlier goal
pub record AreWeights {X : Type 0} (weighs : X → Option Weights) (earlier : List X) (parts : List Part) (weights : List PartWeights) : Type 0 where
  pub one_each : length weights ≡ length parts
  pub each : (p : ℕ) (d : PartWeights) → p < length weights → IsWeighed weighs earlier parts p (get_or weights p d).lead.items (get_or weights p d).follow.items

-- a broker lies below its bounds, or is being added
abbrev pub is_chosen : Choice → Cluster → ℕ → Heat → Bool
is_chosen choice.Below c b h = is_below h
is_chosen choice.New c b h = some_broker (λ x. is_new x.state) c b

-- of the brokers that are chosen, in their order
pub record AreChosen {X : Type 0} (choice : Choice) (weighs : X → Option Weights) (room : X → ℕ → Room) (heat : ℕ → Heat) (earlier : List X) (c : Cluster) (rows : List Row) : Type 0 where
  pub brokers_are : map (λ (r : Row). r.id) rows ≡ filter (λ b. is_chosen choice c b (heat b)) (ids_of c.brokers)
  pub rows_are : All (IsRow weighs room heat earlier c) rows

-- of the brokers that lie below their bounds
abbrev pub AreBelow : {X : Type 0} → (X → Option Weights) → (X → ℕ → Room) → (ℕ → Heat) → List X → Cluster → List Row → Type 0
AreBelow {X} weighs room heat earlier c rows = AreChosen choice.Below weighs room heat earlier c rows

-- the partitions whose actions may help the goal are among these
pub record AreStirring (stirs : ℕ → Bool) (parts : List Part) (xs : List ℕ) : Type 0 where
  pub within : All (λ p. p < length parts) xs
  pub each : (p : ℕ) → p < length parts → stirs p ≡ true → has xs p ≡ true

-- of all partitions, of the brokers in their order, and of the candidates that did not serve
pub record IsScan {X : Type 0} (weighs : X → Option Weights) (room : X → ℕ → Room) (heat : ℕ → Heat) (stirs : ℕ → Bool) (earlier : List X) (c : Cluster) (serves : Action → Type 0) (lists : Lists) (s : Scan) : Type 0 where
  pub weights_are : AreWeights weighs earlier c.parts s.weights.items
  pub brokers_are : map (λ (r : Row). r.id) s.rows.items ≡ ids_of c.brokers
  pub rows_are : All (IsRow weighs room heat earlier c) s.rows.items
  pub below_are : AreBelow weighs room heat earlier c s.below.items
  pub added_are : AreChosen choice.New weighs room heat earlier c s.added.items
  pub stirring_are : AreStirring stirs c.parts s.stirring.items
  pub rests_are : IsRests c serves lists s.rests

-- what stays true of it when an action was done: of all but the rooms of the two brokers that it tells
pub record IsKept {X : Type 0} (weighs : X → Option Weights) (room : X → ℕ → Room) (earlier : List X) (c : Cluster) (s : Scan) : Type 0 where
  pub weights_are : AreWeights weighs earlier c.parts s.weights.items
  pub brokers_are : map (λ (r : Row). r.id) s.rows.items ≡ ids_of c.brokers
  pub rooms_are : All (λ (r : Row). (r.id ≡ s.giver → ⊥) → (r.id ≡ s.taker → ⊥) → r.rooms.items ≡ map (λ x. look_room (weighs x) (room x r.id)) earlier) s.rows.items

-- what a search for the candidates of one broker's replicas stands on
pub record IsSearch {G : Type 0} (g : goal_trait.Ghosts G) (earlier : List G) (goal : G) (c : Cluster) (b : Book) (order : List (List ℕ)) (scan : Scan) (source : Row) : Type 0 where
  pub made : All (λ x. g.made_for x c) earlier
  pub made_goal : g.made_for goal c
  pub belongs : IsBookOf c b
  pub order_is : IsOrderOf c b.lists order
  pub scan_is : IsScan g.weighs (λ x. g.room_at x c b.lists) (g.heat_at goal c b.lists) (g.stirs_at goal c b.lists) earlier c (Step c (map (λ x. g.meaning x c) earlier) (g.meaning goal c) b.lists) b.lists scan
  pub source_is : IsRow g.weighs (λ x. g.room_at x c b.lists) (g.heat_at goal c b.lists) earlier c source

-- what was found for a broker's replica of one partition: the first of its candidates of one kind that serves, if one does
pub record Finds {G : Type 0} (g : goal_trait.Ghosts G) (earlier : List G) (goal : G) (c : Cluster) (lists : Lists) (kind : Kind) (from p : ℕ) (found : Option Action) : Type 0 where
  pub first : MatchOption found
      (NoStep c (map (λ x. g.meaning x c) earlier) (g.meaning goal c) lists (candidates_at kind c lists from p))
      (λ a. IsFirst (Step c (map (λ x. g.meaning x c) earlier) (g.meaning goal c) lists) (candidates_at kind c lists from p) a)
