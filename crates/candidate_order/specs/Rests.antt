-- What is remembered of candidates that did not serve, as the code keeps it.
use Rattle.std.specs.Prelude.{◌≡◌, ℕ, ◌<◌, List, map, length, get_or}
use Rattle.plan_terms.specs.Cluster.{Cluster, Lists, id_at}
use Rattle.plan_terms.specs.Trace.{Step}
use Rattle.plan_terms.specs.declared.actions.Action.{Action}
use Rattle.plan_terms.specs.declared.actions.Action.TheVariants.{Move}
use Rattle.move_actions.specs.declared.goals.Goal as goal_trait
use Rattle.candidate_order.specs.Exhausted.{Stamps, AreExhausted, AreBefore}
use Rattle.candidate_order.specs.declared.kinds.Kind.{Kind}
use Rattle.candidate_order.specs.declared.kinds.Kind.TheVariants.{Moves, Leads, Swaps}
use Rattle.candidate_order.specs.declared.rests.Rests.{Rests}

-- the times of one kind
abbrev pub times_of : Kind → Rests → List ℕ
times_of Moves r = r.moves.items
times_of Leads r = r.leads.items
times_of Swaps r = r.swaps.items

-- what is kept by the places of brokers and partitions are stamps by which candidates are exhausted
pub record IsRests (c : Cluster) (serves : Action → Type 0) (lists : Lists) (r : Rests) : Type 0 where
  pub stamps : Stamps
  pub broker_each : length r.brokers.items ≡ length c.brokers
  pub part_each : length r.parts.items ≡ length c.parts
  pub row_each : (kind : Kind) → length (times_of kind r) ≡ length c.brokers
  pub brokers_are : (k : ℕ) → k < length c.brokers → stamps.broker (id_at c.brokers k) ≡ get_or r.brokers.items k 0
  pub parts_are : (p : ℕ) → p < length c.parts → stamps.part p ≡ get_or r.parts.items p 0
  pub rows_are : (kind : Kind) (k : ℕ) → k < length c.brokers → stamps.row kind (id_at c.brokers k) ≡ get_or (times_of kind r) k 0
  pub exhausted : AreExhausted stamps serves lists
  pub before : AreBefore stamps r.time

-- of the steps of a goal's turn
abbrev pub IsRestsFor : {G : Type 0} → goal_trait.Ghosts G → Cluster → Lists → List G → G → Rests → Type 0
IsRestsFor g c lists earlier goal r = IsRests c (Step c (map (λ x. g.meaning x c) earlier) (g.meaning goal c) lists) lists r

-- no move of a broker's replica of a partition serves, unless an action touched its target at that time or later
pub record TargetsRest (c : Cluster) (serves : Action → Type 0) (r : Rests) (from p since : ℕ) : Type 0 where
  pub none : (k : ℕ) → k < length c.brokers → get_or r.brokers.items k 0 < since → serves (Move p from (id_at c.brokers k)) → ⊥

-- the same of each partition that none touched since
pub record MovesRest (c : Cluster) (serves : Action → Type 0) (r : Rests) (from since : ℕ) : Type 0 where
  pub each : (p : ℕ) → p < length c.parts → get_or r.parts.items p 0 < since → TargetsRest c serves r from p since

-- of the steps of a goal's turn
abbrev pub TargetsRestFor : {G : Type 0} → goal_trait.Ghosts G → Cluster → Lists → List G → G → Rests → ℕ → ℕ → ℕ → Type 0
TargetsRestFor g c lists earlier goal r from p since = TargetsRest c (Step c (map (λ x. g.meaning x c) earlier) (g.meaning goal c) lists) r from p since

abbrev pub MovesRestFor : {G : Type 0} → goal_trait.Ghosts G → Cluster → Lists → List G → G → Rests → ℕ → ℕ → Type 0
MovesRestFor g c lists earlier goal r from since = MovesRest c (Step c (map (λ x. g.meaning x c) earlier) (g.meaning goal c) lists) r from since
