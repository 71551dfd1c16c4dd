-- What is to be done about brokers that were lost and goals that are broken.
use Rattle.std.specs.Prelude.{ℕ, ◌-◌, Bool, false, ◌&&◌, nat_lt, nat_le, List, [], ◌∷◌, map, find, Option, Some, None}
use Rattle.std.specs.List.{filter}
use Rattle.plan_terms.specs.Cluster.{Cluster, Lists}
use Rattle.plan_terms.specs.Goal.{measure}
use Rattle.goal_set.specs.Kinds.{is_hard_kind, meaning_of}
use Rattle.goal_set.specs.Read.{default_kinds}
use Rattle.goal_set.specs.declared.kinds.GoalKind.{GoalKind}
use Rattle.goal_set.specs.declared.cause.Cause.TheVariants.{BrokerFailure, GoalViolation}
use Rattle.user_tasks.specs.Asks.{AskView}
use Rattle.user_tasks.specs.declared.ask.Op.TheVariants as op
use Rattle.anomaly_detector.specs.declared.decision.Decision.{Decision}
use Rattle.anomaly_detector.specs.declared.decision.Decision.TheVariants.{Fix, Alert, Waiting, Fine}

-- brokers, each with the moment since which it is lost
abbrev pub Losses : Type 0
Losses = List (ℕ × ℕ)

-- those that are lost for at least so long; a moment behind now is no age
abbrev pub lost_for : ℕ → ℕ → Losses → List ℕ
lost_for least now since = map (λ x. x.0) (filter (λ x. nat_le least (now - x.1)) since)

-- that these brokers are removed, with no goals named
abbrev pub removal : List ℕ → AskView
removal brokers = record { op = op.RemoveBroker; brokers = brokers; goals = []; skip = false; excluded = []; dryrun = false; topics = []; factor = 0 }

-- that the cluster is rebalanced, with no goals named
abbrev pub rebalance : AskView
rebalance = record { op = op.Rebalance; brokers = []; goals = []; skip = false; excluded = []; dryrun = false; topics = []; factor = 0 }

-- a hard goal that the lists break
abbrev pub is_broken : Cluster → Lists → GoalKind → Bool
is_broken c lists k = is_hard_kind k && nat_lt 0 (measure (meaning_of k c) lists)

-- the first of them in the default list
unfoldable pub first_broken : Cluster → Lists → Option GoalKind
first_broken c lists = find (is_broken c lists) default_kinds

-- a rebalance for a goal that is broken
abbrev pub fixed_goal : Option GoalKind → Decision
fixed_goal None = Fine
fixed_goal (Some k) = Fix (GoalViolation k) rebalance

-- what is said of brokers, where there are any
abbrev pub if_any : List ℕ → (List ℕ → Decision) → Decision → Decision
if_any [] say other = other
if_any (b ∷ bs) say other = say (b ∷ bs)

-- the first that holds: brokers are lost for so long that they are removed, or that they are told; some are lost; a goal is broken
unfoldable pub decided : ℕ → ℕ → ℕ → Losses → Cluster → Lists → Decision
decided now alert heal since c lists =
    if_any (lost_for heal now since) (λ bs. Fix (BrokerFailure bs) (removal bs))
    (if_any (lost_for alert now since) Alert (if_any (map (λ x. x.0) since) Waiting (fixed_goal (first_broken c lists))))
