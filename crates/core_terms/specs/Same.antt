-- Tests of sameness, member by member.
use Rattle.std.specs.Prelude.{◌≡◌, ℕ, Bool, true, false, ◌==◌, ◌&&◌, List, Option, Some, None, bytes_eq}
use Rattle.std.specs.Bool.{Decides, beq}
use Rattle.std.specs.Cmp.Lexicographic.{pointwise}
use Rattle.plan_terms.specs.Cluster.{Cluster, Lists}
use Rattle.plan_terms.specs.Fraction.{Fraction}
use Rattle.plan_terms.specs.declared.cluster.BrokerState.{BrokerState}
use Rattle.plan_terms.specs.declared.cluster.BrokerState.TheVariants.{Alive, Dead, New, Demoted}
use Rattle.plan_terms.specs.declared.cluster.Broker.{Broker}
use Rattle.plan_terms.specs.declared.cluster.Loads.{Loads}
use Rattle.plan_terms.specs.declared.cluster.MinLeaders.{MinLeaders}
use Rattle.plan_terms.specs.declared.cluster.Part.{Part}
use Rattle.plan_terms.specs.declared.cluster.Options.{Options}
use Rattle.goal_set.specs.Kinds.{name_of}
use Rattle.goal_set.specs.declared.kinds.GoalKind.{GoalKind}
use Rattle.user_tasks.specs.declared.ask.Op.{Op}
use Rattle.user_tasks.specs.declared.ask.Op.TheVariants as op
use Rattle.user_tasks.specs.Asks.{AskView}
use Rattle.core_terms.specs.Problem.{ProblemView}

-- two texts that may be absent
abbrev pub same_name : Option (List ℕ) → Option (List ℕ) → Bool
same_name None None = true
same_name None (Some b) = false
same_name (Some a) None = false
same_name (Some a) (Some b) = bytes_eq a b

abbrev pub state_number : BrokerState → ℕ
state_number Alive = 0
state_number Dead = 1
state_number New = 2
state_number Demoted = 3

abbrev pub same_broker : Broker → Broker → Bool
same_broker a b = (a.id == b.id) && (same_name a.rack b.rack && (bytes_eq a.cap b.cap && (state_number a.state == state_number b.state)))

abbrev pub same_loads : Loads → Loads → Bool
same_loads a b = bytes_eq a.lead b.lead && bytes_eq a.follow b.follow

abbrev pub same_part : Part → Part → Bool
same_part a b = bytes_eq a.topic b.topic && ((a.number == b.number) && (same_loads a.loads b.loads && (beq a.excluded b.excluded && (a.chunks == b.chunks))))

abbrev pub same_ratio : Fraction → Fraction → Bool
same_ratio a b = (a.num == b.num) && (a.den == b.den)

abbrev pub same_leaders : MinLeaders → MinLeaders → Bool
same_leaders a b = bytes_eq a.topic b.topic && (a.leaders == b.leaders)

abbrev pub same_options : Options → Options → Bool
same_options a b =
    pointwise same_ratio a.limit b.limit && (pointwise same_ratio a.balance b.balance
    && (same_ratio a.replica_balance b.replica_balance && (same_ratio a.leader_balance b.leader_balance
    && (same_ratio a.topic_balance b.topic_balance && ((a.max_replicas == b.max_replicas)
    && (beq a.leads_only b.leads_only && pointwise same_leaders a.min_leaders b.min_leaders))))))

-- two clusters
unfoldable pub same_cluster : Cluster → Cluster → Bool
same_cluster a b = pointwise same_broker a.brokers b.brokers && (pointwise same_part a.parts b.parts && same_options a.options b.options)

-- two assignments
unfoldable pub same_lists : Lists → Lists → Bool
same_lists a b = pointwise bytes_eq a b

-- two goals
abbrev pub same_goal : GoalKind → GoalKind → Bool
same_goal a b = bytes_eq (name_of a) (name_of b)

-- two lists of goals
unfoldable pub same_goals : List GoalKind → List GoalKind → Bool
same_goals a b = pointwise same_goal a b

-- two things to plan for
abbrev pub same_problem : ProblemView → ProblemView → Bool
same_problem a b = same_cluster a.case b.case && (same_lists a.start b.start && same_goals a.goals b.goals)

abbrev pub op_number : Op → ℕ
op_number op.Proposals = 0
op_number op.Rebalance = 1
op_number op.AddBroker = 2
op_number op.RemoveBroker = 3
op_number op.DemoteBroker = 4
op_number op.TopicConfiguration = 5

-- two requests
unfoldable pub same_ask : AskView → AskView → Bool
same_ask a b =
    (op_number a.op == op_number b.op) && (bytes_eq a.brokers b.brokers && (pointwise bytes_eq a.goals b.goals
    && (beq a.skip b.skip && (pointwise bytes_eq a.excluded b.excluded && (beq a.dryrun b.dryrun
    && (pointwise bytes_eq a.topics b.topics && (a.factor == b.factor)))))))

-- the tests are true exactly where the two are equal
pub record SamenessIsEquality : Type 0 where
  pub clusters : (a b : Cluster) → Decides (same_cluster a b) (a ≡ b)
  pub lists : (a b : Lists) → Decides (same_lists a b) (a ≡ b)
  pub goals : (a b : List GoalKind) → Decides (same_goals a b) (a ≡ b)
  pub problems : (a b : ProblemView) → Decides (same_problem a b) (a ≡ b)
  pub asks : (a b : AskView) → Decides (same_ask a b) (a ≡ b)
