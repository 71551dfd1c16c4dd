-- What a request for a plan asks: its goals, and the cluster that is planned for.
use Rattle.std.specs.Prelude.{Bool, true, false, ◌||◌, List, [], ◌∷◌, map, bytes_eq, Option, None, if◌then◌else◌}
use Rattle.std.specs.List.{list_any}
use Rattle.plan_terms.specs.Cluster.{Cluster, has}
use Rattle.plan_terms.specs.States.{is_dead}
use Rattle.plan_terms.specs.declared.cluster.Broker.{Broker}
use Rattle.plan_terms.specs.declared.cluster.BrokerState.{BrokerState}
use Rattle.plan_terms.specs.declared.cluster.BrokerState.TheVariants.{Dead, New, Demoted}
use Rattle.plan_terms.specs.declared.cluster.Part.{Part}
use Rattle.plan_terms.specs.declared.cluster.Options.{Options}
use Rattle.goal_set.specs.Read.{read_kinds, read_fault}
use Rattle.goal_set.specs.declared.kinds.GoalKind.{GoalKind}
use Rattle.goal_set.specs.declared.kinds.GoalKind.TheVariants.{Evacuation, Demotion}
use Rattle.goal_set.specs.declared.list.GoalFault.{GoalFault}
use Rattle.user_tasks.specs.Factors.{changes_topics}
use Rattle.user_tasks.specs.declared.ask.Op.{Op}
use Rattle.user_tasks.specs.declared.ask.Op.TheVariants as op
use Rattle.user_tasks.specs.Asks.{AskView}

-- it asks for proposals alone
abbrev pub asks_proposals : Op → Bool
asks_proposals op.Proposals = true
asks_proposals op.Rebalance = false
asks_proposals op.AddBroker = false
asks_proposals op.RemoveBroker = false
asks_proposals op.DemoteBroker = false
asks_proposals op.TopicConfiguration = false

-- it asks that brokers no longer lead
abbrev pub asks_demotion : Op → Bool
asks_demotion op.Proposals = false
asks_demotion op.Rebalance = false
asks_demotion op.AddBroker = false
asks_demotion op.RemoveBroker = false
asks_demotion op.DemoteBroker = true
asks_demotion op.TopicConfiguration = false

-- the plan is not to be carried out
abbrev pub is_dry : AskView → Bool
is_dry ask = ask.dryrun || asks_proposals ask.op

-- it takes no goals by name
abbrev pub takes_no_goals : Op → Bool
takes_no_goals o = asks_demotion o || changes_topics o

-- the goals of a request: of one that takes none by name the two that each list has, else those of its names
abbrev pub goals_of : AskView → List GoalKind
goals_of ask = if takes_no_goals ask.op then Evacuation ∷ Demotion ∷ [] else read_kinds ask.goals

-- what is wrong with its names
abbrev pub goals_fault : AskView → Option GoalFault
goals_fault ask = if takes_no_goals ask.op then None else read_fault ask.goals ask.skip

-- what the request makes of a broker that it names and that lives
abbrev pub state_asked : Op → BrokerState → BrokerState
state_asked op.Proposals state = state
state_asked op.Rebalance state = state
state_asked op.AddBroker state = New
state_asked op.RemoveBroker state = Dead
state_asked op.DemoteBroker state = Demoted
state_asked op.TopicConfiguration state = state

-- the state that the request gives a broker: one that is dead stays so
abbrev pub state_for : AskView → Broker → BrokerState
state_for ask b = if is_dead b.state then b.state else (if has ask.brokers b.id then state_asked ask.op b.state else b.state)

-- the broker as the request sees it
abbrev pub broker_asked : AskView → Broker → Broker
broker_asked ask b = record b { state = state_for ask b }

-- the partition's topic is named
abbrev pub is_excluded : AskView → Part → Bool
is_excluded ask p = list_any (bytes_eq p.topic) ask.excluded || p.excluded

-- the partition as the request sees it
abbrev pub part_asked : AskView → Part → Part
part_asked ask p = record p { excluded = is_excluded ask p }

-- the options as the request sees them
abbrev pub options_asked : AskView → Options → Options
options_asked ask options = record options { leads_only = asks_demotion ask.op }

-- the cluster of a request
unfoldable pub case_of : AskView → Cluster → Cluster
case_of ask c = record {
  brokers = map (broker_asked ask) c.brokers;
  parts = map (part_asked ask) c.parts;
  options = options_asked ask c.options;
}
