-- What is shown of the state.
use Rattle.std.specs.Prelude.{ℕ, not, ◌&&◌, List, [], length, map, Option, Some, None, if◌then◌else◌}
use Rattle.std.specs.List.{list_any, filter, position, enumerate_from}
use Rattle.plan_terms.specs.Cluster.{Cluster, Lists}
use Rattle.plan_terms.specs.Change.{added}
use Rattle.plan_terms.specs.States.{is_dead}
use Rattle.plan_terms.specs.Load.{count, leaders, load, potential_out}
use Rattle.plan_terms.specs.declared.cluster.Broker.{Broker}
use Rattle.plan_terms.specs.declared.cluster.Part.{Part}
use Rattle.cluster_json.specs.File.{Meaning}
use Rattle.exec_terms.specs.Words.{in_flight, is_unfinished, is_replica_task, is_on}
use Rattle.exec_terms.specs.Machine.{State, task_at, list_now, lists_now, any_unfinished}
use Rattle.exec_terms.specs.Tally.{phase_counts}
use Rattle.user_tasks.specs.declared.table.UserTask.{UserTask}
use Rattle.user_tasks.specs.declared.ask.Query.{Query}
use Rattle.user_tasks.specs.declared.ask.Query.TheVariants as query
use Rattle.core_terms.specs.State.{Desk, Moment}
use Rattle.core_terms.specs.Jobs.{id_at}
use Rattle.core_terms.specs.declared.shows.ExecutorState.{ExecutorState}
use Rattle.core_terms.specs.declared.shows.ExecutorState.TheVariants as executor
use Rattle.core_terms.specs.declared.shows.StateShown.{StateShown}
use Rattle.core_terms.specs.declared.shows.BrokerShown.{BrokerShown}
use Rattle.core_terms.specs.declared.shows.PartShown.{PartShown}
use Rattle.core_terms.specs.declared.shows.TaskShown.{TaskShown}
use Rattle.core_terms.specs.declared.shows.Shown.{Shown}
use Rattle.core_terms.specs.declared.shows.Shown.TheVariants as shown

-- what the executor does
abbrev pub executor_state : State → ExecutorState
executor_state s =
    if not (any_unfinished s.tasks) then executor.NoTask
    else (if s.stopped then executor.Stopping
    else (if list_any (λ t. is_unfinished t.phase && is_replica_task t) s.tasks then executor.MovingReplicas
    else executor.MovingLeaders))

abbrev pub state_shown : Meaning → ℕ → State → StateShown
state_shown file valid s = record { counts = phase_counts s.tasks; state = executor_state s; valid = valid; all = length file.cluster.parts }

-- what a broker of the present cluster carries on the present lists
abbrev pub broker_shown : Cluster → Lists → Broker → BrokerShown
broker_shown c lists b = record {
  broker = b.id;
  state = b.state;
  cpu = load c 0 b.id lists;
  nw_in = load c 1 b.id lists;
  nw_out = load c 2 b.id lists;
  disk = load c 3 b.id lists;
  potential_nw_out = potential_out c b.id lists;
  replicas = count b.id lists;
  leaders = leaders b.id lists;
}

abbrev pub load_shown : Cluster → Lists → List BrokerShown
load_shown c lists = map (broker_shown c lists) c.brokers

-- the ids of the lost brokers
abbrev pub lost_ids : Cluster → List ℕ
lost_ids c = map (λ b. b.id) (filter (λ b. is_dead b.state) c.brokers)

-- what is added to the list of a partition just now, by its task: what a task in flight adds
abbrev pub adding_by : State → Option ℕ → List ℕ
adding_by s None = []
adding_by s (Some i) = if in_flight (task_at s.tasks i).phase then added (task_at s.tasks i).before (task_at s.tasks i).after else []

-- what is removed from it
abbrev pub removing_by : State → Option ℕ → List ℕ
removing_by s None = []
removing_by s (Some i) = if in_flight (task_at s.tasks i).phase then added (task_at s.tasks i).after (task_at s.tasks i).before else []

abbrev pub part_shown : State → ℕ × Part → PartShown
part_shown s x = record {
  topic = x.1.topic;
  number = x.1.number;
  replicas = list_now s x.0;
  adding = adding_by s (position (is_on x.0) s.tasks);
  removing = removing_by s (position (is_on x.0) s.tasks);
}

abbrev pub parts_shown : List Part → State → List PartShown
parts_shown parts s = map (part_shown s) (enumerate_from 0 parts)

abbrev pub task_shown : ℕ × UserTask → TaskShown
task_shown x = record { id = id_at x.0; op = x.1.ask.op; status = x.1.status }

abbrev pub tasks_shown : List UserTask → List TaskShown
tasks_shown tasks = map task_shown (enumerate_from 0 tasks)

-- what is shown, by what was asked
abbrev pub shown_of : Meaning → Moment → Desk → Query → Shown
shown_of file now s query.State = shown.State (state_shown file now.valid s.exec)
shown_of file now s query.Load = shown.Load (load_shown now.cluster (lists_now s.exec))
shown_of file now s query.ClusterState = shown.ClusterState (lost_ids now.cluster) (parts_shown file.cluster.parts s.exec)
shown_of file now s query.UserTasks = shown.UserTasks (tasks_shown s.tasks)
