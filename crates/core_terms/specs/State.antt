-- The state of the core.
use Rattle.std.specs.Prelude.{ℕ, Bool, false, List, [], map, get_or, None, if◌then◌else◌}
use Rattle.plan_terms.specs.Cluster.{Cluster}
use Rattle.plan_terms.specs.declared.cluster.Broker.{Broker}
use Rattle.plan_terms.specs.declared.cluster.BrokerState.{BrokerState}
use Rattle.plan_terms.specs.declared.cluster.BrokerState.TheVariants.{Dead as Lost}
use Rattle.plan_terms.specs.declared.settings.Sample.{Sample}
use Rattle.cluster_json.specs.File.{Meaning}
use Rattle.exec_terms.specs.Machine.{State}
use Rattle.exec_terms.specs.Runs.{opening}
use Rattle.exec_terms.specs.Stops.{has_died}
use Rattle.exec_terms.specs.declared.brokers.Host.{Host}
use Rattle.user_tasks.specs.declared.table.UserTask.{UserTask}
use Rattle.core_terms.specs.Input.{accepted, loaded_parts, valid_parts}
use Rattle.core_terms.specs.declared.jobs.Job.{Job}

-- all of the state but the samples: the executor with its lists, the caps in force and the brokers that died; the user tasks; the
-- job of each; how many tickets were given; and whether Close was asked
pub record Desk : Type 0 where
  pub exec : State
  pub tasks : List UserTask
  pub jobs : List Job
  pub tickets : ℕ
  pub closing : Bool

-- the state of the core: the desk, the samples that were accepted, and brokers that were found lost, each with the moment of that
pub record Core : Type 0 where
  pub desk : Desk
  pub samples : List Sample
  pub since : List (ℕ × ℕ)

-- the desk of a cluster file when it is opened: its brokers, caps and lists, no task and no job
unfoldable pub opening_desk : Meaning → Desk
opening_desk file = record {
  exec = opening file.cluster file.lists file.caps;
  tasks = [];
  jobs = [];
  tickets = 0;
  closing = false;
}

-- the opening state of a cluster file: its desk, its samples added in order, and no broker found lost
abbrev pub opening_of : Meaning → Core
opening_of file = record { desk = opening_desk file; samples = accepted file.rules file.samples; since = [] }

-- the state of a broker: it is lost where it has died
abbrev pub state_now : List Host → Broker → BrokerState
state_now hosts b = if has_died hosts b.id then Lost else b.state

-- the broker as it is now
abbrev pub broker_now : List Host → Broker → Broker
broker_now hosts b = record b { state = state_now hosts b }

-- the present cluster: the file's, where brokers that died are lost and partitions have the loads of their windows
unfoldable pub present : Meaning → List Host → List Sample → Cluster
present file hosts samples = record {
  brokers = map (broker_now hosts) file.cluster.brokers;
  parts = loaded_parts file samples;
  options = file.cluster.options;
}

-- what the samples and the deaths make of the file: the present cluster, and how many of its partitions have loads
pub record Moment : Type 0 where
  pub cluster : Cluster
  pub valid : ℕ

-- the moment of a state
abbrev pub moment_of : Meaning → Core → Moment
moment_of file s = record { cluster = present file s.desk.exec.hosts s.samples; valid = valid_parts file s.samples }

-- a reading past the end of the jobs gives it
abbrev pub no_job : Job
no_job = record { goals = []; ticket = None; proposals = []; broken = None; aborted = 0; dead = 0 }

-- the job at a place
abbrev pub job_at : List Job → ℕ → Job
job_at jobs i = get_or jobs i no_job
