-- The bodies of replies, as JSON: keys stand in the order of their bytes, and each body has `version` 1.
use Rattle.std.specs.Prelude.{ℕ, Bool, true, List, [], map, codes, decimal}
use Rattle.serde_json.specs.Data.{Data, boolean, string, array, object, member, no_members, Members}
use Rattle.serde_json.specs.View.{items_of}
use Rattle.plain_json.specs.Numbers.{number_data, numbers_data}
use Rattle.uuid.specs.Text.{hyphenated_text, lower}
use Rattle.plan_terms.specs.declared.settings.Caps.{Caps}
use Rattle.goal_set.specs.declared.kinds.GoalKind.{GoalKind}
use Rattle.goal_set.specs.Kinds.{name_of}
use Rattle.goal_set.specs.declared.cause.Cause.{Cause}
use Rattle.goal_set.specs.declared.cause.Cause.TheVariants as cause
use Rattle.anomaly_detector.specs.declared.decision.Decision.{Decision}
use Rattle.anomaly_detector.specs.declared.decision.Decision.TheVariants as decision
use Rattle.exec_terms.specs.declared.replies.Stopped.{Stopped}
use Rattle.exec_terms.specs.declared.replies.Killed.{Killed}
use Rattle.exec_terms.specs.declared.tally.PhaseCounts.{PhaseCounts}
use Rattle.user_tasks.specs.declared.table.Status.{Status}
use Rattle.core_terms.specs.declared.replies.Named.{Named}
use Rattle.core_terms.specs.declared.shows.StateShown.{StateShown}
use Rattle.core_terms.specs.declared.shows.BrokerShown.{BrokerShown}
use Rattle.core_terms.specs.declared.shows.ExecutorState.{ExecutorState}
use Rattle.core_terms.specs.declared.shows.PartShown.{PartShown}
use Rattle.core_terms.specs.declared.shows.TaskShown.{TaskShown}
use Rattle.review_board.specs.declared.events.ReviewState.TheVariants as review
use Rattle.review_board.specs.declared.events.Row.{Row}
use Rattle.rest_replies.specs.Texts.{broker_state_text, endpoint_text, executor_state_text, last_part_text, review_state_text, task_status_text}

-- the last member of each body
abbrev pub version : Members
version = member (codes "version") (number_data 1) no_members

-- the text of an id
abbrev pub id_data : List ℕ → Data
id_data id = string (hyphenated_text lower id)

-- a refusal
abbrev pub error_data : List ℕ → Data
error_data text = object (member (codes "errorMessage") (string text) version)

-- the last members of a user task's body
abbrev pub task_members : List ℕ → Status → Members
task_members id status = member (codes "status") (string (task_status_text status)) (member (codes "userTaskId") (id_data id) version)

-- a user task that is still to be worked on
abbrev pub open_data : List ℕ → Status → Data
open_data id status = object (task_members id status)

-- a partition's list, as it was and as it is to be
abbrev pub proposal_data : Named → Data
proposal_data p = object (member (codes "newReplicas") (numbers_data p.after)
    (member (codes "oldReplicas") (numbers_data p.before)
    (member (codes "topicPartition") (object (member (codes "partition") (number_data p.number) (member (codes "topic") (string p.topic) no_members))) no_members)))

abbrev pub proposals_data : List Named → Data
proposals_data ps = array (items_of (map proposal_data ps))

-- a user task that is done, with what its plan changed
abbrev pub done_data : List ℕ → Status → List Named → Data
done_data id status ps = object (member (codes "proposals") (proposals_data ps) (task_members id status))

-- a user task that a goal failed, with what of it stays broken; this can be above 2^64, and stands as a text
abbrev pub failed_data : List ℕ → Status → GoalKind → ℕ → Data
failed_data id status goal left = object (member (codes "failed") (string (name_of goal)) (member (codes "measure") (string (decimal left)) (task_members id status)))

-- a user task whose execution ended with tasks that were aborted or are dead
abbrev pub ended_data : List ℕ → Status → ℕ → ℕ → List Named → Data
ended_data id status aborted dead ps = object (member (codes "aborted") (number_data aborted) (member (codes "dead") (number_data dead)
    (member (codes "proposals") (proposals_data ps) (task_members id status))))

-- a stop
abbrev pub stopped_data : Stopped → Data
stopped_data s = object (member (codes "aborted") (number_data s.aborted) (member (codes "aborting") (number_data s.aborting) version))

-- the death of a broker
abbrev pub killed_data : Killed → Data
killed_data k = object (member (codes "aborting") (number_data k.aborting) (member (codes "dead") (number_data k.dead) version))

-- a sample that counts
abbrev pub sampled_data : Data
sampled_data = object (member (codes "accepted") (boolean true) version)

-- of a service that ends
abbrev pub ending_data : Data
ending_data = object (member (codes "closing") (boolean true) version)

-- the caps in force
abbrev pub caps_data : Caps → Data
caps_data c = object (member (codes "broker") (number_data c.broker) (member (codes "cluster") (number_data c.cluster) (member (codes "leader") (number_data c.leader) version)))

-- the end of a pump
abbrev pub pumped_data : ℕ → Bool → Data
pumped_data done idle = object (member (codes "done") (number_data done) (member (codes "idle") (boolean idle) version))

-- an anomaly and its brokers
abbrev pub anomaly_data : List ℕ → List ℕ → Data
anomaly_data name brokers = object (member (codes "anomaly") (string name) (member (codes "brokers") (numbers_data brokers) version))

-- a fix by its cause
abbrev pub cause_data : Cause → Data
cause_data (cause.BrokerFailure brokers) = anomaly_data (codes "BROKER_FAILURE") brokers
cause_data (cause.GoalViolation goal) = anomaly_data (codes "GOAL_VIOLATION") []

-- what is to be done about lost brokers and broken goals
abbrev pub decided_data : Decision → Data
decided_data (decision.Fix why ask) = cause_data why
decided_data (decision.Alert brokers) = anomaly_data (codes "ALERT") brokers
decided_data (decision.Waiting brokers) = anomaly_data (codes "WAITING") brokers
decided_data decision.Fine = anomaly_data (codes "NONE") []

-- the tasks of the last execution by phase, and what the executor does
abbrev pub executor_data : PhaseCounts → ExecutorState → Data
executor_data c state = object (member (codes "aborted") (number_data c.aborted) (member (codes "aborting") (number_data c.aborting)
    (member (codes "completed") (number_data c.completed) (member (codes "dead") (number_data c.dead)
    (member (codes "inProgress") (number_data c.in_progress) (member (codes "pending") (number_data c.pending)
    (member (codes "state") (string (executor_state_text state)) no_members)))))))

-- how many partitions have loads, of how many
abbrev pub monitor_data : ℕ → ℕ → Data
monitor_data valid all = object (member (codes "all") (number_data all) (member (codes "valid") (number_data valid) no_members))

-- the state
abbrev pub state_data : StateShown → Data
state_data s = object (member (codes "ExecutorState") (executor_data s.counts s.state) (member (codes "MonitorState") (monitor_data s.valid s.all) version))

-- a broker and what it carries
abbrev pub broker_data : BrokerShown → Data
broker_data b = object (member (codes "broker") (number_data b.broker) (member (codes "cpu") (number_data b.cpu) (member (codes "disk") (number_data b.disk)
    (member (codes "leaders") (number_data b.leaders) (member (codes "nwIn") (number_data b.nw_in) (member (codes "nwOut") (number_data b.nw_out)
    (member (codes "potentialNwOut") (number_data b.potential_nw_out) (member (codes "replicas") (number_data b.replicas)
    (member (codes "state") (string (broker_state_text b.state)) no_members)))))))))

-- the loads of the brokers
abbrev pub loads_data : List BrokerShown → Data
loads_data brokers = object (member (codes "brokers") (array (items_of (map broker_data brokers))) version)

-- a partition, its list, and what is moved
abbrev pub part_data : PartShown → Data
part_data p = object (member (codes "adding") (numbers_data p.adding) (member (codes "partition") (number_data p.number)
    (member (codes "removing") (numbers_data p.removing) (member (codes "replicas") (numbers_data p.replicas) (member (codes "topic") (string p.topic) no_members)))))

-- the lost brokers and the partitions
abbrev pub cluster_data : List ℕ → List PartShown → Data
cluster_data lost parts = object (member (codes "deadBrokers") (numbers_data lost) (member (codes "partitions") (array (items_of (map part_data parts))) version))

-- a user task among the others
abbrev pub task_data : TaskShown → Data
task_data t = object (member (codes "endpoint") (string (endpoint_text t.op)) (member (codes "status") (string (task_status_text t.status)) (member (codes "userTaskId") (id_data t.id) no_members)))

-- the user tasks
abbrev pub tasks_data : List TaskShown → Data
tasks_data tasks = object (member (codes "userTasks") (array (items_of (map task_data tasks))) version)

-- a request that was just filed for its review
abbrev pub filed_data : ℕ → Data
filed_data id = object (member (codes "reviewId") (number_data id) (member (codes "status") (string (review_state_text review.PendingReview)) version))

-- a reviewed request among the others
abbrev pub row_data : Row → Data
row_data r = object (member (codes "endpoint") (string (last_part_text r.path)) (member (codes "reviewId") (number_data r.id) (member (codes "status") (string (review_state_text r.state)) no_members)))

-- the reviewed requests
abbrev pub rows_data : List Row → Data
rows_data rows = object (member (codes "requests") (array (items_of (map row_data rows))) version)
