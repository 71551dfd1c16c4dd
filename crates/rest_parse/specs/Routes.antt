-- The endpoints and their paths.
use Rattle.std.specs.Prelude.{ℕ, Bool, true, false, List, [], ◌∷◌, Option, Some, None, codes, if◌then◌else◌, map, bytes_eq}
use Rattle.matchit.specs.Rows.{RowsOf}
use Rattle.matchit.specs.Router.{RouteOf}
use Rattle.rest_parse.specs.declared.routes.Endpoint.{Endpoint}
use Rattle.rest_parse.specs.declared.routes.Endpoint.TheVariants.{State, Load, ClusterState, UserTasks, Proposals, Rebalance, AddBroker, RemoveBroker, DemoteBroker, StopExecution, Admin, TopicConfiguration, Pump, Kill, Sample, Detect}

-- requests to it are sent with `GET`, and not with `POST`
abbrev pub is_read : Endpoint → Bool
is_read State = true
is_read Load = true
is_read ClusterState = true
is_read UserTasks = true
is_read Proposals = true
is_read Rebalance = false
is_read AddBroker = false
is_read RemoveBroker = false
is_read DemoteBroker = false
is_read StopExecution = false
is_read Admin = false
is_read TopicConfiguration = false
is_read Pump = false
is_read Kill = false
is_read Sample = false
is_read Detect = false

-- its path
abbrev pub path_of : Endpoint → List ℕ
path_of State = codes "/kafkacruisecontrol/state"
path_of Load = codes "/kafkacruisecontrol/load"
path_of ClusterState = codes "/kafkacruisecontrol/kafka_cluster_state"
path_of UserTasks = codes "/kafkacruisecontrol/user_tasks"
path_of Proposals = codes "/kafkacruisecontrol/proposals"
path_of Rebalance = codes "/kafkacruisecontrol/rebalance"
path_of AddBroker = codes "/kafkacruisecontrol/add_broker"
path_of RemoveBroker = codes "/kafkacruisecontrol/remove_broker"
path_of DemoteBroker = codes "/kafkacruisecontrol/demote_broker"
path_of StopExecution = codes "/kafkacruisecontrol/stop_proposal_execution"
path_of Admin = codes "/kafkacruisecontrol/admin"
path_of TopicConfiguration = codes "/kafkacruisecontrol/topic_configuration"
path_of Pump = codes "/cluster/pump"
path_of Kill = codes "/cluster/kill"
path_of Sample = codes "/cluster/sample"
path_of Detect = codes "/cluster/detect"

-- the first of the endpoints with this path
abbrev pub among : List Endpoint → List ℕ → Option Endpoint
among [] path = None
among (e ∷ es) path = if bytes_eq (path_of e) path then Some e else among es path

-- all endpoints, in order of their paths
abbrev pub all_endpoints : List Endpoint
all_endpoints = Detect ∷ Kill ∷ Pump ∷ Sample ∷ AddBroker ∷ Admin ∷ DemoteBroker ∷ ClusterState ∷ Load ∷ Proposals ∷ Rebalance ∷ RemoveBroker ∷ State ∷ StopExecution ∷ TopicConfiguration ∷ UserTasks ∷ []

-- the endpoint at a path
unfoldable pub endpoint_at : List ℕ → Option Endpoint
endpoint_at path = among all_endpoints path

-- those that were put into a router so far, in order of their paths
abbrev pub first_five : List Endpoint
first_five = ClusterState ∷ Load ∷ Proposals ∷ State ∷ UserTasks ∷ []

abbrev pub first_ten : List Endpoint
first_ten = AddBroker ∷ DemoteBroker ∷ ClusterState ∷ Load ∷ Proposals ∷ Rebalance ∷ RemoveBroker ∷ State ∷ TopicConfiguration ∷ UserTasks ∷ []

-- what a router keeps of a route with no parameter
abbrev pub static_row : Endpoint → List ℕ × RouteOf Endpoint
static_row e = (path_of e, record { pattern = path_of e; text = path_of e; names = []; value = e })

abbrev pub rows_of : List Endpoint → RowsOf (RouteOf Endpoint)
rows_of = map static_row

-- what a router keeps of all endpoints
abbrev pub rows : RowsOf (RouteOf Endpoint)
rows = rows_of all_endpoints
