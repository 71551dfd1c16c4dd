-- What requests mean.
use Rattle.std.specs.Prelude.{◌≡◌, ◌≤◌, ◌<◌, ◌^◌, ⊤, ℕ, Bool, true, false, ◌||◌, List, [], bytes_eq, nat_lt, if◌then◌else◌, Option, Some, None, IfSome, unwrap_or, option_and_then, Result, Ok, Err, codes}
use Rattle.uuid.specs.Text.{parsed}
use Rattle.cluster_json.specs.Faults.{Fault}
use Rattle.cluster_json.specs.Named.{named_of}
use Rattle.cluster_json.specs.declared.named.NamedSample.{NamedSample}
use Rattle.rest_parse.specs.Parameters.{IsCap, bad_name, broker_cap, cap_of, cluster_cap, factor_of, id_list_of, id_of, leader_cap, moment_of, steps_of, truth_of}
use Rattle.plan_terms.specs.Commas.{names_in}
use Rattle.rest_parse.specs.Query.{Pair, has_name, pairs_of, path_in, query_in, value_at}
use Rattle.rest_parse.specs.Routes.{endpoint_at, is_read}
use Rattle.rest_parse.specs.declared.calls.Call.{Call}
use Rattle.rest_parse.specs.declared.calls.Call.TheVariants as call
use Rattle.rest_parse.specs.declared.calls.HttpFault.{HttpFault}
use Rattle.rest_parse.specs.declared.calls.HttpFault.TheVariants as fault
use Rattle.user_tasks.specs.declared.ask.Query.TheVariants as query
use Rattle.rest_stream.specs.declared.raw.RawRequest.{RawRequest}
use Rattle.rest_parse.specs.declared.routes.Endpoint.{Endpoint}
use Rattle.rest_parse.specs.declared.routes.Endpoint.TheVariants as endpoint
use Rattle.user_tasks.specs.Asks.{AskView}
use Rattle.user_tasks.specs.declared.ask.Op.{Op}
use Rattle.user_tasks.specs.declared.ask.Op.TheVariants as op

-- a truth value, where it is there
abbrev pub flag_in : List ℕ → Bool → List Pair → Bool
flag_in name default pairs = unwrap_or (option_and_then truth_of (value_at name pairs)) default

-- the names of a list, where it is there
abbrev names_or_none : Option (List ℕ) → List (List ℕ)
names_or_none None = []
names_or_none (Some value) = names_in value

abbrev pub names_at : List ℕ → List Pair → List (List ℕ)
names_at name pairs = names_or_none (value_at name pairs)

-- the ids of brokers, where they are there
abbrev pub ids_in : List Pair → List ℕ
ids_in pairs = unwrap_or (option_and_then id_list_of (value_at (codes "brokerid") pairs)) []

-- what the pairs ask for
abbrev pub ask_of : Op → List Pair → AskView
ask_of o pairs = record {
  op = o;
  brokers = ids_in pairs;
  goals = names_at (codes "goals") pairs;
  skip = flag_in (codes "skip_hard_goal_check") false pairs;
  excluded = names_at (codes "excluded_topics") pairs;
  dryrun = flag_in (codes "dryrun") true pairs;
  topics = [];
  factor = 0;
}

-- the replication factor that is asked for
abbrev pub factor_in : List Pair → ℕ
factor_in pairs = unwrap_or (option_and_then factor_of (value_at (codes "replication_factor") pairs)) 1

-- the change of the replication factor that the pairs ask for
abbrev pub change_of : List Pair → AskView
change_of pairs = record {
  op = op.TopicConfiguration;
  brokers = [];
  goals = [];
  skip = false;
  excluded = [];
  dryrun = flag_in (codes "dryrun") true pairs;
  topics = names_at (codes "topic") pairs;
  factor = factor_in pairs;
}

-- a cap of movements, where it is there
abbrev pub cap_at : List ℕ → List Pair → Option ℕ
cap_at name pairs = option_and_then cap_of (value_at name pairs)

-- a cap of movements is there
abbrev pub has_cap : List Pair → Bool
has_cap pairs = has_name broker_cap pairs || has_name cluster_cap pairs || has_name leader_cap pairs

-- the name, where no pair has it
abbrev pub unless_there : List ℕ → List Pair → Option (List ℕ)
unless_there name pairs = if has_name name pairs then None else Some name

-- the name that has to be there and isn't; of the caps one has to be there
abbrev pub missing_name : Endpoint → List Pair → Option (List ℕ)
missing_name endpoint.AddBroker pairs = unless_there (codes "brokerid") pairs
missing_name endpoint.RemoveBroker pairs = unless_there (codes "brokerid") pairs
missing_name endpoint.DemoteBroker pairs = unless_there (codes "brokerid") pairs
missing_name endpoint.Detect pairs = unless_there (codes "now") pairs
missing_name endpoint.TopicConfiguration pairs = if has_name (codes "topic") pairs then unless_there (codes "replication_factor") pairs else Some (codes "topic")
missing_name endpoint.Kill pairs = unless_there (codes "broker") pairs
missing_name endpoint.Admin pairs = if has_cap pairs then None else Some broker_cap
missing_name e pairs = None

-- the key names no user task, or the one of this id
abbrev with_id : AskView → Option (List ℕ) → Result Call HttpFault
with_id ask None = Err (fault.BadParameter (codes "User-Task-ID"))
with_id ask (Some id) = Ok (call.Submit ask (Some id))

-- a plan, or the user task that the key names
abbrev pub submitted : AskView → Option (List ℕ) → Result Call HttpFault
submitted ask None = Ok (call.Submit ask None)
submitted ask (Some key) = with_id ask (parsed key)

-- a sample
abbrev sampled : Result NamedSample Fault → Result Call HttpFault
sampled (Ok s) = Ok (call.Sample s.topic s.number s.time s.loads)
sampled (Err f) = Err fault.BadBody

abbrev pub sample_call : List ℕ → Result Call HttpFault
sample_call body = sampled (named_of body)

-- a moment or an age in milliseconds, where it is there
abbrev pub moment_in : List ℕ → ℕ → List Pair → ℕ
moment_in name default pairs = unwrap_or (option_and_then moment_of (value_at name pairs)) default

-- a lost broker is told no later than it is removed
abbrev detected : ℕ → ℕ → ℕ → Result Call HttpFault
detected now alert heal = if nat_lt heal alert then Err (fault.BadParameter (codes "heal_ms")) else Ok (call.Detect now alert heal)

-- what is to be done about lost brokers and broken goals; a lost broker is told after 15 minutes, and removed after 30
abbrev pub detect_call : List Pair → Result Call HttpFault
detect_call pairs = detected (moment_in (codes "now") 0 pairs) (moment_in (codes "alert_ms") 900000 pairs) (moment_in (codes "heal_ms") 1800000 pairs)

-- what an endpoint is asked by pairs that are in order, and by the key and the body; only plans look at the key
abbrev pub called : Endpoint → List Pair → RawRequest → Result Call HttpFault
called endpoint.State pairs raw = Ok (call.Show query.State)
called endpoint.Load pairs raw = Ok (call.Show query.Load)
called endpoint.ClusterState pairs raw = Ok (call.Show query.ClusterState)
called endpoint.UserTasks pairs raw = Ok (call.Show query.UserTasks)
called endpoint.Proposals pairs raw = submitted (ask_of op.Proposals pairs) raw.key
called endpoint.Rebalance pairs raw = submitted (ask_of op.Rebalance pairs) raw.key
called endpoint.AddBroker pairs raw = submitted (ask_of op.AddBroker pairs) raw.key
called endpoint.RemoveBroker pairs raw = submitted (ask_of op.RemoveBroker pairs) raw.key
called endpoint.DemoteBroker pairs raw = submitted (ask_of op.DemoteBroker pairs) raw.key
called endpoint.TopicConfiguration pairs raw = submitted (change_of pairs) raw.key
called endpoint.Detect pairs raw = detect_call pairs
called endpoint.StopExecution pairs raw = Ok (call.Stop (flag_in (codes "force_stop") false pairs))
called endpoint.Admin pairs raw = Ok (call.Caps (cap_at broker_cap pairs) (cap_at cluster_cap pairs) (cap_at leader_cap pairs))
called endpoint.Pump pairs raw = Ok (call.Pump (unwrap_or (option_and_then steps_of (value_at (codes "steps") pairs)) 1))
called endpoint.Kill pairs raw = Ok (call.Kill (unwrap_or (option_and_then id_of (value_at (codes "broker") pairs)) 0))
called endpoint.Sample pairs raw = sample_call raw.body

-- unless a name is at fault
abbrev pub unless_bad : {T : Type 0} → Option (List ℕ) → Result T HttpFault → Result T HttpFault
unless_bad None meant = meant
unless_bad (Some name) meant = Err (fault.BadParameter name)

-- the first fault of the pairs in their order; then a name that is missing; then the key, or the body
abbrev pub meaning_at : Endpoint → List Pair → RawRequest → Result Call HttpFault
meaning_at e pairs raw = unless_bad (bad_name e [] pairs) (unless_bad (missing_name e pairs) (called e pairs raw))

-- the method of an endpoint
abbrev pub method_of : Endpoint → List ℕ
method_of e = if is_read e then codes "GET" else codes "POST"

abbrev pub routed : Option Endpoint → RawRequest → Result Call HttpFault
routed None raw = Err fault.NotFound
routed (Some e) raw = if bytes_eq raw.method (method_of e) then meaning_at e (pairs_of (query_in raw.target)) raw else Err fault.WrongMethod

-- the call that a request means, or its first fault: the path, the method, and what the endpoint says
unfoldable pub meaning : RawRequest → Result Call HttpFault
meaning raw = routed (endpoint_at (path_in raw.target)) raw

-- what was answered is what was meant, unless memory ran out
abbrev pub UnlessMemory : {T : Type 0} → Result T HttpFault → Result T HttpFault → Type 0
UnlessMemory (Ok x) meant = meant ≡ Ok x
UnlessMemory (Err fault.Memory) meant = ⊤
UnlessMemory (Err fault.NotFound) meant = meant ≡ Err fault.NotFound
UnlessMemory (Err fault.WrongMethod) meant = meant ≡ Err fault.WrongMethod
UnlessMemory (Err (fault.BadParameter name)) meant = meant ≡ Err (fault.BadParameter name)
UnlessMemory (Err fault.BadBody) meant = meant ≡ Err fault.BadBody

-- the numbers of a call are in their ranges
abbrev pub IsInRange : Call → Type 0
IsInRange (call.Submit ask id) = ⊤
IsInRange (call.Stop force) = ⊤
IsInRange (call.Kill broker) = broker < 2 ^ 32
IsInRange (call.Sample topic number time loads) = (number < 2 ^ 31) × (time < 2 ^ 53)
IsInRange (call.Show shown) = ⊤
IsInRange (call.Pump steps) = (1 ≤ steps) × (steps ≤ 100000)
IsInRange (call.Caps of_broker of_cluster of_leaders) = IfSome of_broker IsCap × IfSome of_cluster IsCap × IfSome of_leaders IsCap
IsInRange (call.Detect now alert heal) = (now < 2 ^ 53) × (alert ≤ heal) × (heal < 2 ^ 53)
