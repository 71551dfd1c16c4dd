-- The parameters of the endpoints: which each takes, and the forms of their values.
use Rattle.std.specs.Prelude.{ℕ, ◌≤◌, ◌^◌, Bool, true, false, not, ◌&&◌, ◌||◌, nat_le, nat_lt, List, [], ◌∷◌, ◌++◌, length, bytes_eq, if◌then◌else◌, is_some, Option, Some, None, codes}
use Rattle.plan_terms.specs.Digits.{whole_of}
use Rattle.rest_stream.specs.Fields.{same_name}
use Rattle.plan_terms.specs.Commas.{pieces}
use Rattle.rest_parse.specs.Query.{Pair, has_name}
use Rattle.rest_parse.specs.declared.parameters.Parameter.{Parameter}
use Rattle.rest_parse.specs.declared.parameters.Parameter.TheVariants as parameter
use Rattle.rest_parse.specs.declared.routes.Endpoint.{Endpoint}
use Rattle.rest_parse.specs.declared.routes.Endpoint.TheVariants as endpoint

-- the names of the caps of movements: of one broker, of the cluster, and of leaders alone
abbrev pub broker_cap : List ℕ
broker_cap = codes "concurrent_partition_movements_per_broker"

abbrev pub cluster_cap : List ℕ
cluster_cap = codes "max_partition_movements_in_cluster"

abbrev pub leader_cap : List ℕ
leader_cap = codes "concurrent_leader_movements"

-- the parameters and their names
abbrev pub table : List (List ℕ × Parameter)
table =
    (codes "goals", parameter.Goals) ∷ (codes "skip_hard_goal_check", parameter.SkipHardGoals) ∷ (codes "excluded_topics", parameter.ExcludedTopics)
    ∷ (codes "dryrun", parameter.DryRun) ∷ (codes "brokerid", parameter.BrokerIds) ∷ (codes "force_stop", parameter.ForceStop)
    ∷ (codes "steps", parameter.Steps) ∷ (codes "broker", parameter.Broker) ∷ (broker_cap, parameter.BrokerCap) ∷ (cluster_cap, parameter.ClusterCap)
    ∷ (leader_cap, parameter.LeaderCap) ∷ (codes "topic", parameter.Topics) ∷ (codes "replication_factor", parameter.Factor)
    ∷ (codes "now", parameter.Now) ∷ (codes "alert_ms", parameter.AlertAge) ∷ (codes "heal_ms", parameter.HealAge) ∷ (codes "json", parameter.Unused) ∷ (codes "verbose", parameter.Unused)
    ∷ (codes "reason", parameter.Unused) ∷ (codes "allow_capacity_estimation", parameter.Unused) ∷ []

abbrev named : List (List ℕ × Parameter) → List ℕ → Option Parameter
named [] name = None
named (row ∷ rows) name = if bytes_eq name row.0 then Some row.1 else named rows name

-- the parameter of a name
unfoldable pub parameter_of : List ℕ → Option Parameter
parameter_of name = named table name

-- accepted everywhere
abbrev pub is_unused : Parameter → Bool
is_unused parameter.Unused = true
is_unused p = false

-- what every plan may be asked with
abbrev pub is_plan : Parameter → Bool
is_plan parameter.Goals = true
is_plan parameter.SkipHardGoals = true
is_plan parameter.ExcludedTopics = true
is_plan p = is_unused p

abbrev is_dryrun : Parameter → Bool
is_dryrun parameter.DryRun = true
is_dryrun p = false

abbrev is_ids : Parameter → Bool
is_ids parameter.BrokerIds = true
is_ids p = false

abbrev is_force : Parameter → Bool
is_force parameter.ForceStop = true
is_force p = false

abbrev is_steps : Parameter → Bool
is_steps parameter.Steps = true
is_steps p = false

abbrev is_broker : Parameter → Bool
is_broker parameter.Broker = true
is_broker p = false

abbrev is_cap : Parameter → Bool
is_cap parameter.BrokerCap = true
is_cap parameter.ClusterCap = true
is_cap parameter.LeaderCap = true
is_cap p = false

abbrev is_change : Parameter → Bool
is_change parameter.Topics = true
is_change parameter.Factor = true
is_change p = false

abbrev is_moment : Parameter → Bool
is_moment parameter.Now = true
is_moment parameter.AlertAge = true
is_moment parameter.HealAge = true
is_moment p = false

-- the endpoint takes the parameter
abbrev pub accepts : Endpoint → Parameter → Bool
accepts endpoint.Proposals p = is_plan p
accepts endpoint.Rebalance p = is_plan p || is_dryrun p
accepts endpoint.AddBroker p = is_plan p || is_dryrun p || is_ids p
accepts endpoint.RemoveBroker p = is_plan p || is_dryrun p || is_ids p
accepts endpoint.DemoteBroker p = is_ids p || is_dryrun p || is_unused p
accepts endpoint.StopExecution p = is_force p || is_unused p
accepts endpoint.Admin p = is_cap p || is_unused p
accepts endpoint.TopicConfiguration p = is_change p || is_dryrun p || is_unused p
accepts endpoint.Detect p = is_moment p || is_unused p
accepts endpoint.Pump p = is_steps p || is_unused p
accepts endpoint.Kill p = is_broker p || is_unused p
accepts e p = is_unused p

-- `true` or `false`, without regard to ASCII case
abbrev pub truth_of : List ℕ → Option Bool
truth_of text = if same_name text (codes "true") then Some true else (if same_name text (codes "false") then Some false else None)

-- the number, where it is in its range
abbrev pub within : ℕ → ℕ → Option ℕ → Option ℕ
within least limit None = None
within least limit (Some n) = if nat_le least n && nat_lt n limit then Some n else None

-- the id of a broker: a whole number below 2^32
abbrev pub id_of : List ℕ → Option ℕ
id_of text = within 0 (2 ^ 32) (whole_of text)

-- a number of steps: 1 to 100,000
abbrev pub steps_of : List ℕ → Option ℕ
steps_of text = within 1 100001 (whole_of text)

-- a cap of movements: 1 to 10,000
abbrev pub cap_of : List ℕ → Option ℕ
cap_of text = within 1 10001 (whole_of text)

-- a replication factor: 1 to 8
abbrev pub factor_of : List ℕ → Option ℕ
factor_of text = within 1 9 (whole_of text)

-- a moment, or an age, in milliseconds: below 2^53
abbrev pub moment_of : List ℕ → Option ℕ
moment_of text = within 0 (2 ^ 53) (whole_of text)

-- a cap of movements is 1 to 10,000
abbrev pub IsCap : ℕ → Type 0
IsCap n = (1 ≤ n) × (n ≤ 10000)

abbrev pub both : Option ℕ → Option (List ℕ) → Option (List ℕ)
both (Some id) (Some ids) = Some (id ∷ ids)
both (Some id) None = None
both None ids = None

-- the ids that these texts are, where each is one
abbrev pub ids_of : List (List ℕ) → Option (List ℕ)
ids_of [] = Some []
ids_of (text ∷ texts) = both (id_of text) (ids_of texts)

abbrev pub at_most : ℕ → Option (List ℕ) → Option (List ℕ)
at_most n None = None
at_most n (Some ids) = if nat_le (length ids) n then Some ids else None

-- 1 to 200 ids, parted by commas
unfoldable pub id_list_of : List ℕ → Option (List ℕ)
id_list_of text = at_most 200 (ids_of (pieces text))

-- the value has the form of the parameter
abbrev pub has_form : Parameter → List ℕ → Bool
has_form parameter.Goals value = true
has_form parameter.SkipHardGoals value = is_some (truth_of value)
has_form parameter.ExcludedTopics value = true
has_form parameter.DryRun value = is_some (truth_of value)
has_form parameter.BrokerIds value = is_some (id_list_of value)
has_form parameter.ForceStop value = is_some (truth_of value)
has_form parameter.Steps value = is_some (steps_of value)
has_form parameter.Broker value = is_some (id_of value)
has_form parameter.BrokerCap value = is_some (cap_of value)
has_form parameter.ClusterCap value = is_some (cap_of value)
has_form parameter.LeaderCap value = is_some (cap_of value)
has_form parameter.Topics value = not (bytes_eq value [])
has_form parameter.Factor value = is_some (factor_of value)
has_form parameter.Now value = is_some (moment_of value)
has_form parameter.AlertAge value = is_some (moment_of value)
has_form parameter.HealAge value = is_some (moment_of value)
has_form parameter.Unused value = true

abbrev pub is_taken : Endpoint → Option Parameter → List ℕ → Bool
is_taken e None value = false
is_taken e (Some p) value = accepts e p && has_form p value

-- the pair is faulty behind these: its name is unknown to the endpoint or stands again, or its value has another form
abbrev pub is_bad : Endpoint → List Pair → Pair → Bool
is_bad e before p = has_name p.0 before || not (is_taken e (parameter_of p.0) p.1)

-- the name of the first faulty pair, behind those before
abbrev pub bad_name : Endpoint → List Pair → List Pair → Option (List ℕ)
bad_name e before [] = None
bad_name e before (p ∷ rest) = if is_bad e before p then Some p.0 else bad_name e (before ++ p ∷ []) rest
