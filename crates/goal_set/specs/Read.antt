-- How a list of names is read: the first fault, and the goals in their order.
use Rattle.std.specs.Prelude.{ℕ, Bool, true, false, not, ◌&&◌, List, [], ◌∷◌, ◌++◌, bytes_eq, find, is_some, Option, Some, None, option_map, if◌then◌else◌}
use Rattle.std.specs.Option.{option_or}
use Rattle.std.specs.List.{flat_map, list_any}
use Rattle.goal_set.specs.Kinds.{is_hard_kind, name_of}
use Rattle.goal_set.specs.declared.kinds.GoalKind.{GoalKind}
use Rattle.goal_set.specs.declared.kinds.GoalKind.TheVariants as kind
use Rattle.goal_set.specs.declared.list.GoalFault.{GoalFault}
use Rattle.goal_set.specs.declared.list.GoalFault.TheVariants.{UnknownGoal, RepeatedGoal, MissingHardGoal}

-- the goals of a request that names none
abbrev pub default_kinds : List GoalKind
default_kinds =
    kind.Evacuation ∷ kind.RackAware ∷ kind.MinTopicLeadersPerBroker ∷ kind.ReplicaCapacity ∷ kind.DiskCapacity ∷ kind.NetworkInboundCapacity
    ∷ kind.NetworkOutboundCapacity ∷ kind.CpuCapacity ∷ kind.Demotion ∷ kind.ReplicaDistribution ∷ kind.PotentialNwOut
    ∷ kind.DiskUsageDistribution ∷ kind.NetworkInboundUsageDistribution ∷ kind.NetworkOutboundUsageDistribution
    ∷ kind.CpuUsageDistribution ∷ kind.TopicReplicaDistribution ∷ kind.LeaderReplicaDistribution
    ∷ kind.LeaderBytesInDistribution ∷ []

-- the goal that has this name
unfoldable pub kind_called : List ℕ → Option GoalKind
kind_called name = find (λ k. bytes_eq name (name_of k)) default_kinds

-- a goal that each list has, and so none names
abbrev pub is_built_in : GoalKind → Bool
is_built_in kind.Evacuation = true
is_built_in kind.Demotion = true
is_built_in _ = false

-- the kind has this name, and may be named
unfoldable pub goes_by : List ℕ → GoalKind → Bool
goes_by name k = not (is_built_in k) && bytes_eq name (name_of k)

-- the goal of a name
unfoldable pub kind_named : List ℕ → Option GoalKind
kind_named name = find (goes_by name) default_kinds

-- the name stands among them
abbrev pub among : List (List ℕ) → List ℕ → Bool
among names name = list_any (bytes_eq name) names

-- the first name that is no goal's
unfoldable pub first_unknown : List (List ℕ) → Option (List ℕ)
first_unknown names = find (λ name. not (is_some (kind_named name))) names

-- the first name that is among those before it, where `seen` came before
abbrev pub first_again : List (List ℕ) → List (List ℕ) → Option (List ℕ)
first_again seen [] = None
first_again seen (name ∷ names) = if among seen name then Some name else first_again (seen ++ name ∷ []) names

-- a hard goal that is to be named, and is not
unfoldable pub is_missing : List (List ℕ) → GoalKind → Bool
is_missing names k = is_hard_kind k && (not (is_built_in k) && not (among names (name_of k)))

-- the first of them in the default list
unfoldable pub first_missing : List (List ℕ) → Option GoalKind
first_missing names = find (is_missing names) default_kinds

-- what is wrong with some names: one is unknown; or else one stands again; or else a hard goal is missing
unfoldable pub names_fault : List (List ℕ) → Bool → Option GoalFault
names_fault names skip =
    option_or (option_map UnknownGoal (first_unknown names))
    (option_or (option_map RepeatedGoal (first_again [] names))
    (if skip then None else option_map (λ k. MissingHardGoal (name_of k)) (first_missing names)))

-- no names have no fault: they stand for the default list
abbrev pub read_fault : List (List ℕ) → Bool → Option GoalFault
read_fault [] skip = None
read_fault (name ∷ names) skip = names_fault (name ∷ names) skip

-- the kind is as hard as this
abbrev pub is_as_hard : Bool → GoalKind → Bool
is_as_hard hard k = if hard then is_hard_kind k else not (is_hard_kind k)

-- the kind, if there is one and it is as hard as this
abbrev pub kept_kind : Bool → Option GoalKind → List GoalKind
kept_kind hard None = []
kept_kind hard (Some k) = if is_as_hard hard k then k ∷ [] else []

-- the hard goals that are named, or the soft ones, in the order of the names
abbrev pub kinds_named : Bool → List (List ℕ) → List GoalKind
kinds_named hard names = flat_map (λ name. kept_kind hard (kind_named name)) names

-- the goals of some names: evacuation, the hard ones, demotion, the soft ones
abbrev pub listed : List (List ℕ) → List GoalKind
listed names = kind.Evacuation ∷ (kinds_named true names ++ kind.Demotion ∷ kinds_named false names)

-- the goals of a request
abbrev pub read_kinds : List (List ℕ) → List GoalKind
read_kinds [] = default_kinds
read_kinds (name ∷ names) = listed (name ∷ names)
