-- What is written is read back.
use Rattle.std.proofs.Common.{◌≡◌, ℕ, ◌<◌, ◌^◌, Bool, true, false, List, [], ◌∷◌, map, Option, Some, refl}
use Rattle.std.specs.List.{All}
use Rattle.std.proofs.lemmas.Bool.{lt-ltb}
use Rattle.std.proofs.lemmas.List.Elements.{All-head, All-tail}
use Rattle.serde_json.specs.Data.{Data}
use Rattle.serde_json.specs.View.{items_of}
use Rattle.plan_terms.specs.declared.actions.Action.TheVariants.{Move, Lead, Swap}
use Rattle.goal_set.specs.Kinds.{name_of}
use Rattle.goal_set.specs.Read.{kind_called}
use Rattle.goal_set.specs.declared.kinds.GoalKind.{GoalKind}
use Rattle.goal_set.specs.declared.kinds.GoalKind.TheVariants as kind
use Rattle.goal_set.specs.declared.trace.Turned.{Turned}
use Rattle.plan_check.specs.Meaning.{action_at, action_items, actions_at, all_of, goal_at, number_at, result_at, result_named, trace_at, turn_at, turns_at, version_at}
use Rattle.plan_check.specs.Reading.{IsReadBack}
use Rattle.plain_json.specs.Numbers.{number_data}
use Rattle.plan_check.specs.Text.{TraceView, action_data, result_name, trace_data, turn_data}

number_at-number_data : (n : ℕ) → n < 2 ^ 32 → number_at (number_data n) ≡ Some n
unfolding number_at
number_at-number_data n l = rw (lt-ltb n (2 ^ 32) l) refl

pub move_read_back : (p a b : ℕ) → p < 2 ^ 32 → a < 2 ^ 32 → b < 2 ^ 32 → IsReadBack action_at action_data (Move p a b)
unfolding action_at action_items
move_read_back p a b lp la lb = rw (number_at-number_data p lp, number_at-number_data a la, number_at-number_data b lb) refl

pub lead_read_back : (p b : ℕ) → p < 2 ^ 32 → b < 2 ^ 32 → IsReadBack action_at action_data (Lead p b)
unfolding action_at action_items
lead_read_back p b lp lb = rw (number_at-number_data p lp, number_at-number_data b lb) refl

pub swap_read_back : (p a q b : ℕ) → p < 2 ^ 32 → a < 2 ^ 32 → q < 2 ^ 32 → b < 2 ^ 32 → IsReadBack action_at action_data (Swap p a q b)
unfolding action_at action_items
swap_read_back p a q b lp la lq lb =
    rw (number_at-number_data p lp, number_at-number_data a la, number_at-number_data q lq, number_at-number_data b lb) refl

-- a list is read back where each of it is
pub all_read_back : {X : Type 0} (read : Data → Option X) (write : X → Data) (xs : List X) → All (IsReadBack read write) xs
    → all_of read (items_of (map write xs)) ≡ Some xs
all_read_back read write [] all = refl
all_read_back read write (x ∷ xs) all =
    rw (All-head (IsReadBack read write) x xs all, all_read_back read write xs (All-tail (IsReadBack read write) x xs all)) refl

pub kind_called-name_of : (k : GoalKind) → kind_called (name_of k) ≡ Some k
unfolding kind_called
kind_called-name_of kind.Evacuation = refl
kind_called-name_of kind.RackAware = refl
kind_called-name_of kind.MinTopicLeadersPerBroker = refl
kind_called-name_of kind.ReplicaCapacity = refl
kind_called-name_of kind.DiskCapacity = refl
kind_called-name_of kind.NetworkInboundCapacity = refl
kind_called-name_of kind.NetworkOutboundCapacity = refl
kind_called-name_of kind.CpuCapacity = refl
kind_called-name_of kind.Demotion = refl
kind_called-name_of kind.ReplicaDistribution = refl
kind_called-name_of kind.PotentialNwOut = refl
kind_called-name_of kind.DiskUsageDistribution = refl
kind_called-name_of kind.NetworkInboundUsageDistribution = refl
kind_called-name_of kind.NetworkOutboundUsageDistribution = refl
kind_called-name_of kind.CpuUsageDistribution = refl
kind_called-name_of kind.TopicReplicaDistribution = refl
kind_called-name_of kind.LeaderReplicaDistribution = refl
kind_called-name_of kind.LeaderBytesInDistribution = refl

-- a turn is read back where its actions are
pub turn_read_back : (t : Turned) → All (IsReadBack action_at action_data) t.actions → IsReadBack turn_at turn_data t
unfolding turn_at actions_at goal_at
turn_read_back t all = rw (all_read_back action_at action_data t.actions all, kind_called-name_of t.goal) refl

result_named-result_name : (planned : Bool) → result_named (result_name planned) ≡ Some planned
result_named-result_name true = refl
result_named-result_name false = refl

-- a trace is read back where its turns are
pub trace_read_back : (t : TraceView) → All (IsReadBack turn_at turn_data) t.turns → IsReadBack trace_at trace_data t
unfolding trace_at turns_at result_at version_at
trace_read_back t all = rw (result_named-result_name t.planned, all_read_back turn_at turn_data t.turns all) refl
