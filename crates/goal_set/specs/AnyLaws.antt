-- The laws of a goal of any kind.
use Rattle.std.proofs.Common.{◌≡◌, refl, ◌<◌, ◌≤◌, ◌^◌, Bool, true, false, List, length, get_or, ℕ}
use Rattle.std.specs.Prelude.{IfSome, IsTrue}
use Rattle.plan_terms.specs.Belongs.{Belongs}
use Rattle.plan_terms.specs.Cluster.{Cluster, Lists}
use Rattle.plan_terms.specs.Effect.{after}
use Rattle.plan_terms.specs.Faults.{IsCase}
use Rattle.plan_terms.specs.Fits.{fits}
use Rattle.plan_terms.specs.Goal.{measure, per_partition}
use Rattle.plan_terms.specs.Racks.{rack_excess}
use Rattle.plan_terms.specs.declared.actions.Action.{Action}
use Rattle.plan_terms.specs.declared.cluster.Part.{Part}
use Rattle.plan_terms.proofs.PartitionLemmas.{per_partition-fits_120_bits}
use Rattle.plan_terms.proofs.RackLemmas.{rack_excess-le}
use Rattle.goal_terms.specs.Bands.{units_of, whole_cap, at_most, within_capacity, even, near_use, below_use}
use Rattle.goal_terms.specs.Goals.{ratio_at}
use Rattle.goal_terms.specs.Limits.{SmallLoads, SmallWeights, SmallBounds}
use Rattle.goal_terms.specs.Pairs.{ColdPairs, IdleTrades, StillParts, giver, taker}
use Rattle.goal_terms.specs.Partitions.{demoted_first, lost_members}
use Rattle.goal_terms.specs.PerTopic.{replica_rule}
use Rattle.goal_terms.specs.PerBroker.{Bounds, per_broker}
use Rattle.goal_terms.specs.Quantity.{Weights, replica_weights, leader_weights, load_weights, potential_out_weights, leader_in_weights}
use Rattle.goal_terms.proofs.BandLemmas.{at_most-small, within_capacity-small, even-small, near_use-small, below_use-small}
use Rattle.goal_terms.proofs.BoundLemmas.{per_broker-fits_120_bits, replica-small, leader-small, load-small, potential_out-small, leader_in-small}
use Rattle.goal_terms.proofs.CaseLemmas.{Limits-case}
use Rattle.goal_terms.proofs.LeastLemmas.{least-small, least-cold_pairs}
use Rattle.goal_terms.proofs.PairLemmas.{broker-cold_pairs, broker-idle_trades, hot-cold_pairs, stirred-still_parts}
use Rattle.goal_terms.proofs.RoomLemmas.{broker-rooms_decide, broker-rooms_stay}
use Rattle.goal_terms.specs.Rooms.{RoomsDecide, broker_room}
use Rattle.goal_terms.proofs.PartitionGoals.{demoted_first-le, lost_members-le}
use Rattle.goal_terms.proofs.PartitionHeat.{partition-still_parts}
use Rattle.goal_terms.proofs.VerdictLemmas.{broker-verdicts_stay, topic-verdicts_stay, least-verdicts_stay, partition-verdicts_stay}
use Rattle.goal_terms.specs.Verdicts.{VerdictsStay}
use Rattle.goal_terms.proofs.TopicGoalLemmas.{topic-fits_120_bits, topic-cold_pairs}
use Rattle.goal_set.specs.Kinds.{meaning_of}
use Rattle.goal_set.specs.AnyMeaning.{any_heat, any_room, any_made, any_meaning, any_stirs, any_weights}
use Rattle.goal_set.specs.declared.any.AnyGoal.{AnyGoal}
use Rattle.goal_set.specs.declared.any.AnyGoal.TheVariants as any
use Rattle.goal_set.specs.declared.kinds.GoalKind.{GoalKind}
use Rattle.goal_set.specs.declared.kinds.GoalKind.TheVariants as kind
use Rattle.plan_terms.specs.Resources.{CPU, NW_IN, NW_OUT, DISK}

-- the loads and weights are small
pub replicas : (p : Part) → SmallLoads p → SmallWeights replica_weights p
replicas p _ = replica-small p

pub leads : (p : Part) → SmallLoads p → SmallWeights leader_weights p
leads p _ = leader-small p

pub loads : (r : ℕ) (p : Part) → SmallLoads p → SmallWeights (load_weights r) p
loads r p h = load-small r p h

pub potential : (p : Part) → SmallLoads p → SmallWeights potential_out_weights p
potential p h = potential_out-small p h

pub inbound : (p : Part) → SmallLoads p → SmallWeights leader_in_weights p
inbound p h = leader_in-small p h

-- of a goal over brokers
pub broker-small : (hard : Bool) (w : Weights) (b : Bounds) (c : Cluster) (lists : Lists) → ((p : Part) → SmallLoads p → SmallWeights w p) → SmallBounds b → IsCase c → Belongs c lists → measure (per_broker hard w b c) lists < 2 ^ 120
broker-small hard w b c lists small bounds is_case fits =
    let limits = Limits-case c is_case in
    per_broker-fits_120_bits w c lists limits (λ k d l. small (get_or c.parts k d) (limits.loads k d l)) fits hard b bounds

-- of a goal over partitions
pub partition-small : (hard : Bool) (f : List ℕ → ℕ) (c : Cluster) (lists : Lists) → ((list : List ℕ) → f list ≤ length list) → IsCase c → Belongs c lists → measure (per_partition hard f c) lists < 2 ^ 120
partition-small hard f c lists within is_case fits =
    let limits = Limits-case c is_case in
    per_partition-fits_120_bits hard f c lists fits limits.few_parts within

-- the measure is small
pub any-small : (g : AnyGoal) (c : Cluster) (lists : Lists) → any_made g c → IsCase c → Belongs c lists → measure (any_meaning g c) lists < 2 ^ 120
any-small (any.Evacuation g) c lists made is_case fits = partition-small true (lost_members c) c lists (lost_members-le c) is_case fits
any-small (any.RackAware g) c lists made is_case fits = partition-small true (rack_excess c) c lists (rack_excess-le c) is_case fits
any-small (any.MinTopicLeadersPerBroker g) c lists made is_case fits = least-small c lists made.small (Limits-case c is_case)
any-small (any.ReplicaCapacity g) c lists made is_case fits = broker-small true replica_weights (at_most c.options.max_replicas) c lists replicas (at_most-small c.options.max_replicas) is_case fits
any-small (any.DiskCapacity g) c lists made is_case fits = broker-small true (load_weights DISK) (within_capacity (ratio_at c.options.limit DISK) DISK) c lists (loads 3) (within_capacity-small (ratio_at c.options.limit DISK) DISK made.1.small) is_case fits
any-small (any.NetworkInboundCapacity g) c lists made is_case fits = broker-small true (load_weights NW_IN) (within_capacity (ratio_at c.options.limit NW_IN) NW_IN) c lists (loads 1) (within_capacity-small (ratio_at c.options.limit NW_IN) NW_IN made.1.small) is_case fits
any-small (any.NetworkOutboundCapacity g) c lists made is_case fits = broker-small true (load_weights NW_OUT) (within_capacity (ratio_at c.options.limit NW_OUT) NW_OUT) c lists (loads 2) (within_capacity-small (ratio_at c.options.limit NW_OUT) NW_OUT made.1.small) is_case fits
any-small (any.CpuCapacity g) c lists made is_case fits = broker-small true (load_weights CPU) (within_capacity (ratio_at c.options.limit CPU) CPU) c lists (loads 0) (within_capacity-small (ratio_at c.options.limit CPU) CPU made.1.small) is_case fits
any-small (any.Demotion g) c lists made is_case fits = partition-small false (demoted_first c) c lists (demoted_first-le c) is_case fits
any-small (any.ReplicaDistribution g) c lists made is_case fits = broker-small false replica_weights (even c.options.replica_balance (units_of c)) c lists replicas (even-small c.options.replica_balance (units_of c) made.1.0.small) is_case fits
any-small (any.PotentialNwOut g) c lists made is_case fits = broker-small false potential_out_weights (within_capacity (ratio_at c.options.limit NW_OUT) NW_OUT) c lists potential (within_capacity-small (ratio_at c.options.limit NW_OUT) NW_OUT made.1.small) is_case fits
any-small (any.DiskUsageDistribution g) c lists made is_case fits = broker-small false (load_weights DISK) (near_use (ratio_at c.options.balance DISK) DISK (whole_cap DISK c)) c lists (loads 3) (near_use-small (ratio_at c.options.balance DISK) DISK c made.1.0.small (Limits-case c is_case)) is_case fits
any-small (any.NetworkInboundUsageDistribution g) c lists made is_case fits = broker-small false (load_weights NW_IN) (near_use (ratio_at c.options.balance NW_IN) NW_IN (whole_cap NW_IN c)) c lists (loads 1) (near_use-small (ratio_at c.options.balance NW_IN) NW_IN c made.1.0.small (Limits-case c is_case)) is_case fits
any-small (any.NetworkOutboundUsageDistribution g) c lists made is_case fits = broker-small false (load_weights NW_OUT) (near_use (ratio_at c.options.balance NW_OUT) NW_OUT (whole_cap NW_OUT c)) c lists (loads 2) (near_use-small (ratio_at c.options.balance NW_OUT) NW_OUT c made.1.0.small (Limits-case c is_case)) is_case fits
any-small (any.CpuUsageDistribution g) c lists made is_case fits = broker-small false (load_weights CPU) (near_use (ratio_at c.options.balance CPU) CPU (whole_cap CPU c)) c lists (loads 0) (near_use-small (ratio_at c.options.balance CPU) CPU c made.1.0.small (Limits-case c is_case)) is_case fits
any-small (any.TopicReplicaDistribution g) c lists made is_case fits = topic-fits_120_bits false c.options.topic_balance c lists made.0.0.small (Limits-case c is_case) fits
any-small (any.LeaderReplicaDistribution g) c lists made is_case fits = broker-small false leader_weights (even c.options.leader_balance (units_of c)) c lists leads (even-small c.options.leader_balance (units_of c) made.1.0.small) is_case fits
any-small (any.LeaderBytesInDistribution g) c lists made is_case fits = broker-small false leader_in_weights (below_use (ratio_at c.options.balance NW_IN) NW_IN (whole_cap NW_IN c)) c lists inbound (below_use-small (ratio_at c.options.balance NW_IN) NW_IN c made.1.0.small (Limits-case c is_case)) is_case fits

-- an action of two cold brokers does not lessen it
pub kind-cold_pairs : (k : GoalKind) (c : Cluster) (lists : Lists) → IsCase c → Belongs c lists → ColdPairs (meaning_of k c) (any_heat k c lists) lists
kind-cold_pairs kind.Evacuation c lists is_case fits = hot-cold_pairs (per_partition true (lost_members c) c) lists
kind-cold_pairs kind.RackAware c lists is_case fits = hot-cold_pairs (per_partition true (rack_excess c) c) lists
kind-cold_pairs kind.MinTopicLeadersPerBroker c lists is_case fits = least-cold_pairs c lists (Limits-case c is_case) fits
kind-cold_pairs kind.ReplicaCapacity c lists is_case fits = broker-cold_pairs true replica_weights (at_most c.options.max_replicas) c lists (Limits-case c is_case) fits
kind-cold_pairs kind.DiskCapacity c lists is_case fits = broker-cold_pairs true (load_weights DISK) (within_capacity (ratio_at c.options.limit DISK) DISK) c lists (Limits-case c is_case) fits
kind-cold_pairs kind.NetworkInboundCapacity c lists is_case fits = broker-cold_pairs true (load_weights NW_IN) (within_capacity (ratio_at c.options.limit NW_IN) NW_IN) c lists (Limits-case c is_case) fits
kind-cold_pairs kind.NetworkOutboundCapacity c lists is_case fits = broker-cold_pairs true (load_weights NW_OUT) (within_capacity (ratio_at c.options.limit NW_OUT) NW_OUT) c lists (Limits-case c is_case) fits
kind-cold_pairs kind.CpuCapacity c lists is_case fits = broker-cold_pairs true (load_weights CPU) (within_capacity (ratio_at c.options.limit CPU) CPU) c lists (Limits-case c is_case) fits
kind-cold_pairs kind.Demotion c lists is_case fits = hot-cold_pairs (per_partition false (demoted_first c) c) lists
kind-cold_pairs kind.ReplicaDistribution c lists is_case fits = broker-cold_pairs false replica_weights (even c.options.replica_balance (units_of c)) c lists (Limits-case c is_case) fits
kind-cold_pairs kind.PotentialNwOut c lists is_case fits = broker-cold_pairs false potential_out_weights (within_capacity (ratio_at c.options.limit NW_OUT) NW_OUT) c lists (Limits-case c is_case) fits
kind-cold_pairs kind.DiskUsageDistribution c lists is_case fits = broker-cold_pairs false (load_weights DISK) (near_use (ratio_at c.options.balance DISK) DISK (whole_cap DISK c)) c lists (Limits-case c is_case) fits
kind-cold_pairs kind.NetworkInboundUsageDistribution c lists is_case fits = broker-cold_pairs false (load_weights NW_IN) (near_use (ratio_at c.options.balance NW_IN) NW_IN (whole_cap NW_IN c)) c lists (Limits-case c is_case) fits
kind-cold_pairs kind.NetworkOutboundUsageDistribution c lists is_case fits = broker-cold_pairs false (load_weights NW_OUT) (near_use (ratio_at c.options.balance NW_OUT) NW_OUT (whole_cap NW_OUT c)) c lists (Limits-case c is_case) fits
kind-cold_pairs kind.CpuUsageDistribution c lists is_case fits = broker-cold_pairs false (load_weights CPU) (near_use (ratio_at c.options.balance CPU) CPU (whole_cap CPU c)) c lists (Limits-case c is_case) fits
kind-cold_pairs kind.TopicReplicaDistribution c lists is_case fits = topic-cold_pairs false (replica_rule (even c.options.topic_balance (units_of c))) c lists (Limits-case c is_case) fits
kind-cold_pairs kind.LeaderReplicaDistribution c lists is_case fits = broker-cold_pairs false leader_weights (even c.options.leader_balance (units_of c)) c lists (Limits-case c is_case) fits
kind-cold_pairs kind.LeaderBytesInDistribution c lists is_case fits = broker-cold_pairs false leader_in_weights (below_use (ratio_at c.options.balance NW_IN) NW_IN (whole_cap NW_IN c)) c lists (Limits-case c is_case) fits

-- an action of partitions none of which stirs does not lessen the goal
pub kind-still_parts : (k : GoalKind) (c : Cluster) (lists : Lists) → Belongs c lists → StillParts (meaning_of k c) (any_stirs k c lists) lists
kind-still_parts kind.Evacuation c lists fits = partition-still_parts (lost_members c) true c lists fits
kind-still_parts kind.RackAware c lists fits = partition-still_parts (rack_excess c) true c lists fits
kind-still_parts kind.MinTopicLeadersPerBroker c lists fits = stirred-still_parts (meaning_of kind.MinTopicLeadersPerBroker c) lists
kind-still_parts kind.ReplicaCapacity c lists fits = stirred-still_parts (meaning_of kind.ReplicaCapacity c) lists
kind-still_parts kind.DiskCapacity c lists fits = stirred-still_parts (meaning_of kind.DiskCapacity c) lists
kind-still_parts kind.NetworkInboundCapacity c lists fits = stirred-still_parts (meaning_of kind.NetworkInboundCapacity c) lists
kind-still_parts kind.NetworkOutboundCapacity c lists fits = stirred-still_parts (meaning_of kind.NetworkOutboundCapacity c) lists
kind-still_parts kind.CpuCapacity c lists fits = stirred-still_parts (meaning_of kind.CpuCapacity c) lists
kind-still_parts kind.Demotion c lists fits = partition-still_parts (demoted_first c) false c lists fits
kind-still_parts kind.ReplicaDistribution c lists fits = stirred-still_parts (meaning_of kind.ReplicaDistribution c) lists
kind-still_parts kind.PotentialNwOut c lists fits = stirred-still_parts (meaning_of kind.PotentialNwOut c) lists
kind-still_parts kind.DiskUsageDistribution c lists fits = stirred-still_parts (meaning_of kind.DiskUsageDistribution c) lists
kind-still_parts kind.NetworkInboundUsageDistribution c lists fits = stirred-still_parts (meaning_of kind.NetworkInboundUsageDistribution c) lists
kind-still_parts kind.NetworkOutboundUsageDistribution c lists fits = stirred-still_parts (meaning_of kind.NetworkOutboundUsageDistribution c) lists
kind-still_parts kind.CpuUsageDistribution c lists fits = stirred-still_parts (meaning_of kind.CpuUsageDistribution c) lists
kind-still_parts kind.TopicReplicaDistribution c lists fits = stirred-still_parts (meaning_of kind.TopicReplicaDistribution c) lists
kind-still_parts kind.LeaderReplicaDistribution c lists fits = stirred-still_parts (meaning_of kind.LeaderReplicaDistribution c) lists
kind-still_parts kind.LeaderBytesInDistribution c lists fits = stirred-still_parts (meaning_of kind.LeaderBytesInDistribution c) lists

-- a trade that cannot lessen it does not
pub kind-idle_trades : (k : GoalKind) (c : Cluster) (lists : Lists) → IsCase c → Belongs c lists → IfSome (any_weights k) (IdleTrades (meaning_of k c) (any_heat k c lists) c.parts lists)
kind-idle_trades kind.Evacuation c lists is_case fits = tt
kind-idle_trades kind.RackAware c lists is_case fits = tt
kind-idle_trades kind.MinTopicLeadersPerBroker c lists is_case fits = tt
kind-idle_trades kind.ReplicaCapacity c lists is_case fits = broker-idle_trades true replica_weights (at_most c.options.max_replicas) c lists (Limits-case c is_case) fits
kind-idle_trades kind.DiskCapacity c lists is_case fits = broker-idle_trades true (load_weights DISK) (within_capacity (ratio_at c.options.limit DISK) DISK) c lists (Limits-case c is_case) fits
kind-idle_trades kind.NetworkInboundCapacity c lists is_case fits = broker-idle_trades true (load_weights NW_IN) (within_capacity (ratio_at c.options.limit NW_IN) NW_IN) c lists (Limits-case c is_case) fits
kind-idle_trades kind.NetworkOutboundCapacity c lists is_case fits = broker-idle_trades true (load_weights NW_OUT) (within_capacity (ratio_at c.options.limit NW_OUT) NW_OUT) c lists (Limits-case c is_case) fits
kind-idle_trades kind.CpuCapacity c lists is_case fits = broker-idle_trades true (load_weights CPU) (within_capacity (ratio_at c.options.limit CPU) CPU) c lists (Limits-case c is_case) fits
kind-idle_trades kind.Demotion c lists is_case fits = tt
kind-idle_trades kind.ReplicaDistribution c lists is_case fits = broker-idle_trades false replica_weights (even c.options.replica_balance (units_of c)) c lists (Limits-case c is_case) fits
kind-idle_trades kind.PotentialNwOut c lists is_case fits = broker-idle_trades false potential_out_weights (within_capacity (ratio_at c.options.limit NW_OUT) NW_OUT) c lists (Limits-case c is_case) fits
kind-idle_trades kind.DiskUsageDistribution c lists is_case fits = broker-idle_trades false (load_weights DISK) (near_use (ratio_at c.options.balance DISK) DISK (whole_cap DISK c)) c lists (Limits-case c is_case) fits
kind-idle_trades kind.NetworkInboundUsageDistribution c lists is_case fits = broker-idle_trades false (load_weights NW_IN) (near_use (ratio_at c.options.balance NW_IN) NW_IN (whole_cap NW_IN c)) c lists (Limits-case c is_case) fits
kind-idle_trades kind.NetworkOutboundUsageDistribution c lists is_case fits = broker-idle_trades false (load_weights NW_OUT) (near_use (ratio_at c.options.balance NW_OUT) NW_OUT (whole_cap NW_OUT c)) c lists (Limits-case c is_case) fits
kind-idle_trades kind.CpuUsageDistribution c lists is_case fits = broker-idle_trades false (load_weights CPU) (near_use (ratio_at c.options.balance CPU) CPU (whole_cap CPU c)) c lists (Limits-case c is_case) fits
kind-idle_trades kind.TopicReplicaDistribution c lists is_case fits = tt
kind-idle_trades kind.LeaderReplicaDistribution c lists is_case fits = broker-idle_trades false leader_weights (even c.options.leader_balance (units_of c)) c lists (Limits-case c is_case) fits
kind-idle_trades kind.LeaderBytesInDistribution c lists is_case fits = broker-idle_trades false leader_in_weights (below_use (ratio_at c.options.balance NW_IN) NW_IN (whole_cap NW_IN c)) c lists (Limits-case c is_case) fits

-- the rooms of the two brokers of an action decide whether a goal over brokers accepts it
pub broker-decides : (hard : Bool) (w : Weights) (b : Bounds) (c : Cluster) (lists : Lists) → ((p : Part) → SmallLoads p → SmallWeights w p) → IsCase c → Belongs c lists
    → RoomsDecide (per_broker hard w b c) (broker_room w b c lists) c.parts lists w
broker-decides hard w b c lists small is_case fits =
    let limits = Limits-case c is_case in
    broker-rooms_decide hard w b c lists limits fits (λ k d l. small (get_or c.parts k d) (limits.loads k d l))

-- where it has a quantity, the rooms of an action's two brokers decide whether it accepts it
pub kind-rooms_decide : (k : GoalKind) (c : Cluster) (lists : Lists) → IsCase c → Belongs c lists → IfSome (any_weights k) (RoomsDecide (meaning_of k c) (any_room k c lists) c.parts lists)
kind-rooms_decide kind.Evacuation c lists is_case fits = tt
kind-rooms_decide kind.RackAware c lists is_case fits = tt
kind-rooms_decide kind.MinTopicLeadersPerBroker c lists is_case fits = tt
kind-rooms_decide kind.ReplicaCapacity c lists is_case fits = broker-decides true replica_weights (at_most c.options.max_replicas) c lists replicas is_case fits
kind-rooms_decide kind.DiskCapacity c lists is_case fits = broker-decides true (load_weights DISK) (within_capacity (ratio_at c.options.limit DISK) DISK) c lists (loads 3) is_case fits
kind-rooms_decide kind.NetworkInboundCapacity c lists is_case fits = broker-decides true (load_weights NW_IN) (within_capacity (ratio_at c.options.limit NW_IN) NW_IN) c lists (loads 1) is_case fits
kind-rooms_decide kind.NetworkOutboundCapacity c lists is_case fits = broker-decides true (load_weights NW_OUT) (within_capacity (ratio_at c.options.limit NW_OUT) NW_OUT) c lists (loads 2) is_case fits
kind-rooms_decide kind.CpuCapacity c lists is_case fits = broker-decides true (load_weights CPU) (within_capacity (ratio_at c.options.limit CPU) CPU) c lists (loads 0) is_case fits
kind-rooms_decide kind.Demotion c lists is_case fits = tt
kind-rooms_decide kind.ReplicaDistribution c lists is_case fits = broker-decides false replica_weights (even c.options.replica_balance (units_of c)) c lists replicas is_case fits
kind-rooms_decide kind.PotentialNwOut c lists is_case fits = broker-decides false potential_out_weights (within_capacity (ratio_at c.options.limit NW_OUT) NW_OUT) c lists potential is_case fits
kind-rooms_decide kind.DiskUsageDistribution c lists is_case fits = broker-decides false (load_weights DISK) (near_use (ratio_at c.options.balance DISK) DISK (whole_cap DISK c)) c lists (loads 3) is_case fits
kind-rooms_decide kind.NetworkInboundUsageDistribution c lists is_case fits = broker-decides false (load_weights NW_IN) (near_use (ratio_at c.options.balance NW_IN) NW_IN (whole_cap NW_IN c)) c lists (loads 1) is_case fits
kind-rooms_decide kind.NetworkOutboundUsageDistribution c lists is_case fits = broker-decides false (load_weights NW_OUT) (near_use (ratio_at c.options.balance NW_OUT) NW_OUT (whole_cap NW_OUT c)) c lists (loads 2) is_case fits
kind-rooms_decide kind.CpuUsageDistribution c lists is_case fits = broker-decides false (load_weights CPU) (near_use (ratio_at c.options.balance CPU) CPU (whole_cap CPU c)) c lists (loads 0) is_case fits
kind-rooms_decide kind.TopicReplicaDistribution c lists is_case fits = tt
kind-rooms_decide kind.LeaderReplicaDistribution c lists is_case fits = broker-decides false leader_weights (even c.options.leader_balance (units_of c)) c lists leads is_case fits
kind-rooms_decide kind.LeaderBytesInDistribution c lists is_case fits = broker-decides false leader_in_weights (below_use (ratio_at c.options.balance NW_IN) NW_IN (whole_cap NW_IN c)) c lists inbound is_case fits

-- an action leaves the rooms of all brokers but its two
pub kind-rooms_stay : (k : GoalKind) (c : Cluster) (lists : Lists) → Belongs c lists → (a : Action) → IsTrue (fits lists a)
    → (b : ℕ) → (b ≡ giver lists a → ⊥) → (b ≡ taker a → ⊥) → any_room k c (after a lists) b ≡ any_room k c lists b
kind-rooms_stay kind.Evacuation c lists belongs a fit b g t = refl
kind-rooms_stay kind.RackAware c lists belongs a fit b g t = refl
kind-rooms_stay kind.MinTopicLeadersPerBroker c lists belongs a fit b g t = refl
kind-rooms_stay kind.ReplicaCapacity c lists belongs a fit b g t = broker-rooms_stay replica_weights (at_most c.options.max_replicas) c lists a belongs fit b g t
kind-rooms_stay kind.DiskCapacity c lists belongs a fit b g t = broker-rooms_stay (load_weights DISK) (within_capacity (ratio_at c.options.limit DISK) DISK) c lists a belongs fit b g t
kind-rooms_stay kind.NetworkInboundCapacity c lists belongs a fit b g t = broker-rooms_stay (load_weights NW_IN) (within_capacity (ratio_at c.options.limit NW_IN) NW_IN) c lists a belongs fit b g t
kind-rooms_stay kind.NetworkOutboundCapacity c lists belongs a fit b g t = broker-rooms_stay (load_weights NW_OUT) (within_capacity (ratio_at c.options.limit NW_OUT) NW_OUT) c lists a belongs fit b g t
kind-rooms_stay kind.CpuCapacity c lists belongs a fit b g t = broker-rooms_stay (load_weights CPU) (within_capacity (ratio_at c.options.limit CPU) CPU) c lists a belongs fit b g t
kind-rooms_stay kind.Demotion c lists belongs a fit b g t = refl
kind-rooms_stay kind.ReplicaDistribution c lists belongs a fit b g t = broker-rooms_stay replica_weights (even c.options.replica_balance (units_of c)) c lists a belongs fit b g t
kind-rooms_stay kind.PotentialNwOut c lists belongs a fit b g t = broker-rooms_stay potential_out_weights (within_capacity (ratio_at c.options.limit NW_OUT) NW_OUT) c lists a belongs fit b g t
kind-rooms_stay kind.DiskUsageDistribution c lists belongs a fit b g t = broker-rooms_stay (load_weights DISK) (near_use (ratio_at c.options.balance DISK) DISK (whole_cap DISK c)) c lists a belongs fit b g t
kind-rooms_stay kind.NetworkInboundUsageDistribution c lists belongs a fit b g t = broker-rooms_stay (load_weights NW_IN) (near_use (ratio_at c.options.balance NW_IN) NW_IN (whole_cap NW_IN c)) c lists a belongs fit b g t
kind-rooms_stay kind.NetworkOutboundUsageDistribution c lists belongs a fit b g t = broker-rooms_stay (load_weights NW_OUT) (near_use (ratio_at c.options.balance NW_OUT) NW_OUT (whole_cap NW_OUT c)) c lists a belongs fit b g t
kind-rooms_stay kind.CpuUsageDistribution c lists belongs a fit b g t = broker-rooms_stay (load_weights CPU) (near_use (ratio_at c.options.balance CPU) CPU (whole_cap CPU c)) c lists a belongs fit b g t
kind-rooms_stay kind.TopicReplicaDistribution c lists belongs a fit b g t = refl
kind-rooms_stay kind.LeaderReplicaDistribution c lists belongs a fit b g t = broker-rooms_stay leader_weights (even c.options.leader_balance (units_of c)) c lists a belongs fit b g t
kind-rooms_stay kind.LeaderBytesInDistribution c lists belongs a fit b g t = broker-rooms_stay leader_in_weights (below_use (ratio_at c.options.balance NW_IN) NW_IN (whole_cap NW_IN c)) c lists a belongs fit b g t

-- an action leaves what it says of every other that shares no broker and no partition with it
pub kind-verdicts_stay : (k : GoalKind) (c : Cluster) (lists : Lists) → IsCase c → Belongs c lists → VerdictsStay (meaning_of k c) lists
kind-verdicts_stay kind.Evacuation c lists is_case fits = partition-verdicts_stay true (lost_members c) c lists
kind-verdicts_stay kind.RackAware c lists is_case fits = partition-verdicts_stay true (rack_excess c) c lists
kind-verdicts_stay kind.MinTopicLeadersPerBroker c lists is_case fits = least-verdicts_stay c lists (Limits-case c is_case) fits
kind-verdicts_stay kind.ReplicaCapacity c lists is_case fits = broker-verdicts_stay true replica_weights (at_most c.options.max_replicas) c lists (Limits-case c is_case) fits
kind-verdicts_stay kind.DiskCapacity c lists is_case fits = broker-verdicts_stay true (load_weights DISK) (within_capacity (ratio_at c.options.limit DISK) DISK) c lists (Limits-case c is_case) fits
kind-verdicts_stay kind.NetworkInboundCapacity c lists is_case fits = broker-verdicts_stay true (load_weights NW_IN) (within_capacity (ratio_at c.options.limit NW_IN) NW_IN) c lists (Limits-case c is_case) fits
kind-verdicts_stay kind.NetworkOutboundCapacity c lists is_case fits = broker-verdicts_stay true (load_weights NW_OUT) (within_capacity (ratio_at c.options.limit NW_OUT) NW_OUT) c lists (Limits-case c is_case) fits
kind-verdicts_stay kind.CpuCapacity c lists is_case fits = broker-verdicts_stay true (load_weights CPU) (within_capacity (ratio_at c.options.limit CPU) CPU) c lists (Limits-case c is_case) fits
kind-verdicts_stay kind.Demotion c lists is_case fits = partition-verdicts_stay false (demoted_first c) c lists
kind-verdicts_stay kind.ReplicaDistribution c lists is_case fits = broker-verdicts_stay false replica_weights (even c.options.replica_balance (units_of c)) c lists (Limits-case c is_case) fits
kind-verdicts_stay kind.PotentialNwOut c lists is_case fits = broker-verdicts_stay false potential_out_weights (within_capacity (ratio_at c.options.limit NW_OUT) NW_OUT) c lists (Limits-case c is_case) fits
kind-verdicts_stay kind.DiskUsageDistribution c lists is_case fits = broker-verdicts_stay false (load_weights DISK) (near_use (ratio_at c.options.balance DISK) DISK (whole_cap DISK c)) c lists (Limits-case c is_case) fits
kind-verdicts_stay kind.NetworkInboundUsageDistribution c lists is_case fits = broker-verdicts_stay false (load_weights NW_IN) (near_use (ratio_at c.options.balance NW_IN) NW_IN (whole_cap NW_IN c)) c lists (Limits-case c is_case) fits
kind-verdicts_stay kind.NetworkOutboundUsageDistribution c lists is_case fits = broker-verdicts_stay false (load_weights NW_OUT) (near_use (ratio_at c.options.balance NW_OUT) NW_OUT (whole_cap NW_OUT c)) c lists (Limits-case c is_case) fits
kind-verdicts_stay kind.CpuUsageDistribution c lists is_case fits = broker-verdicts_stay false (load_weights CPU) (near_use (ratio_at c.options.balance CPU) CPU (whole_cap CPU c)) c lists (Limits-case c is_case) fits
kind-verdicts_stay kind.TopicReplicaDistribution c lists is_case fits = topic-verdicts_stay false (replica_rule (even c.options.topic_balance (units_of c))) c lists (Limits-case c is_case) fits
kind-verdicts_stay kind.LeaderReplicaDistribution c lists is_case fits = broker-verdicts_stay false leader_weights (even c.options.leader_balance (units_of c)) c lists (Limits-case c is_case) fits
kind-verdicts_stay kind.LeaderBytesInDistribution c lists is_case fits = broker-verdicts_stay false leader_in_weights (below_use (ratio_at c.options.balance NW_IN) NW_IN (whole_cap NW_IN c)) c lists (Limits-case c is_case) fits
