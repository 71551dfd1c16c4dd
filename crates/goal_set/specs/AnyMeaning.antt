-- What a goal of any kind is for, and what it keeps of its case.
use Rattle.std.specs.Prelude.{◌≡◌, ℕ, Bool, true, Option, Some, None}
use Rattle.plan_terms.specs.Cluster.{Cluster, Lists}
use Rattle.plan_terms.specs.Faults.{topics}
use Rattle.plan_terms.specs.Goal.{Meaning}
use Rattle.plan_terms.specs.Racks.{rack_excess}
use Rattle.goal_terms.specs.Bands.{units_of, whole_cap, at_most, within_capacity, even, near_use, below_use}
use Rattle.goal_terms.specs.Goals.{ratio_at}
use Rattle.goal_terms.specs.Heats.{broker_heat, has_excess}
use Rattle.goal_terms.specs.LeastLeaders.{IsMadeFor, least_rule}
use Rattle.goal_terms.specs.Partitions.{demoted_first, lost_members}
use Rattle.goal_terms.specs.PerTopic.{topic_heat, replica_rule}
use Rattle.goal_terms.specs.Quantity.{Weights, replica_weights, leader_weights, load_weights, potential_out_weights, leader_in_weights}
use Rattle.goal_terms.specs.Rooms.{broker_room, free}
use Rattle.goal_terms.specs.declared.heat.Heat.{Heat}
use Rattle.goal_terms.specs.declared.heat.Heat.TheVariants.{Other}
use Rattle.goal_terms.specs.declared.room.Room.{Room}
use Rattle.broker_goals.specs.Made.{IsThreshold}
use Rattle.goal_set.specs.Kinds.{meaning_of}
use Rattle.goal_set.specs.declared.any.AnyGoal.{AnyGoal}
use Rattle.goal_set.specs.declared.any.AnyGoal.TheVariants as any
use Rattle.goal_set.specs.declared.kinds.GoalKind.{GoalKind}
use Rattle.goal_set.specs.declared.kinds.GoalKind.TheVariants as kind
use Rattle.plan_terms.specs.Resources.{CPU, NW_IN, NW_OUT, DISK}

-- the kind of a goal
abbrev pub kind_of : AnyGoal → GoalKind
kind_of (any.Evacuation g) = kind.Evacuation
kind_of (any.RackAware g) = kind.RackAware
kind_of (any.MinTopicLeadersPerBroker g) = kind.MinTopicLeadersPerBroker
kind_of (any.ReplicaCapacity g) = kind.ReplicaCapacity
kind_of (any.DiskCapacity g) = kind.DiskCapacity
kind_of (any.NetworkInboundCapacity g) = kind.NetworkInboundCapacity
kind_of (any.NetworkOutboundCapacity g) = kind.NetworkOutboundCapacity
kind_of (any.CpuCapacity g) = kind.CpuCapacity
kind_of (any.Demotion g) = kind.Demotion
kind_of (any.ReplicaDistribution g) = kind.ReplicaDistribution
kind_of (any.PotentialNwOut g) = kind.PotentialNwOut
kind_of (any.DiskUsageDistribution g) = kind.DiskUsageDistribution
kind_of (any.NetworkInboundUsageDistribution g) = kind.NetworkInboundUsageDistribution
kind_of (any.NetworkOutboundUsageDistribution g) = kind.NetworkOutboundUsageDistribution
kind_of (any.CpuUsageDistribution g) = kind.CpuUsageDistribution
kind_of (any.TopicReplicaDistribution g) = kind.TopicReplicaDistribution
kind_of (any.LeaderReplicaDistribution g) = kind.LeaderReplicaDistribution
kind_of (any.LeaderBytesInDistribution g) = kind.LeaderBytesInDistribution

-- what a goal means for a cluster
abbrev pub any_meaning : AnyGoal → Cluster → Meaning
any_meaning g c = meaning_of (kind_of g) c

-- the goal was made for the cluster: what it keeps of the options, and what it counted, is the cluster's
abbrev pub any_made : AnyGoal → Cluster → Type 0
any_made (any.Evacuation g) c = Unit {0}
any_made (any.RackAware g) c = Unit {0}
any_made (any.MinTopicLeadersPerBroker g) c = IsMadeFor g.topics.items g.floors.items c
any_made (any.ReplicaCapacity g) c = Unit {0} × (g.band.most ≡ c.options.max_replicas)
any_made (any.DiskCapacity g) c = Unit {0} × IsThreshold g.band.limit (ratio_at c.options.limit DISK)
any_made (any.NetworkInboundCapacity g) c = Unit {0} × IsThreshold g.band.limit (ratio_at c.options.limit NW_IN)
any_made (any.NetworkOutboundCapacity g) c = Unit {0} × IsThreshold g.band.limit (ratio_at c.options.limit NW_OUT)
any_made (any.CpuCapacity g) c = Unit {0} × IsThreshold g.band.limit (ratio_at c.options.limit CPU)
any_made (any.Demotion g) c = Unit {0}
any_made (any.ReplicaDistribution g) c = Unit {0} × (IsThreshold g.band.ratio c.options.replica_balance × (g.band.units ≡ units_of c))
any_made (any.PotentialNwOut g) c = Unit {0} × IsThreshold g.band.limit (ratio_at c.options.limit NW_OUT)
any_made (any.DiskUsageDistribution g) c = Unit {0} × (IsThreshold g.band.ratio (ratio_at c.options.balance DISK) × (g.band.whole ≡ whole_cap DISK c))
any_made (any.NetworkInboundUsageDistribution g) c = Unit {0} × (IsThreshold g.band.ratio (ratio_at c.options.balance NW_IN) × (g.band.whole ≡ whole_cap NW_IN c))
any_made (any.NetworkOutboundUsageDistribution g) c = Unit {0} × (IsThreshold g.band.ratio (ratio_at c.options.balance NW_OUT) × (g.band.whole ≡ whole_cap NW_OUT c))
any_made (any.CpuUsageDistribution g) c = Unit {0} × (IsThreshold g.band.ratio (ratio_at c.options.balance CPU) × (g.band.whole ≡ whole_cap CPU c))
any_made (any.TopicReplicaDistribution g) c = (IsThreshold g.band.ratio c.options.topic_balance × (g.band.units ≡ units_of c)) × (g.topics.items ≡ topics c.parts)
any_made (any.LeaderReplicaDistribution g) c = Unit {0} × (IsThreshold g.band.ratio c.options.leader_balance × (g.band.units ≡ units_of c))
any_made (any.LeaderBytesInDistribution g) c = Unit {0} × (IsThreshold g.band.ratio (ratio_at c.options.balance NW_IN) × (g.band.whole ≡ whole_cap NW_IN c))

-- where the quantity of the broker of an id lies
abbrev pub any_heat : GoalKind → Cluster → Lists → ℕ → Heat
any_heat kind.Evacuation c lists b = Other
any_heat kind.RackAware c lists b = Other
any_heat kind.MinTopicLeadersPerBroker c lists b = topic_heat (topics c.parts) (least_rule c) c lists b
any_heat kind.ReplicaCapacity c lists b = broker_heat replica_weights (at_most c.options.max_replicas) c lists b
any_heat kind.DiskCapacity c lists b = broker_heat (load_weights DISK) (within_capacity (ratio_at c.options.limit DISK) DISK) c lists b
any_heat kind.NetworkInboundCapacity c lists b = broker_heat (load_weights NW_IN) (within_capacity (ratio_at c.options.limit NW_IN) NW_IN) c lists b
any_heat kind.NetworkOutboundCapacity c lists b = broker_heat (load_weights NW_OUT) (within_capacity (ratio_at c.options.limit NW_OUT) NW_OUT) c lists b
any_heat kind.CpuCapacity c lists b = broker_heat (load_weights CPU) (within_capacity (ratio_at c.options.limit CPU) CPU) c lists b
any_heat kind.Demotion c lists b = Other
any_heat kind.ReplicaDistribution c lists b = broker_heat replica_weights (even c.options.replica_balance (units_of c)) c lists b
any_heat kind.PotentialNwOut c lists b = broker_heat potential_out_weights (within_capacity (ratio_at c.options.limit NW_OUT) NW_OUT) c lists b
any_heat kind.DiskUsageDistribution c lists b = broker_heat (load_weights DISK) (near_use (ratio_at c.options.balance DISK) DISK (whole_cap DISK c)) c lists b
any_heat kind.NetworkInboundUsageDistribution c lists b = broker_heat (load_weights NW_IN) (near_use (ratio_at c.options.balance NW_IN) NW_IN (whole_cap NW_IN c)) c lists b
any_heat kind.NetworkOutboundUsageDistribution c lists b = broker_heat (load_weights NW_OUT) (near_use (ratio_at c.options.balance NW_OUT) NW_OUT (whole_cap NW_OUT c)) c lists b
any_heat kind.CpuUsageDistribution c lists b = broker_heat (load_weights CPU) (near_use (ratio_at c.options.balance CPU) CPU (whole_cap CPU c)) c lists b
any_heat kind.TopicReplicaDistribution c lists b = topic_heat (topics c.parts) (replica_rule (even c.options.topic_balance (units_of c))) c lists b
any_heat kind.LeaderReplicaDistribution c lists b = broker_heat leader_weights (even c.options.leader_balance (units_of c)) c lists b
any_heat kind.LeaderBytesInDistribution c lists b = broker_heat leader_in_weights (below_use (ratio_at c.options.balance NW_IN) NW_IN (whole_cap NW_IN c)) c lists b

-- whether an action of a partition may lessen the measure
abbrev pub any_stirs : GoalKind → Cluster → Lists → ℕ → Bool
any_stirs kind.Evacuation c lists p = has_excess (lost_members c) lists p
any_stirs kind.RackAware c lists p = has_excess (rack_excess c) lists p
any_stirs kind.MinTopicLeadersPerBroker c lists p = true
any_stirs kind.ReplicaCapacity c lists p = true
any_stirs kind.DiskCapacity c lists p = true
any_stirs kind.NetworkInboundCapacity c lists p = true
any_stirs kind.NetworkOutboundCapacity c lists p = true
any_stirs kind.CpuCapacity c lists p = true
any_stirs kind.Demotion c lists p = has_excess (demoted_first c) lists p
any_stirs kind.ReplicaDistribution c lists p = true
any_stirs kind.PotentialNwOut c lists p = true
any_stirs kind.DiskUsageDistribution c lists p = true
any_stirs kind.NetworkInboundUsageDistribution c lists p = true
any_stirs kind.NetworkOutboundUsageDistribution c lists p = true
any_stirs kind.CpuUsageDistribution c lists p = true
any_stirs kind.TopicReplicaDistribution c lists p = true
any_stirs kind.LeaderReplicaDistribution c lists p = true
any_stirs kind.LeaderBytesInDistribution c lists p = true

-- how much the broker of an id may give and take
abbrev pub any_room : GoalKind → Cluster → Lists → ℕ → Room
any_room kind.Evacuation c lists b = free
any_room kind.RackAware c lists b = free
any_room kind.MinTopicLeadersPerBroker c lists b = free
any_room kind.ReplicaCapacity c lists b = broker_room replica_weights (at_most c.options.max_replicas) c lists b
any_room kind.DiskCapacity c lists b = broker_room (load_weights DISK) (within_capacity (ratio_at c.options.limit DISK) DISK) c lists b
any_room kind.NetworkInboundCapacity c lists b = broker_room (load_weights NW_IN) (within_capacity (ratio_at c.options.limit NW_IN) NW_IN) c lists b
any_room kind.NetworkOutboundCapacity c lists b = broker_room (load_weights NW_OUT) (within_capacity (ratio_at c.options.limit NW_OUT) NW_OUT) c lists b
any_room kind.CpuCapacity c lists b = broker_room (load_weights CPU) (within_capacity (ratio_at c.options.limit CPU) CPU) c lists b
any_room kind.Demotion c lists b = free
any_room kind.ReplicaDistribution c lists b = broker_room replica_weights (even c.options.replica_balance (units_of c)) c lists b
any_room kind.PotentialNwOut c lists b = broker_room potential_out_weights (within_capacity (ratio_at c.options.limit NW_OUT) NW_OUT) c lists b
any_room kind.DiskUsageDistribution c lists b = broker_room (load_weights DISK) (near_use (ratio_at c.options.balance DISK) DISK (whole_cap DISK c)) c lists b
any_room kind.NetworkInboundUsageDistribution c lists b = broker_room (load_weights NW_IN) (near_use (ratio_at c.options.balance NW_IN) NW_IN (whole_cap NW_IN c)) c lists b
any_room kind.NetworkOutboundUsageDistribution c lists b = broker_room (load_weights NW_OUT) (near_use (ratio_at c.options.balance NW_OUT) NW_OUT (whole_cap NW_OUT c)) c lists b
any_room kind.CpuUsageDistribution c lists b = broker_room (load_weights CPU) (near_use (ratio_at c.options.balance CPU) CPU (whole_cap CPU c)) c lists b
any_room kind.TopicReplicaDistribution c lists b = free
any_room kind.LeaderReplicaDistribution c lists b = broker_room leader_weights (even c.options.leader_balance (units_of c)) c lists b
any_room kind.LeaderBytesInDistribution c lists b = broker_room leader_in_weights (below_use (ratio_at c.options.balance NW_IN) NW_IN (whole_cap NW_IN c)) c lists b

-- what the places of a list add to a broker's quantity
abbrev pub any_weights : GoalKind → Option Weights
any_weights kind.Evacuation = None
any_weights kind.RackAware = None
any_weights kind.MinTopicLeadersPerBroker = None
any_weights kind.ReplicaCapacity = Some replica_weights
any_weights kind.DiskCapacity = Some (load_weights DISK)
any_weights kind.NetworkInboundCapacity = Some (load_weights NW_IN)
any_weights kind.NetworkOutboundCapacity = Some (load_weights NW_OUT)
any_weights kind.CpuCapacity = Some (load_weights CPU)
any_weights kind.Demotion = None
any_weights kind.ReplicaDistribution = Some replica_weights
any_weights kind.PotentialNwOut = Some potential_out_weights
any_weights kind.DiskUsageDistribution = Some (load_weights DISK)
any_weights kind.NetworkInboundUsageDistribution = Some (load_weights NW_IN)
any_weights kind.NetworkOutboundUsageDistribution = Some (load_weights NW_OUT)
any_weights kind.CpuUsageDistribution = Some (load_weights CPU)
any_weights kind.TopicReplicaDistribution = None
any_weights kind.LeaderReplicaDistribution = Some leader_weights
any_weights kind.LeaderBytesInDistribution = Some leader_in_weights
