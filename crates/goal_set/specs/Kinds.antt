-- The kinds of goals: their order, their names, and what each means.
use Rattle.std.specs.Prelude.{ℕ, Bool, true, false, List, codes, map}
use Rattle.goal_terms.specs.Goals as goals
use Rattle.goal_terms.specs.LeastLeaders.{least_leaders_goal}
use Rattle.goal_terms.specs.Partitions.{evacuation_goal, demotion_goal}
use Rattle.plan_terms.specs.Cluster.{Cluster}
use Rattle.plan_terms.specs.Goal.{Meaning}
use Rattle.plan_terms.specs.Racks.{rack_goal}
use Rattle.goal_set.specs.declared.kinds.GoalKind.{GoalKind}
use Rattle.goal_set.specs.declared.kinds.GoalKind.TheVariants as kind
use Rattle.plan_terms.specs.Resources.{CPU, NW_IN, NW_OUT, DISK}

-- what a kind means for a cluster
abbrev pub meaning_of : GoalKind → Cluster → Meaning
meaning_of kind.Evacuation c = evacuation_goal c
meaning_of kind.RackAware c = rack_goal c
meaning_of kind.MinTopicLeadersPerBroker c = least_leaders_goal c
meaning_of kind.ReplicaCapacity c = goals.replica_capacity_goal c
meaning_of kind.DiskCapacity c = goals.capacity_goal DISK c
meaning_of kind.NetworkInboundCapacity c = goals.capacity_goal NW_IN c
meaning_of kind.NetworkOutboundCapacity c = goals.capacity_goal NW_OUT c
meaning_of kind.CpuCapacity c = goals.capacity_goal CPU c
meaning_of kind.Demotion c = demotion_goal c
meaning_of kind.ReplicaDistribution c = goals.replica_distribution_goal c
meaning_of kind.PotentialNwOut c = goals.potential_out_goal c
meaning_of kind.DiskUsageDistribution c = goals.usage_distribution_goal DISK c
meaning_of kind.NetworkInboundUsageDistribution c = goals.usage_distribution_goal NW_IN c
meaning_of kind.NetworkOutboundUsageDistribution c = goals.usage_distribution_goal NW_OUT c
meaning_of kind.CpuUsageDistribution c = goals.usage_distribution_goal CPU c
meaning_of kind.TopicReplicaDistribution c = goals.topic_distribution_goal c
meaning_of kind.LeaderReplicaDistribution c = goals.leader_distribution_goal c
meaning_of kind.LeaderBytesInDistribution c = goals.leader_in_goal c

-- what each kind of a list means for a cluster
abbrev pub meanings : Cluster → List GoalKind → List Meaning
meanings c kinds = map (λ k. meaning_of k c) kinds

-- a plan fails where the goal stays broken
abbrev pub is_hard_kind : GoalKind → Bool
is_hard_kind kind.Evacuation = true
is_hard_kind kind.RackAware = true
is_hard_kind kind.MinTopicLeadersPerBroker = true
is_hard_kind kind.ReplicaCapacity = true
is_hard_kind kind.DiskCapacity = true
is_hard_kind kind.NetworkInboundCapacity = true
is_hard_kind kind.NetworkOutboundCapacity = true
is_hard_kind kind.CpuCapacity = true
is_hard_kind kind.Demotion = false
is_hard_kind kind.ReplicaDistribution = false
is_hard_kind kind.PotentialNwOut = false
is_hard_kind kind.DiskUsageDistribution = false
is_hard_kind kind.NetworkInboundUsageDistribution = false
is_hard_kind kind.NetworkOutboundUsageDistribution = false
is_hard_kind kind.CpuUsageDistribution = false
is_hard_kind kind.TopicReplicaDistribution = false
is_hard_kind kind.LeaderReplicaDistribution = false
is_hard_kind kind.LeaderBytesInDistribution = false

-- the public name
abbrev pub name_of : GoalKind → List ℕ
name_of kind.Evacuation = codes "EvacuationGoal"
name_of kind.RackAware = codes "RackAwareGoal"
name_of kind.MinTopicLeadersPerBroker = codes "MinTopicLeadersPerBrokerGoal"
name_of kind.ReplicaCapacity = codes "ReplicaCapacityGoal"
name_of kind.DiskCapacity = codes "DiskCapacityGoal"
name_of kind.NetworkInboundCapacity = codes "NetworkInboundCapacityGoal"
name_of kind.NetworkOutboundCapacity = codes "NetworkOutboundCapacityGoal"
name_of kind.CpuCapacity = codes "CpuCapacityGoal"
name_of kind.Demotion = codes "DemotionGoal"
name_of kind.ReplicaDistribution = codes "ReplicaDistributionGoal"
name_of kind.PotentialNwOut = codes "PotentialNwOutGoal"
name_of kind.DiskUsageDistribution = codes "DiskUsageDistributionGoal"
name_of kind.NetworkInboundUsageDistribution = codes "NetworkInboundUsageDistributionGoal"
name_of kind.NetworkOutboundUsageDistribution = codes "NetworkOutboundUsageDistributionGoal"
name_of kind.CpuUsageDistribution = codes "CpuUsageDistributionGoal"
name_of kind.TopicReplicaDistribution = codes "TopicReplicaDistributionGoal"
name_of kind.LeaderReplicaDistribution = codes "LeaderReplicaDistributionGoal"
name_of kind.LeaderBytesInDistribution = codes "LeaderBytesInDistributionGoal"
