-- What is proved of goals over brokers. Each law is the contract of a function in `src/laws.rt`.
use Rattle.std.specs.Prelude.{◌≡◌, ℕ, Bool, false, ◌^◌, ◌+◌, ◌-◌, ◌*◌, ◌/◌, ◌<◌, ◌≤◌, ◌↔◌, IsTrue, List, [], length, get_or, slice_index}
use Rattle.std.specs.List.{All, sum_by}
use Rattle.plan_terms.specs.Belongs.{Belongs}
use Rattle.plan_terms.specs.Cluster.{Cluster, Lists, has, ids_of}
use Rattle.plan_terms.specs.Effect.{after}
use Rattle.plan_terms.specs.Faults.{IsCase, topics}
use Rattle.plan_terms.specs.Fits.{fits}
use Rattle.plan_terms.specs.Fraction.{Fraction, IsRatio, over}
use Rattle.plan_terms.specs.Goal.{Accepts, Lessens, measure, per_partition}
use Rattle.plan_terms.specs.Load.{count, leaders, load, potential_out, leader_in, topic_count}
use Rattle.plan_terms.specs.declared.actions.Action.{Action}
use Rattle.plan_terms.specs.declared.cluster.Broker.{Broker}
use Rattle.plan_terms.specs.declared.cluster.Part.{Part}
use Rattle.goal_terms.specs.Bands.{units_of, whole_cap, low_of, rounded_up, at_most, within_capacity, even, near_use, below_use}
use Rattle.goal_terms.specs.Goals.{AreRatios, replica_capacity_goal, capacity_goal, replica_distribution_goal, potential_out_goal, usage_distribution_goal, topic_distribution_goal, leader_distribution_goal, leader_in_goal}
use Rattle.goal_terms.specs.Heats.{bound_heat, broker_heat, has_excess, partition_heat}
use Rattle.goal_terms.specs.Limits.{Limits, SmallLoads, SmallWeights, SmallBounds}
use Rattle.goal_terms.specs.Pairs.{giver, taker, ColdPairs, IdleTrades, StillParts}
use Rattle.goal_terms.specs.Partitions.{evacuation_goal, demotion_goal}
use Rattle.goal_terms.specs.PerBroker.{Bounds, unit_brokers, bound_excess, per_broker}
use Rattle.goal_terms.specs.PerTopic.{TopicRule, rule_weights, replica_rule, per_topic, first_topic, second_topic, topic_heat}
use Rattle.goal_terms.specs.Quantity.{Weights, quantity, total, trade, Trades, replica_weights, leader_weights, load_weights, potential_out_weights, leader_in_weights, topic_weights}
use Rattle.goal_terms.specs.Rooms.{RoomsDecide, broker_room}
use Rattle.goal_terms.specs.LeastLeaders.{least_leaders_goal}
use Rattle.goal_terms.specs.Sides.{sides}
use Rattle.goal_terms.specs.Verdicts.{AreApart, HaveOtherParts, VerdictsStay}
use Rattle.plan_terms.specs.Legal.{is_legal}
use Rattle.goal_terms.specs.declared.heat.Heat.TheVariants as heat
use Rattle.plan_terms.specs.Resources.{NW_IN}

-- a case is within the limits
abbrev pub CasesAreLimited : Type 0
CasesAreLimited = (c : Cluster) → IsCase c → Limits c

-- after an action the quantities of its two brokers are what the trade says, and those of all others what they were
abbrev pub ActionsTrade : Type 0
ActionsTrade = (w : Weights) (c : Cluster) (lists : Lists) (a : Action) → Belongs c lists → IsTrue (fits lists a)
    → Trades (trade w c.parts lists a) (λ b. quantity w c.parts b lists) (λ b. quantity w c.parts b (after a lists))

-- no action changes what all brokers carry together
abbrev pub TotalsStay : Type 0
TotalsStay = (w : Weights) (parts : List Part) (lists : Lists) (a : Action) → IsTrue (fits lists a) → total w parts (after a lists) ≡ total w parts lists

-- a quantity and what all brokers carry together are below 2^49
abbrev pub QuantitiesAreSmall : Type 0
QuantitiesAreSmall = (w : Weights) (c : Cluster) (lists : Lists) → IsCase c → Belongs c lists → All (SmallWeights w) c.parts
    → ((b : ℕ) → quantity w c.parts b lists < 2 ^ 49) × (total w c.parts lists < 2 ^ 49)

-- the measure of a goal over brokers is below 2^120
abbrev pub MeasuresAreSmall : Type 0
MeasuresAreSmall = (hard : Bool) (w : Weights) (b : Bounds) (c : Cluster) (lists : Lists) → IsCase c → Belongs c lists
    → All (SmallWeights w) c.parts → SmallBounds b → measure (per_broker hard w b c) lists < 2 ^ 120

-- the weights of each quantity are small
pub record WeightsAreSmall : Type 0 where
  pub replicas : (p : Part) → SmallWeights replica_weights p
  pub leads : (p : Part) → SmallWeights leader_weights p
  pub loads : (r : ℕ) (p : Part) → SmallLoads p → SmallWeights (load_weights r) p
  pub potential : (p : Part) → SmallLoads p → SmallWeights potential_out_weights p
  pub inbound : (p : Part) → SmallLoads p → SmallWeights leader_in_weights p
  pub topic : (t : List ℕ) (p : Part) → SmallWeights (topic_weights t) p

-- the bounds of each goal are small
pub record BoundsAreSmall : Type 0 where
  pub few : (most : ℕ) → SmallBounds (at_most most)
  pub capacity : (ratio : Fraction) (r : ℕ) → IsRatio ratio.num ratio.den → SmallBounds (within_capacity ratio r)
  pub shares : (ratio : Fraction) (n : ℕ) → IsRatio ratio.num ratio.den → SmallBounds (even ratio n)
  pub near : (ratio : Fraction) (r : ℕ) (c : Cluster) → IsRatio ratio.num ratio.den → IsCase c → SmallBounds (near_use ratio r (whole_cap r c))
  pub below : (ratio : Fraction) (r : ℕ) (c : Cluster) → IsRatio ratio.num ratio.den → IsCase c → SmallBounds (below_use ratio r (whole_cap r c))

-- the measures of the goals about lost and demoted brokers are below 2^120
abbrev pub PartitionMeasuresAreSmall : Type 0
PartitionMeasuresAreSmall = (c : Cluster) (lists : Lists) → IsCase c → Belongs c lists
    → (measure (evacuation_goal c) lists < 2 ^ 120) × (measure (demotion_goal c) lists < 2 ^ 120)

-- a goal over brokers accepts an action where neither of its two brokers' excesses rises
abbrev pub TwoBrokersAccept : Type 0
TwoBrokersAccept = (hard : Bool) (w : Weights) (b : Bounds) (c : Cluster) (lists : Lists) (a : Action) → IsCase c → Belongs c lists → IsTrue (fits lists a)
    → (((sides w b c lists a).giver_after ≤ (sides w b c lists a).giver) × ((sides w b c lists a).taker_after ≤ (sides w b c lists a).taker))
    ↔ Accepts (per_broker hard w b c) lists a

-- an action lessens a goal over brokers where its two brokers' excesses together fall
abbrev pub TwoBrokersLessen : Type 0
TwoBrokersLessen = (hard : Bool) (w : Weights) (b : Bounds) (c : Cluster) (lists : Lists) (a : Action) → IsCase c → Belongs c lists → IsTrue (fits lists a)
    → ((sides w b c lists a).giver_after + (sides w b c lists a).taker_after < (sides w b c lists a).giver + (sides w b c lists a).taker)
    ↔ Lessens (per_broker hard w b c) lists a

-- a broker is cold where it has no excess, above where it carries more than its upper bound, and below where it carries no more
-- than that and less than its lower bound; one that is lost or unknown is cold
pub record HeatsTell : Type 0 where
  pub cold : (b : Bounds) (all q : ℕ) (x : Broker) → (bound_heat b all q x ≡ heat.Cold) ↔ (bound_excess b all q x ≡ 0)
  pub above : (b : Bounds) (all q : ℕ) (x : Broker) → (bound_heat b all q x ≡ heat.Above) ↔ (b.upper all x < q * b.scale)
  pub below : (b : Bounds) (all q : ℕ) (x : Broker) → (bound_heat b all q x ≡ heat.Below) ↔ ((q * b.scale ≤ b.upper all x) × (q * b.scale < b.lower all x))
  pub lost : (w : Weights) (b : Bounds) (c : Cluster) (lists : Lists) (k : ℕ) → has (ids_of (unit_brokers c.brokers)) k ≡ false → broker_heat w b c lists k ≡ heat.Cold

-- an action of two cold brokers lessens no goal over brokers
abbrev pub ColdBrokersLessenNothing : Type 0
ColdBrokersLessenNothing = (hard : Bool) (w : Weights) (b : Bounds) (c : Cluster) (lists : Lists) → IsCase c → Belongs c lists
    → ColdPairs (per_broker hard w b c) (broker_heat w b c lists) lists

-- an action of two cold brokers lessens no goal over partitions
abbrev pub ColdMembersLessenNothing : Type 0
ColdMembersLessenNothing = (hard : Bool) (f : List ℕ → ℕ) (c : Cluster) (lists : Lists) → Belongs c lists
    → ColdPairs (per_partition hard f c) (partition_heat f lists) lists

-- an action of partitions without an excess lessens no goal over partitions
abbrev pub StillPartsLessenNothing : Type 0
StillPartsLessenNothing = (hard : Bool) (f : List ℕ → ℕ) (c : Cluster) (lists : Lists) → Belongs c lists
    → StillParts (per_partition hard f c) (has_excess f lists) lists

-- trades that cannot help lessen no goal over brokers
abbrev pub IdleTradesLessenNothing : Type 0
IdleTradesLessenNothing = (hard : Bool) (w : Weights) (b : Bounds) (c : Cluster) (lists : Lists) → IsCase c → Belongs c lists
    → IdleTrades (per_broker hard w b c) (broker_heat w b c lists) c.parts lists w

-- the quantities are the sums that they stand for
pub record QuantitiesAreSums : Type 0 where
  pub replicas : (c : Cluster) (lists : Lists) (b : ℕ) → Belongs c lists → quantity replica_weights c.parts b lists ≡ count b lists
  pub leads : (c : Cluster) (lists : Lists) (b : ℕ) → Belongs c lists → quantity leader_weights c.parts b lists ≡ leaders b lists
  pub loads : (c : Cluster) (lists : Lists) (r b : ℕ) → quantity (load_weights r) c.parts b lists ≡ load c r b lists
  pub potential : (c : Cluster) (lists : Lists) (b : ℕ) → quantity potential_out_weights c.parts b lists ≡ potential_out c b lists
  pub inbound : (c : Cluster) (lists : Lists) (b : ℕ) → quantity leader_in_weights c.parts b lists ≡ leader_in c b lists
  pub topic : (c : Cluster) (lists : Lists) (t : List ℕ) (b : ℕ) → quantity (topic_weights t) c.parts b lists ≡ topic_count c t b lists

-- what all brokers carry together is what each carries, added up: all members of lists, one leader for each partition, each
-- partition's leader's NW_IN
pub record TotalsAreSums : Type 0 where
  pub together : (w : Weights) (c : Cluster) (lists : Lists) → IsCase c → Belongs c lists → sum_by (λ (x : Broker). quantity w c.parts x.id lists) c.brokers ≡ total w c.parts lists
  pub replicas : (c : Cluster) (lists : Lists) → Belongs c lists → total replica_weights c.parts lists ≡ sum_by length lists
  pub leads : (c : Cluster) (lists : Lists) → Belongs c lists → total leader_weights c.parts lists ≡ length c.parts
  pub inbound : (c : Cluster) (lists : Lists) → Belongs c lists → total leader_in_weights c.parts lists ≡ sum_by (λ (p : Part). slice_index p.loads.lead NW_IN) c.parts

-- the excess of a broker that carries q, where all carry `all`, in numbers
pub record ExcessesInNumbers : Type 0 where
  pub few : (most all q : ℕ) (x : Broker) → bound_excess (at_most most) all q x ≡ q - most
  pub capacity : (ratio : Fraction) (r all q : ℕ) (x : Broker) → bound_excess (within_capacity ratio r) all q x ≡ over ratio q (slice_index x.cap r)
  pub shares : (ratio : Fraction) (n all q : ℕ) (x : Broker)
      → bound_excess (even ratio n) all q x ≡ (q - rounded_up (all * ratio.num) (ratio.den * n)) + (all * low_of ratio / (ratio.den * n) - q)
  pub near : (ratio : Fraction) (r t all q : ℕ) (x : Broker)
      → bound_excess (near_use ratio r t) all q x
      ≡ (q * t * ratio.den - ratio.num * all * slice_index x.cap r) + (low_of ratio * all * slice_index x.cap r - q * t * ratio.den)
  pub below : (ratio : Fraction) (r t all q : ℕ) (x : Broker)
      → bound_excess (below_use ratio r t) all q x ≡ q * t * ratio.den - ratio.num * all * slice_index x.cap r

-- unit i * n + u of a goal over topics and brokers, of which n aren't lost, is the i-th topic's at the u-th of them
abbrev pub TopicsComeFirst : Type 0
TopicsComeFirst = (hard : Bool) (r : TopicRule) (c : Cluster) (lists : Lists) (i u : ℕ) → i < length (topics c.parts) → u < units_of c
    → (per_topic hard r c).excess lists (i * units_of c + u) ≡ (per_broker hard (rule_weights r (get_or (topics c.parts) i [])) (r.bounds (get_or (topics c.parts) i [])) c).excess lists u

-- the measure of a goal over topics and brokers is the sum of those of its topics
abbrev pub TopicsAddUp : Type 0
TopicsAddUp = (hard : Bool) (r : TopicRule) (c : Cluster) (lists : Lists)
    → measure (per_topic hard r c) lists ≡ sum_by (λ t. measure (per_broker hard (rule_weights r t) (r.bounds t) c) lists) (topics c.parts)

-- a goal over topics and brokers accepts an action where the goals for the topics that it touches do
abbrev pub TouchedTopicsAccept : Type 0
TouchedTopicsAccept = (hard : Bool) (r : TopicRule) (c : Cluster) (lists : Lists) (a : Action) → IsCase c → Belongs c lists → IsTrue (fits lists a)
    → (Accepts (per_broker hard (rule_weights r (first_topic c.parts a)) (r.bounds (first_topic c.parts a)) c) lists a × Accepts (per_broker hard (rule_weights r (second_topic c.parts a)) (r.bounds (second_topic c.parts a)) c) lists a)
    ↔ Accepts (per_topic hard r c) lists a

-- an action of two cold brokers lessens no goal over topics and brokers
abbrev pub ColdTopicsLessenNothing : Type 0
ColdTopicsLessenNothing = (hard : Bool) (r : TopicRule) (c : Cluster) (lists : Lists) → IsCase c → Belongs c lists
    → ColdPairs (per_topic hard r c) (topic_heat (topics c.parts) r c lists) lists

-- the measure of the goal that each topic is spread evenly is below 2^120
abbrev pub TopicMeasuresAreSmall : Type 0
TopicMeasuresAreSmall = (hard : Bool) (ratio : Fraction) (c : Cluster) (lists : Lists) → IsRatio ratio.num ratio.den → IsCase c → Belongs c lists
    → measure (per_topic hard (replica_rule (even ratio (units_of c))) c) lists < 2 ^ 120

-- the measure of each goal over brokers is below 2^120
pub record GoalMeasures (c : Cluster) (lists : Lists) : Type 0 where
  pub replica_capacity : measure (replica_capacity_goal c) lists < 2 ^ 120
  pub capacity : (r : ℕ) → measure (capacity_goal r c) lists < 2 ^ 120
  pub replica_distribution : measure (replica_distribution_goal c) lists < 2 ^ 120
  pub potential_out : measure (potential_out_goal c) lists < 2 ^ 120
  pub usage_distribution : (r : ℕ) → measure (usage_distribution_goal r c) lists < 2 ^ 120
  pub topic_distribution : measure (topic_distribution_goal c) lists < 2 ^ 120
  pub leader_distribution : measure (leader_distribution_goal c) lists < 2 ^ 120
  pub leader_in : measure (leader_in_goal c) lists < 2 ^ 120

-- so it is for every case, its thresholds and the lists that belong to it
abbrev pub GoalMeasuresAreSmall : Type 0
GoalMeasuresAreSmall = (c : Cluster) (lists : Lists) → IsCase c → AreRatios c.options → Belongs c lists → GoalMeasures c lists

-- a goal over brokers accepts an action where its two brokers stay in their rooms
abbrev pub BrokerRoomsDecide : Type 0
BrokerRoomsDecide = (hard : Bool) (w : Weights) (b : Bounds) (c : Cluster) (lists : Lists) → IsCase c → Belongs c lists → All (SmallWeights w) c.parts
    → RoomsDecide (per_broker hard w b c) (broker_room w b c lists) c.parts lists w

-- an action leaves the rooms of all brokers but its two
abbrev pub RoomsStay : Type 0
RoomsStay = (w : Weights) (b : Bounds) (c : Cluster) (lists : Lists) (a : Action) → Belongs c lists → IsTrue (fits lists a)
    → (k : ℕ) → (k ≡ giver lists a → ⊥) → (k ≡ taker a → ⊥) → broker_room w b c (after a lists) k ≡ broker_room w b c lists k

-- whether an action is legal, whether it fits and which broker gives is as it was after an action of other partitions
pub record LegalActionsStay (c : Cluster) (lists : Lists) (x y : Action) : Type 0 where
  pub legal : is_legal c (after x lists) y ≡ is_legal c lists y
  pub fitting : fits (after x lists) y ≡ fits lists y
  pub from : giver (after x lists) y ≡ giver lists y

abbrev pub LegalityStays : Type 0
LegalityStays = (c : Cluster) (lists : Lists) (x y : Action) → HaveOtherParts x y → LegalActionsStay c lists x y

-- an action leaves what goals say of every other that shares no broker and no partition with it
pub record GoalVerdictsStay (c : Cluster) (lists : Lists) : Type 0 where
  pub brokers : (hard : Bool) (w : Weights) (b : Bounds) → VerdictsStay (per_broker hard w b c) lists
  pub topics : (hard : Bool) (r : TopicRule) → VerdictsStay (per_topic hard r c) lists
  pub least : VerdictsStay (least_leaders_goal c) lists
  pub partitions : (hard : Bool) (f : List ℕ → ℕ) → VerdictsStay (per_partition hard f c) lists

abbrev pub AllVerdictsStay : Type 0
AllVerdictsStay = (c : Cluster) (lists : Lists) → IsCase c → Belongs c lists → GoalVerdictsStay c lists
