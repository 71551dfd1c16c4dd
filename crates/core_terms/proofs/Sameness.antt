-- The tests of sameness decide equality.
use Rattle.std.proofs.Common.{◌≡◌, ◌∙◌, ℕ, zero, suc, Bool, List, refl, sym, ap}
use Rattle.std.specs.Prelude.{Option, Some, None, ◌==◌, bytes_eq}
use Rattle.std.specs.Bool.{Decides}
use Rattle.std.specs.Cmp.{booleans_Decides}
use Rattle.std.specs.Cmp.Lexicographic.{pointwise}
use Rattle.std.proofs.lemmas.Bool.Decides.{Decides-and, Decides-eqb}
use Rattle.std.proofs.lemmas.Slice.Eq.{slice_eq-Decides, bytes_eq-Decides}
use Rattle.plan_terms.specs.Cluster.{Cluster, Lists}
use Rattle.plan_terms.specs.Fraction.{Fraction}
use Rattle.plan_terms.specs.declared.cluster.BrokerState.{BrokerState}
use Rattle.plan_terms.specs.declared.cluster.BrokerState.TheVariants.{Alive, Dead, New, Demoted}
use Rattle.plan_terms.specs.declared.cluster.Broker.{Broker}
use Rattle.plan_terms.specs.declared.cluster.Loads.{Loads}
use Rattle.plan_terms.specs.declared.cluster.MinLeaders.{MinLeaders}
use Rattle.plan_terms.specs.declared.cluster.Part.{Part}
use Rattle.plan_terms.specs.declared.cluster.Options.{Options}
use Rattle.goal_set.specs.Kinds.{name_of}
use Rattle.goal_set.specs.Read.{kind_called}
use Rattle.goal_set.specs.declared.kinds.GoalKind.{GoalKind}
use Rattle.goal_set.specs.declared.kinds.GoalKind.TheVariants as kind
use Rattle.user_tasks.specs.declared.ask.Op.{Op}
use Rattle.user_tasks.specs.declared.ask.Op.TheVariants as op
use Rattle.user_tasks.specs.Asks.{AskView}
use Rattle.core_terms.specs.Problem.{ProblemView}
use Rattle.core_terms.specs.Same.{SamenessIsEquality, same_name, state_number, same_broker, same_loads, same_part, same_ratio, same_leaders, same_options, same_cluster, same_lists, same_goal, same_goals, same_problem, op_number, same_ask}

-- a test of one fact is a test of another that is equivalent
as_well : {P Q : Type 0} (b : Bool) → Decides b P → (P → Q) → (Q → P) → Decides b Q
as_well b d to from = (λ e. to (d.0 e), λ q. d.1 (from q))

-- values of equal members are equal
same2 : {A0 A1 B : Type 0} {x0 y0 : A0} {x1 y1 : A1} (f : A0 → A1 → B) → x0 ≡ y0 → x1 ≡ y1 → f x0 x1 ≡ f y0 y1
same2 f e0 e1 = cc

same3 : {A0 A1 A2 B : Type 0} {x0 y0 : A0} {x1 y1 : A1} {x2 y2 : A2} (f : A0 → A1 → A2 → B) → x0 ≡ y0 → x1 ≡ y1 → x2 ≡ y2 → f x0 x1 x2 ≡ f y0 y1 y2
same3 f e0 e1 e2 = cc

same4 : {A0 A1 A2 A3 B : Type 0} {x0 y0 : A0} {x1 y1 : A1} {x2 y2 : A2} {x3 y3 : A3} (f : A0 → A1 → A2 → A3 → B) → x0 ≡ y0 → x1 ≡ y1 → x2 ≡ y2 → x3 ≡ y3 → f x0 x1 x2 x3 ≡ f y0 y1 y2 y3
same4 f e0 e1 e2 e3 = cc

same5 : {A0 A1 A2 A3 A4 B : Type 0} {x0 y0 : A0} {x1 y1 : A1} {x2 y2 : A2} {x3 y3 : A3} {x4 y4 : A4} (f : A0 → A1 → A2 → A3 → A4 → B) → x0 ≡ y0 → x1 ≡ y1 → x2 ≡ y2 → x3 ≡ y3 → x4 ≡ y4 → f x0 x1 x2 x3 x4 ≡ f y0 y1 y2 y3 y4
same5 f e0 e1 e2 e3 e4 = cc

same6 : {A0 A1 A2 A3 A4 A5 B : Type 0} {x0 y0 : A0} {x1 y1 : A1} {x2 y2 : A2} {x3 y3 : A3} {x4 y4 : A4} {x5 y5 : A5} (f : A0 → A1 → A2 → A3 → A4 → A5 → B) → x0 ≡ y0 → x1 ≡ y1 → x2 ≡ y2 → x3 ≡ y3 → x4 ≡ y4 → x5 ≡ y5 → f x0 x1 x2 x3 x4 x5 ≡ f y0 y1 y2 y3 y4 y5
same6 f e0 e1 e2 e3 e4 e5 = cc

same8 : {A0 A1 A2 A3 A4 A5 A6 A7 B : Type 0} {x0 y0 : A0} {x1 y1 : A1} {x2 y2 : A2} {x3 y3 : A3} {x4 y4 : A4} {x5 y5 : A5} {x6 y6 : A6} {x7 y7 : A7} (f : A0 → A1 → A2 → A3 → A4 → A5 → A6 → A7 → B) → x0 ≡ y0 → x1 ≡ y1 → x2 ≡ y2 → x3 ≡ y3 → x4 ≡ y4 → x5 ≡ y5 → x6 ≡ y6 → x7 ≡ y7 → f x0 x1 x2 x3 x4 x5 x6 x7 ≡ f y0 y1 y2 y3 y4 y5 y6 y7
same8 f e0 e1 e2 e3 e4 e5 e6 e7 = cc

abbrev the_Broker : ℕ → Option (List ℕ) → List ℕ → BrokerState → Broker
the_Broker x0 x1 x2 x3 = record { id = x0; rack = x1; cap = x2; state = x3 }

abbrev the_Loads : List ℕ → List ℕ → Loads
the_Loads x0 x1 = record { lead = x0; follow = x1 }

abbrev the_Part : List ℕ → ℕ → Loads → Bool → ℕ → Part
the_Part x0 x1 x2 x3 x4 = record { topic = x0; number = x1; loads = x2; excluded = x3; chunks = x4 }

abbrev the_Fraction : ℕ → ℕ → Fraction
the_Fraction x0 x1 = record { num = x0; den = x1 }

abbrev the_MinLeaders : List ℕ → ℕ → MinLeaders
the_MinLeaders x0 x1 = record { topic = x0; leaders = x1 }

abbrev the_Options : List Fraction → List Fraction → Fraction → Fraction → Fraction → ℕ → Bool → List MinLeaders → Options
the_Options x0 x1 x2 x3 x4 x5 x6 x7 = record { limit = x0; balance = x1; replica_balance = x2; leader_balance = x3; topic_balance = x4; max_replicas = x5; leads_only = x6; min_leaders = x7 }

abbrev the_Cluster : List Broker → List Part → Options → Cluster
the_Cluster x0 x1 x2 = record { brokers = x0; parts = x1; options = x2 }

abbrev the_ProblemView : Cluster → Lists → List GoalKind → ProblemView
the_ProblemView x0 x1 x2 = record { case = x0; start = x1; goals = x2 }

abbrev the_Ask : Op → List ℕ → List (List ℕ) → Bool → List (List ℕ) → Bool → List (List ℕ) → ℕ → AskView
the_Ask x0 x1 x2 x3 x4 x5 x6 x7 = record { op = x0; brokers = x1; goals = x2; skip = x3; excluded = x4; dryrun = x5; topics = x6; factor = x7 }

-- a numbering, by which each is found again
by_number : {X Y : Type 0} (number : X → Y) (found : Y → Option X) → ((x : X) → found (number x) ≡ Some x) → (x y : X) → number x ≡ number y → x ≡ y
by_number number found is x y e = same_some (sym (is x) ∙ ap found e ∙ is y) where
  same_some : {X : Type 0} {x y : X} → Some x ≡ Some y → x ≡ y
  same_some e = cc

all : {X : Type 0} (same : X → X → Bool) → ((x y : X) → Decides (same x y) (x ≡ y)) → (xs ys : List X) → Decides (pointwise same xs ys) (xs ≡ ys)
all same each xs ys = slice_eq-Decides each xs ys (pointwise same xs ys) refl

names : (a b : Option (List ℕ)) → Decides (same_name a b) (a ≡ b)
names None None = (λ e. refl, λ e. refl)
names None (Some b) = (λ e. cc, λ e. cc)
names (Some a) None = (λ e. cc, λ e. cc)
names (Some a) (Some b) = as_well (bytes_eq a b) (bytes_eq-Decides a b) (λ e. ap Some e) (λ e. cc)

state_of : ℕ → Option BrokerState
state_of zero = Some Alive
state_of (suc zero) = Some Dead
state_of (suc (suc zero)) = Some New
state_of (suc (suc (suc n))) = Some Demoted

state_found : (s : BrokerState) → state_of (state_number s) ≡ Some s
unfolding state_of
state_found Alive = refl
state_found Dead = refl
state_found New = refl
state_found Demoted = refl

states : (a b : BrokerState) → Decides (state_number a == state_number b) (a ≡ b)
states a b = as_well (state_number a == state_number b) (Decides-eqb (state_number a) (state_number b)) (by_number state_number state_of state_found a b) (ap state_number)

brokers : (a b : Broker) → Decides (same_broker a b) (a ≡ b)
brokers a b = as_well (same_broker a b)
    (Decides-and _ _ (Decides-eqb a.id b.id) (Decides-and _ _ (names a.rack b.rack) (Decides-and _ _ (bytes_eq-Decides a.cap b.cap) (states a.state b.state))))
    (λ h. made a b h.0 h.1.0 h.1.1.0 h.1.1.1)
    (λ e. (ap (λ (x : Broker). x.id) e, (ap (λ (x : Broker). x.rack) e, (ap (λ (x : Broker). x.cap) e, ap (λ (x : Broker). x.state) e))))
  where
    made : (a b : Broker) → a.id ≡ b.id → a.rack ≡ b.rack → a.cap ≡ b.cap → a.state ≡ b.state → a ≡ b
    made a b e f g h = same4 (λ x0 x1 x2 x3. the_Broker x0 x1 x2 x3) e f g h

loads : (a b : Loads) → Decides (same_loads a b) (a ≡ b)
loads a b = as_well (same_loads a b) (Decides-and _ _ (bytes_eq-Decides a.lead b.lead) (bytes_eq-Decides a.follow b.follow)) (λ h. made a b h.0 h.1)
    (λ e. (ap (λ (x : Loads). x.lead) e, ap (λ (x : Loads). x.follow) e))
  where
    made : (a b : Loads) → a.lead ≡ b.lead → a.follow ≡ b.follow → a ≡ b
    made a b e f = same2 (λ x0 x1. the_Loads x0 x1) e f

parts : (a b : Part) → Decides (same_part a b) (a ≡ b)
parts a b = as_well (same_part a b)
    (Decides-and _ _ (bytes_eq-Decides a.topic b.topic) (Decides-and _ _ (Decides-eqb a.number b.number) (Decides-and _ _ (loads a.loads b.loads)
    (Decides-and _ _ (booleans_Decides a.excluded b.excluded) (Decides-eqb a.chunks b.chunks)))))
    (λ h. made a b h.0 h.1.0 h.1.1.0 h.1.1.1.0 h.1.1.1.1)
    (λ e. (ap (λ (x : Part). x.topic) e, (ap (λ (x : Part). x.number) e, (ap (λ (x : Part). x.loads) e, (ap (λ (x : Part). x.excluded) e, ap (λ (x : Part). x.chunks) e)))))
  where
    made : (a b : Part) → a.topic ≡ b.topic → a.number ≡ b.number → a.loads ≡ b.loads → a.excluded ≡ b.excluded → a.chunks ≡ b.chunks → a ≡ b
    made a b e f g h i = same5 (λ x0 x1 x2 x3 x4. the_Part x0 x1 x2 x3 x4) e f g h i

ratios : (a b : Fraction) → Decides (same_ratio a b) (a ≡ b)
ratios a b = as_well (same_ratio a b) (Decides-and _ _ (Decides-eqb a.num b.num) (Decides-eqb a.den b.den)) (λ h. made a b h.0 h.1)
    (λ e. (ap (λ (x : Fraction). x.num) e, ap (λ (x : Fraction). x.den) e))
  where
    made : (a b : Fraction) → a.num ≡ b.num → a.den ≡ b.den → a ≡ b
    made a b e f = same2 (λ x0 x1. the_Fraction x0 x1) e f

leaders : (a b : MinLeaders) → Decides (same_leaders a b) (a ≡ b)
leaders a b = as_well (same_leaders a b) (Decides-and _ _ (bytes_eq-Decides a.topic b.topic) (Decides-eqb a.leaders b.leaders)) (λ h. made a b h.0 h.1)
    (λ e. (ap (λ (x : MinLeaders). x.topic) e, ap (λ (x : MinLeaders). x.leaders) e))
  where
    made : (a b : MinLeaders) → a.topic ≡ b.topic → a.leaders ≡ b.leaders → a ≡ b
    made a b e f = same2 (λ x0 x1. the_MinLeaders x0 x1) e f

options : (a b : Options) → Decides (same_options a b) (a ≡ b)
options a b = as_well (same_options a b)
    (Decides-and _ _ (all same_ratio ratios a.limit b.limit) (Decides-and _ _ (all same_ratio ratios a.balance b.balance)
    (Decides-and _ _ (ratios a.replica_balance b.replica_balance) (Decides-and _ _ (ratios a.leader_balance b.leader_balance)
    (Decides-and _ _ (ratios a.topic_balance b.topic_balance) (Decides-and _ _ (Decides-eqb a.max_replicas b.max_replicas)
    (Decides-and _ _ (booleans_Decides a.leads_only b.leads_only) (all same_leaders leaders a.min_leaders b.min_leaders))))))))
    (λ h. made a b h.0 h.1.0 h.1.1.0 h.1.1.1.0 h.1.1.1.1.0 h.1.1.1.1.1.0 h.1.1.1.1.1.1.0 h.1.1.1.1.1.1.1)
    (λ e. (ap (λ (x : Options). x.limit) e, (ap (λ (x : Options). x.balance) e, (ap (λ (x : Options). x.replica_balance) e, (ap (λ (x : Options). x.leader_balance) e, (ap (λ (x : Options). x.topic_balance) e, (ap (λ (x : Options). x.max_replicas) e, (ap (λ (x : Options). x.leads_only) e, ap (λ (x : Options). x.min_leaders) e))))))))
  where
    made : (a b : Options) → a.limit ≡ b.limit → a.balance ≡ b.balance → a.replica_balance ≡ b.replica_balance → a.leader_balance ≡ b.leader_balance
        → a.topic_balance ≡ b.topic_balance → a.max_replicas ≡ b.max_replicas → a.leads_only ≡ b.leads_only → a.min_leaders ≡ b.min_leaders → a ≡ b
    made a b e f g h i j k l = same8 (λ x0 x1 x2 x3 x4 x5 x6 x7. the_Options x0 x1 x2 x3 x4 x5 x6 x7) e f g h i j k l

clusters : (a b : Cluster) → Decides (same_cluster a b) (a ≡ b)
unfolding same_cluster
clusters a b = as_well (same_cluster a b)
    (Decides-and _ _ (all same_broker brokers a.brokers b.brokers) (Decides-and _ _ (all same_part parts a.parts b.parts) (options a.options b.options)))
    (λ h. made a b h.0 h.1.0 h.1.1)
    (λ e. (ap (λ (x : Cluster). x.brokers) e, (ap (λ (x : Cluster). x.parts) e, ap (λ (x : Cluster). x.options) e)))
  where
    made : (a b : Cluster) → a.brokers ≡ b.brokers → a.parts ≡ b.parts → a.options ≡ b.options → a ≡ b
    made a b e f g = same3 (λ x0 x1 x2. the_Cluster x0 x1 x2) e f g

lists : (a b : Lists) → Decides (same_lists a b) (a ≡ b)
unfolding same_lists
lists a b = all bytes_eq bytes_eq-Decides a b

kind_found : (k : GoalKind) → kind_called (name_of k) ≡ Some k
unfolding kind_called
kind_found kind.Evacuation = refl
kind_found kind.RackAware = refl
kind_found kind.MinTopicLeadersPerBroker = refl
kind_found kind.ReplicaCapacity = refl
kind_found kind.DiskCapacity = refl
kind_found kind.NetworkInboundCapacity = refl
kind_found kind.NetworkOutboundCapacity = refl
kind_found kind.CpuCapacity = refl
kind_found kind.Demotion = refl
kind_found kind.ReplicaDistribution = refl
kind_found kind.PotentialNwOut = refl
kind_found kind.DiskUsageDistribution = refl
kind_found kind.NetworkInboundUsageDistribution = refl
kind_found kind.NetworkOutboundUsageDistribution = refl
kind_found kind.CpuUsageDistribution = refl
kind_found kind.TopicReplicaDistribution = refl
kind_found kind.LeaderReplicaDistribution = refl
kind_found kind.LeaderBytesInDistribution = refl

kinds : (a b : GoalKind) → Decides (same_goal a b) (a ≡ b)
kinds a b = as_well (same_goal a b) (bytes_eq-Decides (name_of a) (name_of b)) (by_number name_of kind_called kind_found a b) (ap name_of)

goals : (a b : List GoalKind) → Decides (same_goals a b) (a ≡ b)
unfolding same_goals
goals a b = all same_goal kinds a b

problems : (a b : ProblemView) → Decides (same_problem a b) (a ≡ b)
problems a b = as_well (same_problem a b)
    (Decides-and _ _ (clusters a.case b.case) (Decides-and _ _ (lists a.start b.start) (goals a.goals b.goals)))
    (λ h. made a b h.0 h.1.0 h.1.1)
    (λ e. (ap (λ (x : ProblemView). x.case) e, (ap (λ (x : ProblemView). x.start) e, ap (λ (x : ProblemView). x.goals) e)))
  where
    made : (a b : ProblemView) → a.case ≡ b.case → a.start ≡ b.start → a.goals ≡ b.goals → a ≡ b
    made a b e f g = same3 (λ x0 x1 x2. the_ProblemView x0 x1 x2) e f g

op_of : ℕ → Option Op
op_of zero = Some op.Proposals
op_of (suc zero) = Some op.Rebalance
op_of (suc (suc zero)) = Some op.AddBroker
op_of (suc (suc (suc zero))) = Some op.RemoveBroker
op_of (suc (suc (suc (suc zero)))) = Some op.DemoteBroker
op_of (suc (suc (suc (suc (suc n))))) = Some op.TopicConfiguration

op_found : (o : Op) → op_of (op_number o) ≡ Some o
unfolding op_of
op_found op.Proposals = refl
op_found op.Rebalance = refl
op_found op.AddBroker = refl
op_found op.RemoveBroker = refl
op_found op.DemoteBroker = refl
op_found op.TopicConfiguration = refl

ops : (a b : Op) → Decides (op_number a == op_number b) (a ≡ b)
ops a b = as_well (op_number a == op_number b) (Decides-eqb (op_number a) (op_number b)) (by_number op_number op_of op_found a b) (ap op_number)

asks : (a b : AskView) → Decides (same_ask a b) (a ≡ b)
unfolding same_ask
asks a b = as_well (same_ask a b)
    (Decides-and _ _ (ops a.op b.op) (Decides-and _ _ (bytes_eq-Decides a.brokers b.brokers) (Decides-and _ _ (all bytes_eq bytes_eq-Decides a.goals b.goals)
    (Decides-and _ _ (booleans_Decides a.skip b.skip) (Decides-and _ _ (all bytes_eq bytes_eq-Decides a.excluded b.excluded) (Decides-and _ _ (booleans_Decides a.dryrun b.dryrun)
    (Decides-and _ _ (all bytes_eq bytes_eq-Decides a.topics b.topics) (Decides-eqb a.factor b.factor))))))))
    (λ h. made a b h.0 h.1.0 h.1.1.0 h.1.1.1.0 h.1.1.1.1.0 h.1.1.1.1.1.0 h.1.1.1.1.1.1.0 h.1.1.1.1.1.1.1)
    (λ e. (ap (λ (x : AskView). x.op) e, (ap (λ (x : AskView). x.brokers) e, (ap (λ (x : AskView). x.goals) e, (ap (λ (x : AskView). x.skip) e, (ap (λ (x : AskView). x.excluded) e, (ap (λ (x : AskView). x.dryrun) e, (ap (λ (x : AskView). x.topics) e, ap (λ (x : AskView). x.factor) e))))))))
  where
    made : (a b : AskView) → a.op ≡ b.op → a.brokers ≡ b.brokers → a.goals ≡ b.goals → a.skip ≡ b.skip → a.excluded ≡ b.excluded → a.dryrun ≡ b.dryrun → a.topics ≡ b.topics → a.factor ≡ b.factor → a ≡ b
    made a b e f g h i j k l = same8 (λ x0 x1 x2 x3 x4 x5 x6 x7. the_Ask x0 x1 x2 x3 x4 x5 x6 x7) e f g h i j k l

pub sameness_is_equality : SamenessIsEquality
sameness_is_equality = record { clusters = clusters; lists = lists; goals = goals; problems = problems; asks = asks }
