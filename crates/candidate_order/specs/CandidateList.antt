-- The list of all legal actions in the order in which they are tried.
use Rattle.std.specs.Prelude.{ℕ, nat_le, List, [], ◌∷◌, ◌++◌, map, length, if◌then◌else◌}
use Rattle.std.specs.List.{All, filter, flat_map}
use Rattle.plan_terms.specs.Cluster.{Cluster, Lists, list_of, has, leads}
use Rattle.plan_terms.specs.Goal.{Meaning}
use Rattle.plan_terms.specs.Legal.{is_legal, each_below, leads_of}
use Rattle.plan_terms.specs.Trace.{Step}
use Rattle.plan_terms.specs.declared.cluster.Broker.{Broker}
use Rattle.plan_terms.specs.declared.actions.Action.{Action}
use Rattle.plan_terms.specs.declared.actions.Action.TheVariants.{Move, Lead, Swap}
use Rattle.goal_terms.specs.Quantity.{part_weight, load_weights}
use Rattle.candidate_order.specs.First.{IsFirst}
use Rattle.candidate_order.specs.declared.kinds.Kind.{Kind}
use Rattle.candidate_order.specs.declared.kinds.Kind.TheVariants.{Moves, Leads, Swaps}
use Rattle.plan_terms.specs.Resources.{DISK}

-- x goes before the first that weighs no more
abbrev pub put_by : (ℕ → ℕ) → ℕ → List ℕ → List ℕ
put_by f x [] = x ∷ []
put_by f x (y ∷ ys) = if nat_le (f y) (f x) then x ∷ y ∷ ys else y ∷ put_by f x ys

-- by falling weight, and equal weights in the order in which they stand
abbrev pub by_falling : (ℕ → ℕ) → List ℕ → List ℕ
by_falling f [] = []
by_falling f (x ∷ xs) = put_by f x (by_falling f xs)

-- 0, 1, .. below n
abbrev pub numbers : ℕ → List ℕ
numbers n = each_below (λ p. p ∷ []) n

-- the DISK load that the broker's place of a partition carries
abbrev pub disk_of : Cluster → Lists → ℕ → ℕ → ℕ
disk_of c lists b p = part_weight (load_weights DISK) c.parts p (leads (list_of lists p) b)

-- the partitions of a broker's replicas, by falling DISK load, ties by partition
abbrev pub replicas_of : Cluster → Lists → ℕ → List ℕ
replicas_of c lists b = by_falling (disk_of c lists b) (filter (λ p. has (list_of lists p) b) (numbers (length lists)))

-- one replica goes to each broker
abbrev pub moves_of_replica : Cluster → ℕ → ℕ → List Action
moves_of_replica c a p = map (λ (y : Broker). Move p a y.id) c.brokers

-- each broker's replicas go to each broker
abbrev pub move_list : Cluster → Lists → List Action
move_list c lists = flat_map (λ (x : Broker). flat_map (moves_of_replica c x.id) (replicas_of c lists x.id)) c.brokers

-- the lead of each partition whose first member the broker is goes to each broker
abbrev pub lead_list : Cluster → Lists → List Action
lead_list c lists = flat_map (λ (x : Broker). flat_map (λ p. map (λ (y : Broker). Lead p y.id) c.brokers) (filter (λ p. leads (list_of lists p) x.id) (replicas_of c lists x.id))) c.brokers

-- each broker's replicas change places with those of each broker
abbrev pub swap_list : Cluster → Lists → List Action
swap_list c lists =
    flat_map (λ (x : Broker). flat_map (λ p. flat_map (λ (y : Broker). map (λ q. Swap p x.id q y.id) (replicas_of c lists y.id)) c.brokers) (replicas_of c lists x.id)) c.brokers

-- the candidates of one kind for broker a's replica of partition p: a lead only where the broker is the first member
abbrev pub candidates_at : Kind → Cluster → Lists → ℕ → ℕ → List Action
candidates_at Moves c lists a p = moves_of_replica c a p
candidates_at Leads c lists a p = if leads (list_of lists p) a then leads_of c.brokers p else []
candidates_at Swaps c lists a p = flat_map (λ (y : Broker). map (λ q. Swap p a q y.id) (replicas_of c lists y.id)) c.brokers

-- those of all replicas, broker by broker
abbrev pub candidates_in : Kind → Cluster → Lists → List Action
candidates_in kind c lists = flat_map (λ (x : Broker). flat_map (candidates_at kind c lists x.id) (replicas_of c lists x.id)) c.brokers

-- the legal ones: moves, leads, swaps
unfoldable pub candidate_list : Cluster → Lists → List Action
candidate_list c lists = filter (is_legal c lists) (move_list c lists ++ lead_list c lists ++ swap_list c lists)

-- the first action of the list that serves
abbrev pub FirstStep : Cluster → List Meaning → Meaning → Lists → Action → Type 0
FirstStep c earlier goal lists a = IsFirst (Step c earlier goal lists) (candidate_list c lists) a

-- none of a list is a step
abbrev pub NoStep : Cluster → List Meaning → Meaning → Lists → List Action → Type 0
NoStep c earlier goal lists xs = All (λ a. Step c earlier goal lists a → ⊥) xs
