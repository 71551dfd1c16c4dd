-- Which actions are legal, and the list of them.
use Rattle.std.specs.Prelude.{ℕ, Bool, false, not, ◌&&◌, ◌||◌, nat_lt, List, [], ◌∷◌, ◌++◌, map, length, zero, suc}
use Rattle.std.specs.List.{list_any, flat_map, filter}
use Rattle.plan_terms.specs.States.{is_dead, is_new, is_demoted}
use Rattle.plan_terms.specs.Cluster.{Cluster, Lists, list_of, has, leads, some_broker}
use Rattle.plan_terms.specs.declared.cluster.Broker.{Broker}
use Rattle.plan_terms.specs.declared.cluster.Part.{Part}
use Rattle.plan_terms.specs.declared.actions.Action.{Action}
use Rattle.plan_terms.specs.declared.actions.Action.TheVariants.{Move, Lead, Swap}

-- a broker of the cluster that is not lost
abbrev pub is_live : Cluster → ℕ → Bool
is_live c b = some_broker (λ x. not (is_dead x.state)) c b

-- a broker of the cluster that is lost
abbrev pub is_lost : Cluster → ℕ → Bool
is_lost c b = some_broker (λ x. is_dead x.state) c b

-- some broker is being added
abbrev pub any_new : Cluster → Bool
any_new c = list_any (λ x. is_new x.state) c.brokers

-- p is a partition whose topic is not excluded
abbrev pub is_open : List Part → ℕ → Bool
is_open [] p = false
is_open (x ∷ xs) zero = not x.excluded
is_open (x ∷ xs) (suc p) = is_open xs p

-- the first member is lost or demoted
abbrev pub leader_fails : Cluster → List ℕ → Bool
leader_fails c [] = false
leader_fails c (x ∷ xs) = some_broker (λ y. is_dead y.state || is_demoted y.state) c x

-- balance may move replicas to b: it is new, or no broker is
abbrev pub may_gain : Cluster → ℕ → Bool
may_gain c b = some_broker (λ x. is_new x.state) c b || not (any_new c)

-- a move, where its source is lost or balance may make it; a lead, where the partition is open or its leader fails;
-- a swap of two brokers that are not lost, in two open partitions, where no broker is being added
unfoldable pub is_legal : Cluster → Lists → Action → Bool
is_legal c lists (Move p a b) =
    has (list_of lists p) a && is_live c b && not (has (list_of lists p) b)
    && (is_lost c a || (is_open c.parts p && not c.options.leads_only && may_gain c b))
is_legal c lists (Lead p b) =
    has (list_of lists p) b && not (leads (list_of lists p) b) && is_live c b
    && (is_open c.parts p || leader_fails c (list_of lists p))
is_legal c lists (Swap p a q b) =
    nat_lt p q && has (list_of lists p) a && not (has (list_of lists q) a)
    && has (list_of lists q) b && not (has (list_of lists p) b)
    && is_live c a && is_live c b && is_open c.parts p && is_open c.parts q
    && not c.options.leads_only && not (any_new c)

-- f 0, f 1, .. below n, end to end
abbrev pub each_below : {X : Type 0} → (ℕ → List X) → ℕ → List X
each_below f zero = []
each_below f (suc n) = each_below f n ++ f n

-- broker a's place in partition p goes to each broker
abbrev pub moves_from : List Broker → ℕ → ℕ → List Action
moves_from brokers p a = map (λ y. Move p a y.id) brokers

-- the moves of partition p, by the places of both brokers in the cluster
abbrev pub moves_of : List Broker → ℕ → List Action
moves_of brokers p = flat_map (λ x. moves_from brokers p x.id) brokers

-- the leads of partition p, by the place of the broker in the cluster
abbrev pub leads_of : List Broker → ℕ → List Action
leads_of brokers p = map (λ y. Lead p y.id) brokers

-- broker a, in partition p, goes to the place of each broker in partition q
abbrev pub swaps_with : List Broker → ℕ → ℕ → ℕ → List Action
swaps_with brokers p a q = map (λ y. Swap p a q y.id) brokers

-- the swaps of partition p with each of n partitions, by the first broker's place, the other partition and the other broker's place
abbrev pub swaps_of : List Broker → ℕ → ℕ → List Action
swaps_of brokers n p = flat_map (λ x. each_below (swaps_with brokers p x.id) n) brokers

-- the moves, the leads and the swaps of n partitions, each in lexicographic order of partitions and places in the cluster
abbrev pub candidates : List Broker → ℕ → List Action
candidates brokers n = each_below (moves_of brokers) n ++ each_below (leads_of brokers) n ++ each_below (swaps_of brokers n) n

-- the legal actions, in that order
unfoldable pub all_actions : Cluster → Lists → List Action
all_actions c lists = filter (is_legal c lists) (candidates c.brokers (length lists))
