-- Lists that belong to a cluster belong to it whatever its loads, its exclusions and the states of its brokers.
use Rattle.std.proofs.Common.{◌≡◌, ◌∙◌, ℕ, Bool, true, false, cond, eqb, ◌&&◌, List, [], ◌∷◌, length, map, find, is_some, Some, refl, sym, ap}
use Rattle.std.specs.List.{list_all}
use Rattle.plan_terms.specs.Belongs.{Belongs}
use Rattle.plan_terms.specs.Cluster.{Cluster, Lists, is_known}
use Rattle.plan_terms.specs.declared.cluster.Broker.{Broker}
use Rattle.plan_terms.specs.declared.cluster.BrokerState.{BrokerState}

-- a broker in another state
abbrev pub in_state : (Broker → BrokerState) → Broker → Broker
in_state g b = record b { state = g b }

-- a broker is known whatever the states
known-states : (g : Broker → BrokerState) (bs : List Broker) (id : ℕ) → is_some (find (λ x. eqb x.id id) (map (in_state g) bs)) ≡ is_some (find (λ x. eqb x.id id) bs)
known-states g [] id = refl
known-states g (b ∷ bs) id = elim (eqb b.id id) as (λ t. is_some (cond t (Some (in_state g b)) (find (λ x. eqb x.id id) (map (in_state g) bs))) ≡ is_some (cond t (Some b) (find (λ x. eqb x.id id) bs))) [
  | true ↦ refl
  | false ↦ known-states g bs id
]

all_same : (p q : ℕ → Bool) → ((x : ℕ) → p x ≡ q x) → (xs : List ℕ) → list_all p xs ≡ list_all q xs
all_same p q h [] = refl
all_same p q h (x ∷ xs) = ap (λ b. b && list_all p xs) (h x) ∙ ap (λ b. q x && b) (all_same p q h xs)

-- other states of brokers, and as many partitions
pub Belongs-same : (g : Broker → BrokerState) (c d : Cluster) (lists : Lists) → d.brokers ≡ map (in_state g) c.brokers → length d.parts ≡ length c.parts → Belongs c lists → Belongs d lists
Belongs-same g c d lists brokers parts h = record {
  one_each = h.one_each ∙ sym parts;
  lists_are = h.lists_are;
  known = λ k x l. all_same (is_known d) (is_known c) (λ id. ap (λ bs. is_some (find (λ x. eqb x.id id) bs)) brokers ∙ known-states g c.brokers id) _ ∙ h.known k x l;
}
