-- What brokers carry: sums over the lists, made afresh.
use Rattle.std.specs.Prelude.{ℕ, ◌+◌, ◌*◌, ◌==◌, ◌&&◌, List, [], ◌∷◌, slice_index, bytes_eq, if◌then◌else◌}
use Rattle.std.specs.List.{count_by, sum_by}
use Rattle.plan_terms.specs.Cluster.{Cluster, Lists, leads}
use Rattle.plan_terms.specs.Resources.{NW_IN, NW_OUT}
use Rattle.plan_terms.specs.declared.cluster.Part.{Part}

-- how many places broker b has
abbrev pub count : ℕ → Lists → ℕ
count b lists = sum_by (λ list. count_by (λ x. x == b) list) lists

-- how many first places broker b has
abbrev pub leaders : ℕ → Lists → ℕ
leaders b lists = count_by (λ list. leads list b) lists

-- what a list puts on b, where its first place carries `lead` and each other place `follow`
abbrev pub list_load : ℕ → ℕ → ℕ → List ℕ → ℕ
list_load lead follow b [] = 0
list_load lead follow b (first ∷ rest) = (if first == b then lead else 0) + follow * count_by (λ x. x == b) rest

-- f of each partition and its list, added up
abbrev pub sum_parts : (Part → List ℕ → ℕ) → List Part → Lists → ℕ
sum_parts f [] lists = 0
sum_parts f (p ∷ ps) [] = 0
sum_parts f (p ∷ ps) (list ∷ lists) = f p list + sum_parts f ps lists

-- the load of resource r on broker b: the leader's load where b leads, the follower's at each other place of b
abbrev pub load : Cluster → ℕ → ℕ → Lists → ℕ
load c r b lists = sum_parts (λ p list. list_load (slice_index p.loads.lead r) (slice_index p.loads.follow r) b list) c.parts lists

-- how many places broker b has in a topic
abbrev pub topic_count : Cluster → List ℕ → ℕ → Lists → ℕ
topic_count c topic b lists = sum_parts (λ p list. if bytes_eq p.topic topic then count_by (λ x. x == b) list else 0) c.parts lists

-- how many first places broker b has in a topic
abbrev pub topic_leaders : Cluster → List ℕ → ℕ → Lists → ℕ
topic_leaders c topic b lists = sum_parts (λ p list. if bytes_eq p.topic topic && leads list b then 1 else 0) c.parts lists

-- what b would send if it led every partition of which it is a member: the leaders' NW_OUT over all its places
abbrev pub potential_out : Cluster → ℕ → Lists → ℕ
potential_out c b lists = sum_parts (λ p list. slice_index p.loads.lead NW_OUT * count_by (λ x. x == b) list) c.parts lists

-- the leaders' NW_IN over the first places of b
abbrev pub leader_in : Cluster → ℕ → Lists → ℕ
leader_in c b lists = sum_parts (λ p list. if leads list b then slice_index p.loads.lead NW_IN else 0) c.parts lists
