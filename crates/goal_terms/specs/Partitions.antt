-- Goals over partitions about brokers that are lost or not to lead.
use Rattle.std.specs.Prelude.{ℕ, true, false, List, [], ◌∷◌, if◌then◌else◌}
use Rattle.std.specs.List.{count_by}
use Rattle.plan_terms.specs.Cluster.{Cluster, some_broker}
use Rattle.plan_terms.specs.Goal.{Meaning, per_partition}
use Rattle.plan_terms.specs.Legal.{is_lost}
use Rattle.plan_terms.specs.States.{is_demoted}

-- how many members stand on lost brokers
abbrev pub lost_members : Cluster → List ℕ → ℕ
lost_members c list = count_by (is_lost c) list

-- the goal that no replica stands on a lost broker, which is hard
abbrev pub evacuation_goal : Cluster → Meaning
evacuation_goal c = per_partition true (lost_members c) c

-- 1 where the first member stands on a broker that is not to lead, else 0
abbrev pub demoted_first : Cluster → List ℕ → ℕ
demoted_first c [] = 0
demoted_first c (x ∷ xs) = if some_broker (λ y. is_demoted y.state) c x then 1 else 0

-- the goal that no broker leads that is not to, which is soft
abbrev pub demotion_goal : Cluster → Meaning
demotion_goal c = per_partition false (demoted_first c) c
