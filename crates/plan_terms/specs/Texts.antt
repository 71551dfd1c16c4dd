-- How a fault of a cluster is told.
use Rattle.std.specs.Prelude.{ℕ, List, ◌∷◌, ◌++◌, codes, decimal}
use Rattle.plan_terms.specs.declared.faults.CaseFault.{CaseFault}
use Rattle.plan_terms.specs.declared.faults.CaseFault.TheVariants as case
use Rattle.plan_terms.specs.declared.faults.Limit.{Limit}
use Rattle.plan_terms.specs.declared.faults.Limit.TheVariants as limit
use Rattle.plan_terms.specs.Bytes.{blank}

-- the name of a limit
abbrev pub limit_text : Limit → List ℕ
limit_text limit.Brokers = codes "Brokers"
limit_text limit.Topics = codes "Topics"
limit_text limit.Partitions = codes "Partitions"
limit_text limit.Load = codes "Load"
limit_text limit.Capacity = codes "Capacity"
limit_text limit.Chunks = codes "Chunks"
limit_text limit.Replicas = codes "Replicas"

-- a name, a blank and a number
abbrev pub with_number : List ℕ → ℕ → List ℕ
with_number name n = name ++ blank ∷ decimal n

-- the name of what makes no cluster, with its places and ids
abbrev pub case_text : CaseFault → List ℕ
case_text case.Memory = codes "Memory"
case_text (case.DuplicateBroker id) = with_number (codes "DuplicateBroker") id
case_text (case.DuplicatePartition place) = with_number (codes "DuplicatePartition") place
case_text (case.UnknownBroker place id) = with_number (with_number (codes "UnknownBroker") place) id
case_text (case.DuplicateReplica place id) = with_number (with_number (codes "DuplicateReplica") place) id
case_text (case.EmptyReplicas place) = with_number (codes "EmptyReplicas") place
case_text (case.OverLimit l) = codes "OverLimit " ++ limit_text l
case_text (case.DuplicateMinLeaders place) = with_number (codes "DuplicateMinLeaders") place
