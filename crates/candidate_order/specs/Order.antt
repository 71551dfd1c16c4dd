-- When a broker's partitions stand in order.
use Rattle.std.specs.Prelude.{◌≡◌, ℕ, ◌<◌, ◌≤◌, ◌&&◌, nat_lt, List, [], ◌∷◌, length, map}
use Rattle.std.specs.List.{All}
use Rattle.plan_terms.specs.Cluster.{Cluster, Lists, list_of, has}
use Rattle.plan_terms.specs.declared.cluster.Broker.{Broker}
use Rattle.candidate_order.specs.CandidateList.{disk_of, replicas_of}

-- x weighs more than y, or as much and is less
pub record GoesBefore (f : ℕ → ℕ) (x y : ℕ) : Type 0 where
  pub falls : f y ≤ f x
  pub ties : f x ≤ f y → x < y

-- each goes before all behind it
abbrev pub IsInOrder : (ℕ → ℕ) → List ℕ → Type 0
IsInOrder f [] = Unit {0}
IsInOrder f (x ∷ xs) = All (GoesBefore f x) xs × IsInOrder f xs

-- the partitions of a broker's replicas, each once, by falling DISK load, ties by partition
pub record AreReplicasOf (c : Cluster) (lists : Lists) (b : ℕ) (xs : List ℕ) : Type 0 where
  pub in_order : IsInOrder (disk_of c lists b) xs
  pub members : (p : ℕ) → has xs p ≡ (nat_lt p (length lists) && has (list_of lists p) b)

-- the replicas of each broker, by the places of the brokers
abbrev pub IsOrderOf : Cluster → Lists → List (List ℕ) → Type 0
IsOrderOf c lists rows = rows ≡ map (λ (x : Broker). replicas_of c lists x.id) c.brokers
