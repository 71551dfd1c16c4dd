-- What the lists of a cluster keep.
use Rattle.std.specs.Prelude.{◌≡◌, ◌≤◌, ℕ, Bool, true, not, ◌&&◌, List, [], ◌∷◌, length, map}
use Rattle.std.specs.List.{All, list_all}
use Rattle.plan_terms.specs.Cluster.{Cluster, Lists, has, is_known}

-- no member stands twice
abbrev pub distinct : List ℕ → Bool
distinct [] = true
distinct (x ∷ xs) = not (has xs x) && distinct xs

-- 1 to 8 distinct members
pub record IsReplicaList (list : List ℕ) : Type 0 where
  pub some : 1 ≤ length list
  pub few : length list ≤ 8
  pub once : distinct list ≡ true

-- each list is a replica list
abbrev pub AreReplicaLists : Lists → Type 0
AreReplicaLists lists = All IsReplicaList lists

-- at most 10,000 replica lists
pub record IsAssignment (lists : Lists) : Type 0 where
  pub count_is : length lists ≤ 10000
  pub each : AreReplicaLists lists

-- one replica list for each partition, all of whose members are brokers of the cluster
pub record Belongs (c : Cluster) (lists : Lists) : Type 0 where
  pub one_each : length lists ≡ length c.parts
  pub lists_are : AreReplicaLists lists
  pub known : All (λ list. list_all (is_known c) list ≡ true) lists

-- the lists of a plan in the making, with a cluster whose loads they put on brokers
pub record Book : Type 0 where
  pub cluster : Cluster
  pub lists : Lists

-- lists put the same on the brokers of both clusters: their brokers have the same ids, and their partitions the same topics and
-- loads. States, exclusions, options, racks and capacities may differ.
pub record SameLoads (c d : Cluster) : Type 0 where
  pub ids : map (λ b. b.id) c.brokers ≡ map (λ b. b.id) d.brokers
  pub topics : map (λ p. p.topic) c.parts ≡ map (λ p. p.topic) d.parts
  pub loads : map (λ p. p.loads) c.parts ≡ map (λ p. p.loads) d.parts

-- what the book puts on brokers is what its lists put on those of the cluster, to which they belong
pub record IsBookOf (c : Cluster) (b : Book) : Type 0 where
  pub same_loads : SameLoads b.cluster c
  pub lists_belong : Belongs c b.lists
