-- What is wrong with a cluster or with its lists: the first fault, in the order in which they are named here.
use Rattle.std.specs.Prelude.{◌≡◌, slice_index, ℕ, suc, Bool, not, ◌==◌, ◌&&◌, ◌||◌, nat_lt, nat_le, List, [], ◌∷◌, ◌++◌, length, get_or, map, bytes_eq, Option, Some, None, option_map, if◌then◌else◌}
use Rattle.std.specs.Option.{option_or}
use Rattle.std.specs.List.{All, list_any}
use Rattle.plan_terms.specs.Cluster.{Cluster, Lists, has, is_known}
use Rattle.plan_terms.specs.Resources.{NW_OUT}
use Rattle.plan_terms.specs.declared.cluster.Broker.{Broker}
use Rattle.plan_terms.specs.declared.cluster.MinLeaders.{MinLeaders}
use Rattle.plan_terms.specs.declared.cluster.Options.{Options}
use Rattle.plan_terms.specs.declared.cluster.Part.{Part}
use Rattle.plan_terms.specs.declared.faults.CaseFault.{CaseFault}
use Rattle.plan_terms.specs.declared.faults.CaseFault.TheVariants.{DuplicateBroker, DuplicatePartition, UnknownBroker, DuplicateReplica, EmptyReplicas, OverLimit, DuplicateMinLeaders}
use Rattle.plan_terms.specs.declared.faults.Limit.{Limit}
use Rattle.plan_terms.specs.declared.faults.Limit.TheVariants as limit

-- the place of the first member that is the same as an earlier one, where `seen` came before and n is the next place
abbrev pub repeat_from : {X : Type 0} → (X → X → Bool) → List X → ℕ → List X → Option ℕ
repeat_from same seen n [] = None
repeat_from same seen n (x ∷ xs) = if list_any (same x) seen then Some n else repeat_from same (seen ++ x ∷ []) (suc n) xs

abbrev pub first_repeat : {X : Type 0} → (X → X → Bool) → List X → Option ℕ
first_repeat same xs = repeat_from same [] 0 xs

-- the texts, each where it comes first, behind those seen before
abbrev pub distinct_from : List (List ℕ) → List (List ℕ) → List (List ℕ)
distinct_from seen [] = seen
distinct_from seen (t ∷ ts) = distinct_from (if list_any (bytes_eq t) seen then seen else seen ++ t ∷ []) ts

-- the topics, in the order of their first partitions
unfoldable pub topics : List Part → List (List ℕ)
topics parts = distinct_from [] (map (λ p. p.topic) parts)

-- a load value is 2^32 or more
abbrev pub is_heavy : Part → Bool
is_heavy p = list_any (λ x. nat_le 4294967296 x) p.loads.lead || list_any (λ x. nat_le 4294967296 x) p.loads.follow

-- a capacity is 2^40 or more
abbrev pub is_large : Broker → Bool
is_large b = list_any (λ x. nat_le 1099511627776 x) b.cap

-- the chunks are none or above 1,000
abbrev pub has_bad_chunks : Part → Bool
has_bad_chunks p = (p.chunks == 0) || nat_lt 1000 p.chunks

abbrev pub same_id : Broker → Broker → Bool
same_id a b = a.id == b.id

abbrev pub same_part : Part → Part → Bool
same_part p q = (p.number == q.number) && bytes_eq p.topic q.topic

abbrev pub same_topic : MinLeaders → MinLeaders → Bool
same_topic m n = bytes_eq m.topic n.topic

-- the first limit that is broken
unfoldable pub broken_limit : List Broker → List Part → Option Limit
broken_limit brokers parts =
    if nat_lt 200 (length brokers) then Some limit.Brokers else (
    if nat_lt 1000 (length (topics parts)) then Some limit.Topics else (
    if nat_lt 10000 (length parts) then Some limit.Partitions else (
    if list_any is_heavy parts then Some limit.Load else (
    if list_any is_large brokers then Some limit.Capacity else (
    if list_any has_bad_chunks parts then Some limit.Chunks else None)))))

-- the first broker whose id an earlier one has
unfoldable pub broker_repeat : List Broker → Option CaseFault
broker_repeat brokers = option_map (λ i. DuplicateBroker (get_or (map (λ b. b.id) brokers) i 0)) (first_repeat same_id brokers)

-- the first partition whose topic and number an earlier one has
unfoldable pub part_repeat : List Part → Option CaseFault
part_repeat parts = option_map DuplicatePartition (first_repeat same_part parts)

-- the first fault of brokers and partitions: a limit, a broker that stands twice, a partition that stands twice
unfoldable pub case_fault : List Broker → List Part → Option CaseFault
case_fault brokers parts = option_or (option_map OverLimit (broken_limit brokers parts)) (option_or (broker_repeat brokers) (part_repeat parts))

-- the first of the least leaders whose topic an earlier one names
unfoldable pub leaders_repeat : List MinLeaders → Option CaseFault
leaders_repeat min_leaders = option_map DuplicateMinLeaders (first_repeat same_topic min_leaders)

-- the first fault of a cluster: that of its brokers and partitions, then a topic that the least leaders name twice
unfoldable pub cluster_fault : List Broker → List Part → Options → Option CaseFault
cluster_fault brokers parts options = option_or (case_fault brokers parts) (leaders_repeat options.min_leaders)

-- the first fault among the members of partition p's list, where `seen` came before
abbrev pub member_fault : Cluster → ℕ → List ℕ → List ℕ → Option CaseFault
member_fault c p seen [] = None
member_fault c p seen (b ∷ bs) =
    if not (is_known c b) then Some (UnknownBroker p b) else (
    if has seen b then Some (DuplicateReplica p b) else member_fault c p (seen ++ b ∷ []) bs)

-- the first fault of partition p's list: no member, more than 8, or that of its first bad member
unfoldable pub list_fault : Cluster → ℕ → List ℕ → Option CaseFault
list_fault c p list =
    if length list == 0 then Some (EmptyReplicas p) else (
    if nat_lt 8 (length list) then Some (OverLimit limit.Replicas) else member_fault c p [] list)

-- the first fault of the lists, the first of which is partition p's
abbrev pub lists_fault_from : Cluster → ℕ → Lists → Option CaseFault
lists_fault_from c p [] = None
lists_fault_from c p (list ∷ lists) = option_or (list_fault c p list) (lists_fault_from c (suc p) lists)

unfoldable pub lists_fault : Cluster → Lists → Option CaseFault
lists_fault c lists = lists_fault_from c 0 lists

-- brokers and partitions within the limits and without repetition, whose followers send nothing to clients, and least leaders of
-- topics that differ
pub record IsCase (c : Cluster) : Type 0 where
  pub faultless : case_fault c.brokers c.parts ≡ None
  pub topics_once : leaders_repeat c.options.min_leaders ≡ None
  pub followers : All (λ p. slice_index p.loads.follow NW_OUT ≡ 0) c.parts
