-- Lists put the same on the brokers of clusters with the same ids, topics and loads.
use Rattle.std.proofs.Common.{◌≡◌, ◌∙◌, ℕ, ◌+◌, ◌*◌, ◌&&◌, cond, eqb, List, [], ◌∷◌, length, map, refl, sym, ap, suc}
use Rattle.std.specs.Prelude.{slice_index, bytes_eq}
use Rattle.std.specs.List.{count_by}
use Rattle.plan_terms.specs.Belongs.{SameLoads}
use Rattle.plan_terms.specs.Cluster.{Cluster, Lists, leads}
use Rattle.plan_terms.specs.Faults.{topics, distinct_from}
use Rattle.plan_terms.specs.Load.{load, leader_in, list_load, potential_out, sum_parts, topic_count, topic_leaders}
use Rattle.plan_terms.specs.declared.cluster.Loads.{Loads}
use Rattle.plan_terms.specs.declared.cluster.Part.{Part}

pub SameLoads-refl : (c : Cluster) → SameLoads c c
SameLoads-refl c = record { ids = refl; topics = refl; loads = refl }

pub SameLoads-by : (c d e : Cluster) → c ≡ d → SameLoads d e → SameLoads c e
SameLoads-by c d e is h = rw is h

module _ (f : List ℕ → Loads → List ℕ → ℕ) where
  -- what is told of partitions by their topics and loads
  abbrev of_part : Part → List ℕ → ℕ
  of_part p list = f p.topic p.loads list

  sum_of : List (List ℕ) → List Loads → Lists → ℕ
  sum_of [] ls lists = 0
  sum_of (t ∷ ts) [] lists = 0
  sum_of (t ∷ ts) (l ∷ ls) [] = 0
  sum_of (t ∷ ts) (l ∷ ls) (list ∷ lists) = f t l list + sum_of ts ls lists

  sum_parts-of : (ps : List Part) (lists : Lists) → sum_parts of_part ps lists ≡ sum_of (map (λ p. p.topic) ps) (map (λ p. p.loads) ps) lists
  unfolding sum_of
  sum_parts-of [] lists = refl
  sum_parts-of (p ∷ ps) [] = refl
  sum_parts-of (p ∷ ps) (list ∷ lists) = ap (λ n. f p.topic p.loads list + n) (sum_parts-of ps lists)

  sum_parts_same : (c d : Cluster) (lists : Lists) → SameLoads c d → sum_parts of_part c.parts lists ≡ sum_parts of_part d.parts lists
  sum_parts_same c d lists h =
      sum_parts-of c.parts lists ∙ ap (λ ts. sum_of ts (map (λ p. p.loads) c.parts) lists) h.topics
      ∙ ap (λ ls. sum_of (map (λ p. p.topic) d.parts) ls lists) h.loads ∙ sym (sum_parts-of d.parts lists)

pub load-same : (c d : Cluster) (r b : ℕ) (lists : Lists) → SameLoads c d → load c r b lists ≡ load d r b lists
load-same c d r b lists h = sum_parts_same (λ t l list. list_load (slice_index l.lead r) (slice_index l.follow r) b list) c d lists h

pub topic_count-same : (c d : Cluster) (topic : List ℕ) (b : ℕ) (lists : Lists) → SameLoads c d → topic_count c topic b lists ≡ topic_count d topic b lists
topic_count-same c d topic b lists h = sum_parts_same (λ t l list. cond (bytes_eq t topic) (count_by (λ x. eqb x b) list) 0) c d lists h

pub topic_leaders-same : (c d : Cluster) (topic : List ℕ) (b : ℕ) (lists : Lists) → SameLoads c d → topic_leaders c topic b lists ≡ topic_leaders d topic b lists
topic_leaders-same c d topic b lists h = sum_parts_same (λ t l list. cond (bytes_eq t topic && leads list b) 1 0) c d lists h

pub potential_out-same : (c d : Cluster) (b : ℕ) (lists : Lists) → SameLoads c d → potential_out c b lists ≡ potential_out d b lists
potential_out-same c d b lists h = sum_parts_same (λ t l list. slice_index l.lead 2 * count_by (λ x. eqb x b) list) c d lists h

pub leader_in-same : (c d : Cluster) (b : ℕ) (lists : Lists) → SameLoads c d → leader_in c b lists ≡ leader_in d b lists
leader_in-same c d b lists h = sum_parts_same (λ t l list. cond (leads list b) (slice_index l.lead 1) 0) c d lists h

-- and have the same topics, and as many brokers and partitions
pub topics_same : (c d : Cluster) → SameLoads c d → topics c.parts ≡ topics d.parts
unfolding topics
topics_same c d h = ap (distinct_from []) h.topics

length-map : {X Y : Type 0} (f : X → Y) (xs : List X) → length (map f xs) ≡ length xs
length-map f [] = refl
length-map f (x ∷ xs) = ap suc (length-map f xs)

pub brokers_same : (c d : Cluster) → SameLoads c d → length c.brokers ≡ length d.brokers
brokers_same c d h = sym (length-map (λ b. b.id) c.brokers) ∙ ap (length {A = ℕ}) h.ids ∙ length-map (λ b. b.id) d.brokers

pub parts_same : (c d : Cluster) → SameLoads c d → length c.parts ≡ length d.parts
parts_same c d h = sym (length-map (λ p. p.loads) c.parts) ∙ ap (length {A = Loads}) h.loads ∙ length-map (λ p. p.loads) d.parts
