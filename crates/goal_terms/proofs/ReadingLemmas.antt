-- Quantities are the counts and loads that they stand for.
use Rattle.std.specs.Prelude.{if◌then◌else◌, ◌==◌, ◌+◌, ◌-◌, ◌*◌, cond, map, slice_index, bytes_eq}
use Rattle.std.proofs.Common.{◌≡◌, ℕ, ◌<◌, Bool, true, false, List, [], ◌∷◌, length, suc, refl, ◌∙◌, arith, inl, inr}
use Rattle.std.specs.List.{sum_by, count_by}
use Rattle.std.proofs.lemmas.Bool.{cases_Bool, ne_eqb}
use Rattle.std.proofs.lemmas.List.Sums.{sum_by-cons}
use Rattle.plan_terms.specs.Cluster.{Cluster, Lists, list_of, leads}
use Rattle.plan_terms.specs.Load.{count, leaders, load, potential_out, leader_in, topic_count, sum_parts, list_load}
use Rattle.goal_terms.specs.Quantity.{Weights, list_whole, quantity, total, whole, replica_weights, leader_weights, load_weights, potential_out_weights, leader_in_weights, topic_weights}
use Rattle.plan_terms.specs.Belongs.{SameLoads}
use Rattle.plan_terms.specs.declared.cluster.Loads.{Loads}
use Rattle.plan_terms.specs.declared.cluster.Part.{Part}

-- the plain readings: a count, the leaders, all replicas, all leaders
count-list : (b : ℕ) (list : List ℕ) → list_load 1 1 b list ≡ sum_by (λ x. cond (x == b) 1 0) list
count-list b [] = refl
count-list b (x ∷ xs) = omega (arith, sum_by-cons (λ y. cond (y == b) 1 0) x xs)

-- replicas are places
pub quantity-replicas : (ps : List Part) (lists : Lists) (b : ℕ) → length lists ≡ length ps → quantity replica_weights ps b lists ≡ count b lists
unfolding quantity
quantity-replicas [] [] b e = refl
quantity-replicas [] (l ∷ lists) b e = absurd (omega arith)
quantity-replicas (p ∷ ps) [] b e = absurd (omega arith)
quantity-replicas (p ∷ ps) (l ∷ lists) b e = omega (arith, count-list b l, quantity-replicas ps lists b (omega arith), sum_by-cons (λ list. sum_by (λ x. cond (x == b) 1 0) list) l lists)

-- a list whose first place counts
leads-list : (b : ℕ) (list : List ℕ) → list_load 1 0 b list ≡ cond (leads list b) 1 0
leads-list b [] = refl
leads-list b (x ∷ xs) = omega arith

-- leaders are first places
pub quantity-leaders : (ps : List Part) (lists : Lists) (b : ℕ) → length lists ≡ length ps → quantity leader_weights ps b lists ≡ leaders b lists
unfolding quantity
quantity-leaders [] [] b e = refl
quantity-leaders [] (l ∷ lists) b e = absurd (omega arith)
quantity-leaders (p ∷ ps) [] b e = absurd (omega arith)
quantity-leaders (p ∷ ps) (l ∷ lists) b e = omega (arith, leads-list b l, quantity-leaders ps lists b (omega arith), sum_by-cons (λ list. cond (leads list b) 1 0) l lists)

-- all replicas are all members
pub total-replicas : (ps : List Part) (lists : Lists) → length lists ≡ length ps → total replica_weights ps lists ≡ sum_by length lists
unfolding total
total-replicas [] [] e = refl
total-replicas [] (l ∷ lists) e = absurd (omega arith)
total-replicas (p ∷ ps) [] e = absurd (omega arith)
total-replicas (p ∷ ps) ([] ∷ lists) e = omega (arith, total-replicas ps lists (omega arith), sum_by-cons (length {A = ℕ}) [] lists)
total-replicas (p ∷ ps) ((x ∷ l) ∷ lists) e = omega (arith, total-replicas ps lists (omega arith), sum_by-cons (length {A = ℕ}) (x ∷ l) lists)

-- where each partition has a member, all leaders are as many as the partitions
pub total-leaders : (ps : List Part) (lists : Lists) → length lists ≡ length ps → ((k : ℕ) → k < length lists → 0 < length (list_of lists k)) → total leader_weights ps lists ≡ length ps
unfolding total
total-leaders [] lists e some = refl
total-leaders (p ∷ ps) [] e some = absurd (omega arith)
total-leaders (p ∷ ps) ([] ∷ lists) e some = let h = some 0 (omega arith) in absurd (omega arith)
total-leaders (p ∷ ps) ((x ∷ l) ∷ lists) e some = omega (arith, total-leaders ps lists (omega arith) (λ k m. some (suc k) (omega arith)))

-- and what all of them receive from clients is that of each partition's leader
pub total-leader_in : (ps : List Part) (lists : Lists) → length lists ≡ length ps → ((k : ℕ) → k < length lists → 0 < length (list_of lists k)) → total leader_in_weights ps lists ≡ sum_by (λ (p : Part). slice_index p.loads.lead 1) ps
unfolding total
total-leader_in [] lists e some = refl
total-leader_in (p ∷ ps) [] e some = absurd (omega arith)
total-leader_in (p ∷ ps) ([] ∷ lists) e some = let h = some 0 (omega arith) in absurd (omega arith)
total-leader_in (p ∷ ps) ((x ∷ l) ∷ lists) e some =
    omega (arith, sum_by-cons (λ (q : Part). slice_index q.loads.lead 1) p ps, total-leader_in ps lists (omega arith) (λ k m. some (suc k) (omega arith)))

-- f and g agree on each partition and its list
sum_parts-same : (f g : Part → List ℕ → ℕ) → ((p : Part) (list : List ℕ) → f p list ≡ g p list) → (ps : List Part) (lists : Lists) → sum_parts f ps lists ≡ sum_parts g ps lists
sum_parts-same f g h [] lists = refl
sum_parts-same f g h (p ∷ ps) [] = refl
sum_parts-same f g h (p ∷ ps) (list ∷ lists) = omega (arith, h p list, sum_parts-same f g h ps lists)

-- the load of a resource
pub quantity-load : (c : Cluster) (r b : ℕ) (lists : Lists) → quantity (load_weights r) c.parts b lists ≡ load c r b lists
unfolding quantity
quantity-load c r b lists = refl

-- a list of equal places
list_load-same : (x b : ℕ) (list : List ℕ) → list_load x x b list ≡ x * count_by (λ y. y == b) list
list_load-same x b [] = omega arith
list_load-same x b (y ∷ ys) = elim (cases_Bool (y == b)) as (λ _. list_load x x b (y ∷ ys) ≡ x * count_by (λ z. z == b) (y ∷ ys)) [
  | inl e ↦ rw (sum_by-cons (λ z. cond (z == b) 1 0) y ys, e) (omega arith)
  | inr e ↦ rw (sum_by-cons (λ z. cond (z == b) 1 0) y ys, e) (omega arith)
]

-- the leaders' outbound load at every place
pub quantity-potential_out : (c : Cluster) (b : ℕ) (lists : Lists) → quantity potential_out_weights c.parts b lists ≡ potential_out c b lists
unfolding quantity
quantity-potential_out c b lists = sum_parts-same _ _ (λ p list. list_load-same (slice_index p.loads.lead 2) b list) c.parts lists

-- a list that carries something at its first place alone
list_load-first : (x b : ℕ) (list : List ℕ) → list_load x 0 b list ≡ (if leads list b then x else 0)
list_load-first x b [] = refl
list_load-first x b (y ∷ ys) = omega arith

-- the leaders' inbound load
pub quantity-leader_in : (c : Cluster) (b : ℕ) (lists : Lists) → quantity leader_in_weights c.parts b lists ≡ leader_in c b lists
unfolding quantity
quantity-leader_in c b lists = sum_parts-same _ _ (λ p list. list_load-first (slice_index p.loads.lead 1) b list) c.parts lists

-- the replicas of a topic
pub quantity-topic : (c : Cluster) (topic : List ℕ) (b : ℕ) (lists : Lists) → quantity (topic_weights topic) c.parts b lists ≡ topic_count c topic b lists
unfolding quantity
quantity-topic c topic b lists = sum_parts-same _ _ one c.parts lists where
  of : (t : Bool) (list : List ℕ) → list_load (if t then 1 else 0) (if t then 1 else 0) b list ≡ (if t then count_by (λ x. x == b) list else 0)
  of true list = list_load-same 1 b list ∙ omega arith
  of false list = list_load-same 0 b list ∙ omega arith

  one : (p : Part) (list : List ℕ) → list_load ((topic_weights topic).lead p) ((topic_weights topic).follow p) b list ≡ (if bytes_eq p.topic topic then count_by (λ x. x == b) list else 0)
  one p list = of (bytes_eq p.topic topic) list

-- what all brokers carry together, where clusters put the same on them
module _ (lead follow : List ℕ → Loads → ℕ) where
  -- what the places of one partition's list carry
  abbrev read : Part → List ℕ → ℕ
  read p list = if length list == 0 then 0 else lead p.topic p.loads + follow p.topic p.loads * (length list - 1)

  abbrev weights_by : Weights
  weights_by = record { lead = λ p. lead p.topic p.loads; follow = λ p. follow p.topic p.loads }

  -- the places of one list
  read-whole : (p : Part) (list : List ℕ) → read p list ≡ list_whole (lead p.topic p.loads) (follow p.topic p.loads) (length list)
  read-whole p [] = refl
  read-whole p (x ∷ xs) =
      let some : (length (x ∷ xs) == 0) ≡ false = ne_eqb (suc (length xs)) 0 (λ e. absurd (omega arith)) in
      let one : length (x ∷ xs) - 1 ≡ length xs = omega arith in
      rw (some, one) refl

  pub total-read : (c d : Cluster) (lists : Lists) → SameLoads c d → sum_parts read c.parts lists ≡ total weights_by d.parts lists
  unfolding total
  total-read c d lists same = by c.parts d.parts lists same.topics same.loads where
    by : (ps qs : List Part) (ls : Lists) → map (λ p. p.topic) ps ≡ map (λ p. p.topic) qs → map (λ p. p.loads) ps ≡ map (λ p. p.loads) qs → sum_parts read ps ls ≡ whole weights_by qs (map length ls)
    by [] [] ls t l = refl
    by [] (q ∷ qs) ls t l = absurd (cc)
    by (p ∷ ps) [] ls t l = absurd (cc)
    by (p ∷ ps) (q ∷ qs) [] t l = refl
    by (p ∷ ps) (q ∷ qs) (list ∷ ls) t l =
        let topic : p.topic ≡ q.topic = cc in
        let loads : p.loads ≡ q.loads = cc in
        let rest = by ps qs ls (cc) (cc) in
        rw (← topic, ← loads) (omega (arith, read-whole p list, rest))
