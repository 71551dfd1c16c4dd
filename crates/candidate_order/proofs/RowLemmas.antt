-- The moves of a replica, by the rows of the brokers.
use Rattle.std.specs.Prelude.{List, Bool, nat_le, if◌then◌else◌}
use Rattle.std.proofs.Common.{◌≡◌, ℕ, ◌+◌, take, ◌<◌, ◌≤◌, ◌++◌, true, false, zero, suc, length, get_or, arith, inl, inr, [], ◌∷◌, map, refl, ap, ◌∙◌, sym}
use Rattle.std.specs.List.{All, flat_map, filter}
use Rattle.std.proofs.lemmas.Bool.{cases_Bool}
use Rattle.goal_terms.specs.Pairs.{taker}
use Rattle.std.proofs.lemmas.List.{get_or-map, length-map, take_more, append-nil}
use Rattle.std.proofs.lemmas.List.Elements.{All-append, All-nil, All-filter, filter-append}
use Rattle.plan_terms.specs.Cluster.{Cluster, Lists, has, list_of, id_at, ids_of}
use Rattle.plan_terms.specs.declared.cluster.Broker.{Broker}
use Rattle.plan_terms.specs.declared.actions.Action.TheVariants.{Move}
use Rattle.candidate_order.specs.CandidateList.{moves_of_replica, replicas_of, by_falling, put_by, numbers}
use Rattle.candidate_order.specs.Order.{IsOrderOf}

pub through : {X Y Z : Type 0} (f : Y → Z) (h : X → Y) (xs : List X) → map (λ x. f (h x)) xs ≡ map f (map h xs)
through f h [] = refl
through f h (x ∷ xs) = ap (λ ys. f (h x) ∷ ys) (through f h xs)

-- by the rows
pub moves-rows : {R : Type 0} (id : R → ℕ) (rows : List R) (c : Cluster) (a p : ℕ) → map id rows ≡ ids_of c.brokers → moves_of_replica c a p ≡ map (λ r. Move p a (id r)) rows
moves-rows id rows c a p e =
    through (λ k. Move p a k) (λ (y : Broker). y.id) c.brokers ∙ ap (map (λ k. Move p a k)) (sym e) ∙ sym (through (λ k. Move p a k) id rows)

filter-map : {X Y : Type 0} (q : Y → Bool) (f : X → Y) (xs : List X) → filter q (map f xs) ≡ map f (filter (λ x. q (f x)) xs)
filter-map q f [] = refl
filter-map q f (x ∷ xs) = elim (cases_Bool (q (f x))) as (λ _. filter q (map f (x ∷ xs)) ≡ map f (filter (λ x. q (f x)) (x ∷ xs))) [
  | inl e ↦ rw e (ap (λ ys. f x ∷ ys) (filter-map q f xs))
  | inr e ↦ rw e (filter-map q f xs)
]

-- those to the brokers that pass a test, by the rows of these
pub moves-passed : {R : Type 0} (id : R → ℕ) (rows : List R) (q : ℕ → Bool) (c : Cluster) (a p : ℕ) → map id rows ≡ filter q (ids_of c.brokers)
    → filter (λ x. q (taker x)) (moves_of_replica c a p) ≡ map (λ r. Move p a (id r)) rows
moves-passed id rows q c a p e =
    ap (filter (λ x. q (taker x))) (through (λ k. Move p a k) (λ (y : Broker). y.id) c.brokers)
    ∙ filter-map (λ x. q (taker x)) (λ k. Move p a k) (ids_of c.brokers)
    ∙ ap (map (λ k. Move p a k)) (sym e) ∙ sym (through (λ k. Move p a k) id rows)

-- the numbers that pass a test, one more looked at
module _ (q : ℕ → Bool) (ids : List ℕ) (i k : ℕ) (l : i < length ids) (at : k ≡ get_or ids i 0) (xs : List ℕ) (e : xs ≡ filter q (take i ids)) where
  pub passed-more : q k ≡ true → xs ++ k ∷ [] ≡ filter q (take (i + 1) ids)
  passed-more h = rw (take_more ids i 0 l, filter-append q (take i ids) (get_or ids i 0 ∷ []), ← at, ← e, h) refl

  pub passed-less : q k ≡ false → xs ≡ filter q (take (i + 1) ids)
  passed-less h = rw (take_more ids i 0 l, filter-append q (take i ids) (get_or ids i 0 ∷ []), ← at, ← e, h) (sym (append-nil xs))

-- end to end, by the rows
through-flat : {X Y Z : Type 0} (f : Y → List Z) (h : X → Y) (xs : List X) → flat_map (λ x. f (h x)) xs ≡ flat_map f (map h xs)
through-flat f h [] = refl
through-flat f h (x ∷ xs) = ap (λ ys. f (h x) ++ ys) (through-flat f h xs)

pub same-flat : {X Z : Type 0} (f g : X → List Z) (xs : List X) → All (λ x. f x ≡ g x) xs → flat_map f xs ≡ flat_map g xs
same-flat f g [] e = refl
same-flat f g (x ∷ xs) e = let h = e 0 x (omega arith) in let t = same-flat f g xs (λ k d l. e (suc k) d (omega arith)) in cc

-- by the rows of the brokers
pub by-rows : {R Z : Type 0} (id : R → ℕ) (f : ℕ → List Z) (rows : List R) (brokers : List Broker) → map id rows ≡ ids_of brokers
    → flat_map (λ (x : Broker). f x.id) brokers ≡ flat_map (λ r. f (id r)) rows
by-rows id f rows brokers e = through-flat f (λ (y : Broker). y.id) brokers ∙ ap (flat_map f) (sym e) ∙ sym (through-flat f id rows)

-- the lists of what passes, end to end
pub flat-filter : {X Z : Type 0} (f : X → List Z) (q : X → Bool) (xs : List X) → flat_map f (filter q xs) ≡ flat_map (λ x. if q x then f x else []) xs
flat-filter f q [] = refl
flat-filter f q (x ∷ xs) = elim (cases_Bool (q x)) as (λ _. flat_map f (filter q (x ∷ xs)) ≡ flat_map (λ y. if q y then f y else []) (x ∷ xs)) [
  | inl e ↦ rw e (ap (λ ys. f x ++ ys) (flat-filter f q xs))
  | inr e ↦ rw e (flat-filter f q xs)
]

-- an order has a row for each broker
module _ {R : Type 0} (c : Cluster) (lists : Lists) (order : List (List ℕ)) (id : R → ℕ) (rows : List R) where
  pub order-length : IsOrderOf c lists order → map id rows ≡ ids_of c.brokers → length order ≡ length rows
  order-length o e = ap length o ∙ length-map c.brokers (λ (x : Broker). replicas_of c lists x.id) ∙ sym (length-map c.brokers (λ (x : Broker). x.id)) ∙ ap length (sym e) ∙ length-map rows id

  pub order-row : (k : ℕ) (r : R) → IsOrderOf c lists order → map id rows ≡ ids_of c.brokers → k < length rows → r ≡ get_or rows k r → get_or order k [] ≡ replicas_of c lists (id r)
  order-row k r o e l is =
      let whole : order ≡ map (λ s. replicas_of c lists (id s)) rows =
      o ∙ through (replicas_of c lists) (λ (y : Broker). y.id) c.brokers ∙ ap (map (replicas_of c lists)) (sym e) ∙ sym (through (replicas_of c lists) id rows) in
      rw whole (get_or-map (λ s. replicas_of c lists (id s)) rows k r [] l ∙ ap (λ s. replicas_of c lists (id s)) (sym is))

-- one more in front
pub All-front : {X : Type 0} (P : X → Type 0) (x : X) (xs : List X) → P x → All P xs → All P (x ∷ xs)
All-front P x xs h t zero d l = h
All-front P x xs h t (suc k) d l = t k d (omega arith)

-- a sort keeps what holds of all
pub All-put : (P : ℕ → Type 0) (f : ℕ → ℕ) (x : ℕ) (ys : List ℕ) → P x → All P ys → All P (put_by f x ys)
All-put P f x [] h t = All-front P x [] h t
All-put P f x (y ∷ ys) h t = elim (cases_Bool (nat_le (f y) (f x))) as (λ _. All P (put_by f x (y ∷ ys))) [
  | inl e ↦ rw e (All-front P x (y ∷ ys) h t)
  | inr e ↦ rw e (All-front P y (put_by f x ys) (t 0 y (omega arith)) (All-put P f x ys h (λ k d l. t (suc k) d (omega arith))))
]

pub All-by_falling : (P : ℕ → Type 0) (f : ℕ → ℕ) (xs : List ℕ) → All P xs → All P (by_falling f xs)
All-by_falling P f [] t = t
All-by_falling P f (x ∷ xs) t = All-put P f x (by_falling f xs) (t 0 x (omega arith)) (All-by_falling P f xs (λ k d l. t (suc k) d (omega arith)))

-- the numbers below n are below n
below-numbers : (n m : ℕ) → n ≤ m → All (λ p. p < m) (numbers n)
below-numbers zero m l = All-nil (λ p. p < m)
below-numbers (suc n) m l = All-append (λ p. p < m) (numbers n) (n ∷ []) (below-numbers n m (omega arith)) (All-front (λ p. p < m) n [] (omega arith) (All-nil (λ p. p < m)))

-- a broker's replicas are of partitions
pub replicas_of-within : (c : Cluster) (lists : Lists) (b : ℕ) → All (λ p. p < length lists) (replicas_of c lists b)
replicas_of-within c lists b = All-by_falling (λ p. p < length lists) _ _ (All-filter (λ p. has (list_of lists p) b) (λ p. p < length lists) (numbers (length lists)) (below-numbers (length lists) (length lists) (omega arith)))

-- the row at a broker's place
module _ {R : Type 0} (id : R → ℕ) (rows : List R) (c : Cluster) (k : ℕ) (e : map id rows ≡ ids_of c.brokers) where
  pub row-within : k < length c.brokers → k < length rows
  row-within l = omega (arith, l, ap length e, length-map rows id, length-map c.brokers (λ (x : Broker). x.id))

  pub row-id : (r : R) → k < length rows → r ≡ get_or rows k r → id r ≡ id_at c.brokers k
  row-id r l is = ap id is ∙ sym (get_or-map id rows k r 0 l) ∙ ap (λ ys. get_or ys k 0) e
