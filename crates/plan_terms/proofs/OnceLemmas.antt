-- Every legal action is listed once.
use Rattle.std.proofs.Common.{◌≡◌, ℕ, ◌+◌, ◌≤◌, Bool, true, false, eqb, ltb, List, [], ◌∷◌, ◌++◌, length, map, cond, zero, suc, refl, arith, inl, inr, eq-eqb}
use Rattle.std.specs.Prelude.{◌&&◌, ◌||◌, ◌==◌, Option, Some, None, option_map}
use Rattle.std.specs.List.{list_any, filter, flat_map, count_by}
use Rattle.std.proofs.lemmas.Bool.{cases_Bool, eqb-true}
use Rattle.std.proofs.lemmas.Bool.Decides.{nat_tests}
use Rattle.std.proofs.lemmas.List.Sums.{sum_by-append, sum_by-cons}
use Rattle.std.proofs.lemmas.List.Folds.{list_any-append}
use Rattle.plan_terms.specs.Belongs.{Belongs}
use Rattle.plan_terms.specs.Cluster.{Cluster, Lists}
use Rattle.plan_terms.specs.Faults.{IsCase, case_fault, broker_repeat, first_repeat, repeat_from, same_id}
use Rattle.plan_terms.specs.Laws.{same_action}
use Rattle.plan_terms.specs.Legal.{is_legal, each_below, moves_from, moves_of, leads_of, swaps_with, swaps_of, candidates, all_actions}
use Rattle.plan_terms.proofs.Complete.{Among, here, later, listed}
use Rattle.plan_terms.proofs.FaultLemmas.{option_or-None}
use Rattle.plan_terms.specs.declared.cluster.Broker.{Broker}
use Rattle.plan_terms.specs.declared.actions.Action.{Action}
use Rattle.plan_terms.specs.declared.actions.Action.TheVariants.{Move, Lead, Swap}

-- 1 where the test passes
abbrev one_if : Bool → ℕ
one_if t = cond t 1 0

-- how many brokers have the id
abbrev with_id : ℕ → List Broker → ℕ
with_id b brokers = count_by (λ (x : Broker). b == x.id) brokers

module _ {X : Type 0} (P : X → Bool) where
  count-cons : (x : X) (xs : List X) → count_by P (x ∷ xs) ≡ one_if (P x) + count_by P xs
  count-cons x xs = sum_by-cons (λ y. cond (P y) 1 0) x xs

  count-append : (xs ys : List X) → count_by P (xs ++ ys) ≡ count_by P xs + count_by P ys
  count-append xs ys = sum_by-append (λ y. cond (P y) 1 0) xs ys

  count-filter-le : (q : X → Bool) (xs : List X) → count_by P (filter q xs) ≤ count_by P xs
  count-filter-le q [] = omega arith
  count-filter-le q (x ∷ xs) = elim (q x) as (λ t. count_by P (cond t (x ∷ filter q xs) (filter q xs)) ≤ count_by P (x ∷ xs)) [
    | true ↦ omega (arith, count-cons x (filter q xs), count-cons x xs, count-filter-le q xs)
    | false ↦ omega (arith, count-cons x xs, count-filter-le q xs)
  ]

  count-Among : {x : X} {xs : List X} → Among x xs → P x ≡ true → 1 ≤ count_by P xs
  count-Among {x} (here {xs}) h = rw (count-cons x xs, h) (omega arith)
  count-Among {x} (later {y} {xs} m) h = omega (arith, count-cons y xs, count-Among m h)

  -- no member passes
  count_map-none : {Y : Type 0} (f : Y → X) → ((y : Y) → P (f y) ≡ false) → (ys : List Y) → count_by P (map f ys) ≡ 0
  count_map-none f h [] = refl
  count_map-none f h (y ∷ ys) = rw (count-cons (f y) (map f ys), h y, count_map-none f h ys) refl

  count_flat_map-none : {Y : Type 0} (f : Y → List X) → ((y : Y) → count_by P (f y) ≡ 0) → (ys : List Y) → count_by P (flat_map f ys) ≡ 0
  count_flat_map-none f h [] = refl
  count_flat_map-none f h (y ∷ ys) = rw (count-append (f y) (flat_map f ys), h y, count_flat_map-none f h ys) refl

  count_below-none : (f : ℕ → List X) → ((k : ℕ) → count_by P (f k) ≡ 0) → (n : ℕ) → count_by P (each_below f n) ≡ 0
  count_below-none f h zero = refl
  count_below-none f h (suc n) = rw (count-append (each_below f n) (f n), count_below-none f h n, h n) refl

  -- one of the lists alone has a member that passes, and one at most
  below_once : (f : ℕ → List X) (p : ℕ) → ((k : ℕ) → count_by P (f k) ≤ one_if (eqb p k)) → (n : ℕ) → count_by P (each_below f n) ≤ one_if (ltb p n)
  below_once f p h zero = omega arith
  below_once f p h (suc n) =
      let split = count-append (each_below f n) (f n) in
      let front = below_once f p h n in
      let last = h n in
      grind (arith, nat_tests)

-- one broker alone has the id, where none stands twice
module _ (P : Action → Bool) where
  map_once : (f : Broker → Action) (b : Bool) (t : ℕ) → ((y : Broker) → P (f y) ≡ (b && (t == y.id))) → (ys : List Broker) → with_id t ys ≤ 1 → count_by P (map f ys) ≤ one_if b
  map_once f true t h ys one = omega (arith, same ys) where
    same : (zs : List Broker) → count_by P (map f zs) ≡ with_id t zs
    same [] = refl
    same (z ∷ zs) = rw (count-cons P (f z) (map f zs), count-cons (λ (x : Broker). t == x.id) z zs, h z, same zs) refl
  map_once f false t h ys one = omega (arith, count_map-none P f h ys)

  flat_map_once : (f : Broker → List Action) (b : Bool) (s : ℕ) → ((x : Broker) → count_by P (f x) ≤ one_if (b && (s == x.id))) → (xs : List Broker) → with_id s xs ≤ 1 → count_by P (flat_map f xs) ≤ one_if b
  flat_map_once f true s h xs one = omega (arith, at_most xs) where
    at_most : (zs : List Broker) → count_by P (flat_map f zs) ≤ with_id s zs
    at_most [] = omega arith
    at_most (z ∷ zs) = omega (arith, count-append P (f z) (flat_map f zs), count-cons (λ (x : Broker). s == x.id) z zs, h z, at_most zs)
  flat_map_once f false s h xs one = omega (arith, count_flat_map-none P f (λ x. omega (arith, h x)) xs)

-- of lists that are empty of what passes where b is false, and one alone of which has one that passes where b is true
below_if : (P : Action → Bool) (f : ℕ → List Action) (r : ℕ) (b : Bool) → ((q : ℕ) → count_by P (f q) ≤ one_if (b && eqb r q)) → (n : ℕ) → count_by P (each_below f n) ≤ one_if b
below_if P f r true h n = elim (ltb r n) as (λ t. count_by P (each_below f n) ≤ one_if t → count_by P (each_below f n) ≤ 1) [ true ↦ λ e. e | false ↦ λ e. omega arith ] (below_once P f r h n)
below_if P f r false h n = omega (arith, count_below-none P f (λ q. omega (arith, h q)) n)

at_most_one : (t : Bool) (m : ℕ) → m ≤ one_if t → m ≤ 1
at_most_one true m h = h
at_most_one false m h = omega arith

module _ (brokers : List Broker) (once : (b : ℕ) → with_id b brokers ≤ 1) (n : ℕ) where
  parts_once : (P : Action → Bool) (m l s : ℕ) → count_by P (each_below (moves_of brokers) n) ≡ m → count_by P (each_below (leads_of brokers) n) ≡ l → count_by P (each_below (swaps_of brokers n) n) ≡ s
      → m + l + s ≤ 1 → count_by P (candidates brokers n) ≤ 1
  parts_once P m l s em el es h =
      omega (arith, count-append P (each_below (moves_of brokers) n ++ each_below (leads_of brokers) n) (each_below (swaps_of brokers n) n), count-append P (each_below (moves_of brokers) n) (each_below (leads_of brokers) n))

  no_moves : (P : Action → Bool) → ((k u v : ℕ) → P (Move k u v) ≡ false) → count_by P (each_below (moves_of brokers) n) ≡ 0
  no_moves P h = count_below-none P (moves_of brokers) (λ k. count_flat_map-none P (λ (x : Broker). moves_from brokers k x.id) (λ x. count_map-none P (λ (y : Broker). Move k x.id y.id) (λ y. h k x.id y.id) brokers) brokers) n

  no_leads : (P : Action → Bool) → ((k v : ℕ) → P (Lead k v) ≡ false) → count_by P (each_below (leads_of brokers) n) ≡ 0
  no_leads P h = count_below-none P (leads_of brokers) (λ k. count_map-none P (λ (y : Broker). Lead k y.id) (λ y. h k y.id) brokers) n

  no_swaps : (P : Action → Bool) → ((k u q v : ℕ) → P (Swap k u q v) ≡ false) → count_by P (each_below (swaps_of brokers n) n) ≡ 0
  no_swaps P h = count_below-none P (swaps_of brokers n) (λ k. count_flat_map-none P (λ (x : Broker). each_below (swaps_with brokers k x.id) n)
      (λ x. count_below-none P (swaps_with brokers k x.id) (λ q. count_map-none P (λ (y : Broker). Swap k x.id q y.id) (λ y. h k x.id q y.id) brokers) n) brokers) n

  one_move : (p s t : ℕ) → count_by (same_action (Move p s t)) (each_below (moves_of brokers) n) ≤ 1
  one_move p s t =
      let P = same_action (Move p s t) in
      at_most_one (ltb p n) _ (below_once P (moves_of brokers) p (λ k. flat_map_once P (λ x. moves_from brokers k x.id) (p == k) s
      (λ x. map_once P (λ y. Move k x.id y.id) ((p == k) && (s == x.id)) t (λ y. refl) brokers (once t)) brokers (once s)) n)

  one_lead : (p t : ℕ) → count_by (same_action (Lead p t)) (each_below (leads_of brokers) n) ≤ 1
  one_lead p t =
      let P = same_action (Lead p t) in
      at_most_one (ltb p n) _ (below_once P (leads_of brokers) p (λ k. map_once P (λ y. Lead k y.id) (p == k) t (λ y. refl) brokers (once t)) n)

  one_swap : (p s r t : ℕ) → count_by (same_action (Swap p s r t)) (each_below (swaps_of brokers n) n) ≤ 1
  one_swap p s r t =
      let P = same_action (Swap p s r t) in
      at_most_one (ltb p n) _ (below_once P (swaps_of brokers n) p (λ k. flat_map_once P (λ x. each_below (swaps_with brokers k x.id) n) (p == k) s
      (λ x. below_if P (swaps_with brokers k x.id) r ((p == k) && (s == x.id))
      (λ q. map_once P (λ y. Swap k x.id q y.id) ((p == k) && (s == x.id) && (r == q)) t (λ y. refl) brokers (once t)) n) brokers (once s)) n)

  candidate_once : (a : Action) → count_by (same_action a) (candidates brokers n) ≤ 1
  candidate_once (Move p s t) =
      let P = same_action (Move p s t) in
      parts_once P _ 0 0 refl (no_leads P (λ k v. refl)) (no_swaps P (λ k u q v. refl)) (omega (arith, one_move p s t))
  candidate_once (Lead p t) =
      let P = same_action (Lead p t) in
      parts_once P 0 _ 0 (no_moves P (λ k u v. refl)) refl (no_swaps P (λ k u q v. refl)) (omega (arith, one_lead p t))
  candidate_once (Swap p s r t) =
      let P = same_action (Swap p s r t) in
      parts_once P 0 0 _ (no_moves P (λ k u v. refl)) (no_leads P (λ k v. refl)) refl (omega (arith, one_swap p s r t))

-- no id stands twice
ids_once : (seen xs : List Broker) (m b : ℕ) → repeat_from same_id seen m xs ≡ None → with_id b xs + one_if (list_any (λ (x : Broker). b == x.id) seen) ≤ 1
ids_once seen [] m b h = elim (list_any (λ (x : Broker). b == x.id) seen) as (λ t. 0 + one_if t ≤ 1) [ true ↦ omega arith | false ↦ omega arith ]
ids_once seen (x ∷ xs) m b h =
    let new = fresh (list_any (same_id x) seen) h in
    let rest = ids_once (seen ++ x ∷ []) xs (suc m) b new.1 in
    let joined : list_any (λ (y : Broker). b == y.id) (seen ++ x ∷ []) ≡ (list_any (λ (y : Broker). b == y.id) seen || ((b == x.id) || false)) = list_any-append (λ (y : Broker). b == y.id) seen (x ∷ []) in
    elim (cases_Bool (b == x.id)) as (λ _. with_id b (x ∷ xs) + one_if (list_any (λ (y : Broker). b == y.id) seen) ≤ 1) [
      | inl same ↦
          let e : b ≡ x.id = eqb-true b x.id same in
          let none : list_any (λ (y : Broker). b == y.id) seen ≡ false = rw e new.0 in
          let here : list_any (λ (y : Broker). b == y.id) (seen ++ x ∷ []) ≡ true = rw (joined, same, none) refl in
          rw (count-cons (λ (y : Broker). b == y.id) x xs, same, none) (omega (arith, rw here at rest))
      | inr other ↦
          let there : list_any (λ (y : Broker). b == y.id) (seen ++ x ∷ []) ≡ list_any (λ (y : Broker). b == y.id) seen = rw (joined, other) (or_false _) in
          rw (count-cons (λ (y : Broker). b == y.id) x xs, other) (omega (arith, rw there at rest))
    ] where
      fresh : (t : Bool) → cond t (Some m) (repeat_from same_id (seen ++ x ∷ []) (suc m) xs) ≡ None → (t ≡ false) × (repeat_from same_id (seen ++ x ∷ []) (suc m) xs ≡ None)
      fresh true e = absurd cc
      fresh false e = (refl, e)

      or_false : (t : Bool) → (t || false) ≡ t
      or_false true = refl
      or_false false = refl

option_map-None : {X Y : Type 0} (f : X → Y) (o : Option X) → option_map f o ≡ None → o ≡ None
option_map-None f None h = refl
option_map-None f (Some x) h = absurd cc

no_repeat : (c : Cluster) → IsCase c → first_repeat same_id c.brokers ≡ None
unfolding case_fault broker_repeat
no_repeat c i = option_map-None _ (first_repeat same_id c.brokers) (option_or-None (broker_repeat c.brokers) _ (option_or-None _ _ i.faultless).1).0

same_action-refl : (a : Action) → same_action a a ≡ true
same_action-refl (Move p s t) = rw (eq-eqb p p refl, eq-eqb s s refl, eq-eqb t t refl) refl
same_action-refl (Lead p t) = rw (eq-eqb p p refl, eq-eqb t t refl) refl
same_action-refl (Swap p s r t) = rw (eq-eqb p p refl, eq-eqb s s refl, eq-eqb r r refl, eq-eqb t t refl) refl

pub action_once : (c : Cluster) (lists : Lists) → IsCase c → Belongs c lists → (a : Action) → is_legal c lists a ≡ true → count_by (same_action a) (all_actions c lists) ≡ 1
unfolding all_actions
action_once c lists i h a l =
    let once : (b : ℕ) → with_id b c.brokers ≤ 1 = λ b. omega (arith, ids_once [] c.brokers 0 b (no_repeat c i)) in
    omega (
      arith,
      count-Among (same_action a) (listed c lists h a l) (same_action-refl a),
      count-filter-le (same_action a) (is_legal c lists) (candidates c.brokers (length lists)),
      candidate_once c.brokers once (length lists) a,
    )
