-- The table of numbers of replicas, after a broker became a member.
use Rattle.std.proofs.Common.{◌≡◌, ◌∙◌, ℕ, zero, suc, ◌+◌, ◌<◌, Bool, List, [], ◌∷◌, ◌++◌, map, length, get_or, set, refl, sym, ap, arith}
use Rattle.std.specs.Prelude.{◌==◌, cond}
use Rattle.std.specs.List.{count_by}
use Rattle.std.proofs.lemmas.Bool.{eq-eqb, ne_eqb}
use Rattle.std.proofs.lemmas.List.{get_or-map}
use Rattle.std.proofs.lemmas.List.Sums.{sum_by-append, sum_by-cons}
use Rattle.load_model.proofs.Ids.{ids-once}
use Rattle.plan_terms.specs.Cluster.{Cluster, Lists, id_at, list_of}
use Rattle.plan_terms.specs.Load.{count}
use Rattle.plan_terms.specs.declared.cluster.Broker.{Broker}
use Rattle.factor_change.specs.Kept.{IsDraft}
use Rattle.factor_change.proofs.Keeps.{IsFit, belongs_set, count_set}
use Rattle.factor_change.proofs.Least.{no_broker}

-- a table of values, with another one at the only place where they differ
module _ {X : Type 0} (f g : X → ℕ) (d : X) where
  same_map : (xs : List X) → ((j : ℕ) → j < length xs → g (get_or xs j d) ≡ f (get_or xs j d)) → map g xs ≡ map f xs
  same_map [] h = refl
  same_map (x ∷ xs) h = ap (λ (n : ℕ). n ∷ map g xs) (h 0 (omega arith)) ∙ ap (λ (ns : List ℕ). f x ∷ ns) (same_map xs (λ j l. h (suc j) (omega (arith, l))))

  set_map : (xs : List X) (k n : ℕ) → k < length xs → n ≡ g (get_or xs k d) → ((j : ℕ) → j < length xs → (j ≡ k → ⊥) → g (get_or xs j d) ≡ f (get_or xs j d)) → set (map f xs) k n ≡ map g xs
  set_map [] k n l e h = absurd (omega (arith, l))
  set_map (x ∷ xs) zero n l e h = ap (λ (m : ℕ). m ∷ map f xs) e ∙ ap (λ (ns : List ℕ). g x ∷ ns) (sym (same_map xs (λ j m. h (suc j) (omega (arith, m)) (λ q. absurd (omega (arith, q))))))
  set_map (x ∷ xs) (suc k) n l e h =
      ap (λ (m : ℕ). m ∷ set (map f xs) k n) (sym (h 0 (omega arith) (λ q. absurd (omega (arith, q)))))
      ∙ ap (λ (ns : List ℕ). g x ∷ ns) (set_map xs k n (omega (arith, l)) e (λ j m q. h (suc j) (omega (arith, m)) (λ r. q (omega (arith, r)))))

joined_count : (b y : ℕ) (list : List ℕ) → count_by (λ x. x == y) (list ++ b ∷ []) ≡ count_by (λ x. x == y) list + cond (b == y) 1 0
joined_count b y list = omega (arith, sum_by-append (λ (x : ℕ). cond (x == y) 1 0) list (b ∷ []), sum_by-cons (λ (x : ℕ). cond (x == y) 1 0) b [])

module _ (c : Cluster) (lists : Lists) (counts : List ℕ) (p k d b : ℕ) (list new : List ℕ) (h : IsDraft c lists counts) (part : p < length lists) (place : k < length c.brokers) (id : b ≡ id_at c.brokers k) (is : list ≡ list_of lists p) (made : new ≡ list ++ b ∷ []) where
  count_joined : (y : ℕ) → count y (set lists p new) ≡ count y lists + cond (b == y) 1 0
  count_joined y =
      let now : count_by (λ x. x == y) new ≡ count_by (λ x. x == y) (list_of lists p) + cond (b == y) 1 0 = rw made (rw (sym is) (joined_count b y list)) in
      omega (arith, count_set y lists p new part, now)

  at : ℕ → Broker
  at j = get_or c.brokers j no_broker

  id_is : (j : ℕ) → j < length c.brokers → (at j).id ≡ id_at c.brokers j
  unfolding at
  id_is j l = sym (get_or-map (λ (x : Broker). x.id) c.brokers j no_broker 0 l)

  here : d ≡ get_or counts k d → d + 1 ≡ count (at k).id (set lists p new)
  unfolding at
  here e =
      let was : d ≡ count (at k).id lists = e ∙ ap (λ (ns : List ℕ). get_or ns k d) h.counted ∙ get_or-map (λ (x : Broker). count x.id lists) c.brokers k no_broker d place in
      let hit : cond (b == (at k).id) 1 0 ≡ 1 = ap {B = ℕ} (λ (v : Bool). cond v 1 0) (eq-eqb b (at k).id (id ∙ sym (id_is k place))) in
      omega (arith, was, hit, count_joined (at k).id)

  elsewhere : (j : ℕ) → j < length c.brokers → (j ≡ k → ⊥) → count (at j).id (set lists p new) ≡ count (at j).id lists
  elsewhere j l apart =
      let miss : cond (b == (at j).id) 1 0 ≡ 0 = ap {B = ℕ} (λ (v : Bool). cond v 1 0) (ne_eqb b (at j).id (λ e. apart (ids-once c h.case j k l place (sym (id_is j l) ∙ (sym e ∙ id))))) in
      omega (arith, miss, count_joined (at j).id)

  pub draft_joined : IsFit c new → d ≡ get_or counts k d → IsDraft c (set lists p new) (set counts k (d + 1))
  unfolding at
  draft_joined fit e = record {
    case = h.case;
    belongs = belongs_set c lists p new h.belongs fit.replicas fit.known;
    counted = ap (λ (ns : List ℕ). set ns k (d + 1)) h.counted ∙ set_map (λ (x : Broker). count x.id lists) (λ (x : Broker). count x.id (set lists p new)) no_broker c.brokers k (d + 1) place (here e) elsewhere;
  }
