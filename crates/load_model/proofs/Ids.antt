-- Ids of which none repeats another stand at one place each.
use Rattle.std.proofs.Common.{◌≡◌, ◌∙◌, ℕ, ◌<◌, Bool, true, false, cond, eqb, List, [], ◌∷◌, ◌++◌, length, get_or, map, suc, zero, Option, Some, None, refl, sym, ap, arith, position, nat_lt, not, option_map, subst, lt_irrefl, ◌+◌}
use Rattle.std.specs.List.{list_any, position_or_len}
use Rattle.std.proofs.lemmas.Bool.{eq-eqb, eqb-true, false≢true, lt-ltb, ne_eqb}
use Rattle.std.proofs.lemmas.List.Quantifiers.{position-Some}
use Rattle.std.proofs.lemmas.List.{length-map}
use Rattle.std.proofs.lemmas.List.Folds.{list_any-append}
use Rattle.plan_terms.specs.Faults.{repeat_from, first_repeat, case_fault, broker_repeat, same_id, IsCase}
use Rattle.plan_terms.specs.Cluster.{Cluster, id_at}
use Rattle.plan_terms.proofs.FaultLemmas.{option_or-None}
use Rattle.plan_terms.specs.declared.cluster.Broker.{Broker}
use Rattle.load_model.proofs.Listed.{or_parts, position-map}
use Rattle.load_model.proofs.Repetition.{first_repeat-map}

-- no repetition from here on
clear : (seen : List ℕ) (n y : ℕ) (ys : List ℕ) → repeat_from eqb seen n (y ∷ ys) ≡ None → (list_any (eqb y) seen ≡ false) × (repeat_from eqb (seen ++ y ∷ []) (suc n) ys ≡ None)
clear seen n y ys h =
    elim (list_any (eqb y) seen) as (λ b. cond b (Some n) (repeat_from eqb (seen ++ y ∷ []) (suc n) ys) ≡ None → (b ≡ false) × (repeat_from eqb (seen ++ y ∷ []) (suc n) ys ≡ None)) [
      | true ↦ λ e. absurd cc
      | false ↦ λ e. (refl, e)
    ] h

unseen : (seen : List ℕ) (n : ℕ) (xs : List ℕ) (i : ℕ) → repeat_from eqb seen n xs ≡ None → i < length xs → list_any (eqb (get_or xs i 0)) seen ≡ false
unseen seen n [] i h l = absurd (omega arith)
unseen seen n (y ∷ ys) zero h l = (clear seen n y ys h).0
unseen seen n (y ∷ ys) (suc i) h l =
    let later = unseen (seen ++ y ∷ []) (suc n) ys i (clear seen n y ys h).1 (omega arith) in
    (or_parts _ _ (sym (list_any-append (eqb (get_or ys i 0)) seen (y ∷ [])) ∙ later)).0

-- the first is none of the later ones
not_again : (seen : List ℕ) (n y : ℕ) (ys : List ℕ) (i : ℕ) → repeat_from eqb seen n (y ∷ ys) ≡ None → i < length ys → y ≡ get_or ys i 0 → ⊥
not_again seen n y ys i h l e =
    let later = unseen (seen ++ y ∷ []) (suc n) ys i (clear seen n y ys h).1 l in
    let apart = (or_parts _ _ (or_parts _ _ (sym (list_any-append (eqb (get_or ys i 0)) seen (y ∷ [])) ∙ later)).1).0 in
    false≢true (sym apart ∙ eq-eqb (get_or ys i 0) y (sym e))

once-from : (seen : List ℕ) (n : ℕ) (xs : List ℕ) → repeat_from eqb seen n xs ≡ None → (i j : ℕ) → i < length xs → j < length xs → get_or xs i 0 ≡ get_or xs j 0 → i ≡ j
once-from seen n [] h i j l m e = absurd (omega arith)
once-from seen n (y ∷ ys) h zero zero l m e = refl
once-from seen n (y ∷ ys) h zero (suc j) l m e = absurd (not_again seen n y ys j h (omega arith) e)
once-from seen n (y ∷ ys) h (suc i) zero l m e = absurd (not_again seen n y ys i h (omega arith) (sym e))
once-from seen n (y ∷ ys) h (suc i) (suc j) l m e = ap suc (once-from (seen ++ y ∷ []) (suc n) ys (clear seen n y ys h).1 i j (omega arith) (omega arith) e)

none_from : {X Y : Type 0} (f : X → Y) (o : Option X) → option_map f o ≡ None → o ≡ None
none_from f None h = refl
none_from f (Some x) h = absurd cc

no_repeat : (c : Cluster) → IsCase c → first_repeat same_id c.brokers ≡ None
unfolding case_fault broker_repeat
no_repeat c h = none_from _ (first_repeat same_id c.brokers) (option_or-None _ _ (option_or-None _ _ h.faultless).1).0

-- no two places have the same id
pub ids-once : (c : Cluster) → IsCase c → (i j : ℕ) → i < length c.brokers → j < length c.brokers → id_at c.brokers i ≡ id_at c.brokers j → i ≡ j
ids-once c h i j l m e =
    let none = first_repeat-map eqb (λ (b : Broker). b.id) c.brokers ∙ no_repeat c h in
    once-from [] 0 (map (λ b. b.id) c.brokers) none i j (rw (length-map c.brokers (λ (b : Broker). b.id)) l) (rw (length-map c.brokers (λ (b : Broker). b.id)) m) e

-- the first place that passes is found
module _ {X : Type 0} (p : X → Bool) where
  first_place : (xs : List X) (k : ℕ) (d : X) → k < length xs → p (get_or xs k d) ≡ true → ((j : ℕ) → j < k → p (get_or xs j d) ≡ false) → position_or_len p xs ≡ k
  first_place [] k d l here before = absurd (omega arith)
  first_place (x ∷ xs) zero d l here before = ap (λ b. cond (not b) (1 + position_or_len p xs) 0) here
  first_place (x ∷ xs) (suc k) d l here before =
      ap (λ b. cond (not b) (1 + position_or_len p xs) 0) (before 0 (omega arith)) ∙ omega (arith, first_place xs k d (omega arith) here (λ j m. before (suc j) (omega arith)))

  position-first : (xs : List X) (k : ℕ) (d : X) → k < length xs → p (get_or xs k d) ≡ true → ((j : ℕ) → j < k → p (get_or xs j d) ≡ false) → position p xs ≡ Some k
  position-first xs k d l here before =
      ap (λ n. cond (nat_lt n (length xs)) (Some n) None) (first_place xs k d l here before) ∙ ap (λ b. cond b (Some k) None) (lt-ltb k (length xs) l)

-- the only place of an id is the first
pub place-only : (c : Cluster) (id : ℕ) → IsCase c → (k : ℕ) → k < length c.brokers → id_at c.brokers k ≡ id → position (λ b. eqb b.id id) c.brokers ≡ Some k
place-only c id h k l e =
    let long = length-map c.brokers (λ (b : Broker). b.id) in
    sym (position-map (λ x. eqb x id) (λ (b : Broker). b.id) c.brokers)
    ∙ position-first (λ x. eqb x id) (map (λ b. b.id) c.brokers) k 0 (rw long l) (eq-eqb _ id e)
    (λ j m. ne_eqb _ id (λ same. lt_irrefl _ (subst (λ i. i < k) (ids-once c h j k (omega arith) l (same ∙ sym e)) m)))

-- the place that is found has the id
pub placed-at : (c : Cluster) (id k : ℕ) → Some k ≡ position (λ b. eqb b.id id) c.brokers → (k < length c.brokers) × (id_at c.brokers k ≡ id)
placed-at c id k h =
    let at = position-Some (λ x. eqb x id) (map (λ b. b.id) c.brokers) k 0 (position-map (λ x. eqb x id) (λ (b : Broker). b.id) c.brokers ∙ sym h) in
    (rw (length-map c.brokers (λ (b : Broker). b.id)) at at.0, eqb-true _ id at.1)

pub same_place : (k n : ℕ) → Some n ≡ Some k → k ≡ n
same_place k n h = cc
