-- A broker's rack is among the members' racks where it is a member, or its rack is one of theirs.
use Rattle.std.proofs.Common.{◌≡◌, ◌∙◌, ◌⊎◌, inl, inr, ℕ, ◌<◌, ◌≤◌, Bool, true, false, not, ◌||◌, List, [], ◌∷◌, map, length, get_or, refl, sym, ap, arith}
use Rattle.std.specs.Prelude.{◌==◌, cond, nat_lt, Option, option_map}
use Rattle.std.specs.List.{list_any}
use Rattle.std.proofs.lemmas.List.{get_or-map, get_or_default, length-map}
use Rattle.std.proofs.lemmas.Bool.{cases_eq, eq-eqb, ne_eqb}
use Rattle.std.proofs.lemmas.Bool.Decides.{nat_tests}
use Rattle.plan_terms.specs.Cluster.{Cluster, Lists, has, id_at}
use Rattle.plan_terms.specs.Racks.{equal_racks, rack_of, same_rack}
use Rattle.plan_terms.specs.Load.{count}
use Rattle.plan_terms.specs.declared.cluster.Broker.{Broker}
use Rattle.factor_change.specs.Choice.{counts_of, is_less, precedes, precedes_at, shares_rack}
use Rattle.factor_change.proofs.Least.{no_broker}

same_both : (m n : ℕ) → (m == n) ≡ (n == m)
same_both m n = by (cases_eq m n) where
  by : (m ≡ n) ⊎ (m ≡ n → ⊥) → (m == n) ≡ (n == m)
  by (inl e) = eq-eqb m n e ∙ sym (eq-eqb n m (sym e))
  by (inr h) = ne_eqb m n h ∙ sym (ne_eqb n m (λ e. h (sym e)))

module _ (c : Cluster) (b : ℕ) where
  racks_share : (list : List ℕ) → (has list b || list_any (equal_racks (rack_of c b)) (map (rack_of c) list)) ≡ shares_rack c list b
  unfolding same_rack
  racks_share [] = refl
  racks_share (x ∷ xs) = rw (← racks_share xs) (by (x == b) (b == x) (same_both x b) (has xs b) (equal_racks (rack_of c b) (rack_of c x)) (list_any (equal_racks (rack_of c b)) (map (rack_of c) xs))) where
    by : (u v : Bool) → u ≡ v → (h e r : Bool) → ((u || h) || (e || r)) ≡ (cond v true e || (h || r))
    by true true q h e r = refl
    by true false q h e r = absurd cc
    by false true q h e r = absurd cc
    by false false q true true r = refl
    by false false q true false r = refl
    by false false q false e r = refl

module _ {B : Type 0} (seen : B → List ℕ) where
  any_seen : (q : Option (List ℕ)) (racks : List (Option B)) → list_any (λ r. equal_racks q (option_map seen r)) racks ≡ list_any (equal_racks q) (map (option_map seen) racks)
  any_seen q [] = refl
  any_seen q (r ∷ racks) = ap (λ (v : Bool). equal_racks q (option_map seen r) || v) (any_seen q racks)

  pub shares_by_racks : (c : Cluster) (list : List ℕ) (b : ℕ) (q : Option (List ℕ)) (racks : List (Option B)) → q ≡ rack_of c b → map (option_map seen) racks ≡ map (rack_of c) list
      → (has list b || list_any (λ r. equal_racks q (option_map seen r)) racks) ≡ shares_rack c list b
  shares_by_racks c list b q racks e h = rw (any_seen q racks, h, e) (racks_share c b list)

-- where racks are compared only as far as the numbers of replicas leave it open
pub fewer_shared : (s o : Bool) (m n : ℕ) → o ≡ true → m < n → nat_lt m n ≡ is_less s m o n
fewer_shared true true m n e f = refl
fewer_shared false true m n e f = grind (arith, nat_tests)
fewer_shared s false m n e f = absurd cc

pub no_fewer_shared : (s o : Bool) (m n : ℕ) → o ≡ true → n ≤ m → not s ≡ is_less s m o n
no_fewer_shared true true m n e f = grind (arith, nat_tests)
no_fewer_shared false true m n e f = refl
no_fewer_shared s false m n e f = absurd cc

pub fewer_apart : (s o : Bool) (m n : ℕ) → o ≡ false → m < n → not s ≡ is_less s m o n
fewer_apart true false m n e f = refl
fewer_apart false false m n e f = grind (arith, nat_tests)
fewer_apart s true m n e f = absurd cc

pub no_fewer_apart : (s o : Bool) (m n : ℕ) → o ≡ false → n ≤ m → nat_lt m n ≡ is_less s m o n
no_fewer_apart true false m n e f = grind (arith, nat_tests)
no_fewer_apart false false m n e f = refl
no_fewer_apart s true m n e f = absurd cc

pub id_there : (c : Cluster) (k : ℕ) (d : Broker) → k < length c.brokers → (get_or c.brokers k d).id ≡ id_at c.brokers k
id_there c k d l = sym (get_or-map (λ (b : Broker). b.id) c.brokers k d 0 l)

-- which of two brokers is rather to become a member, by the numbers in the table
module _ (c : Cluster) (lists : Lists) (list : List ℕ) where
  count_at : (k : ℕ) → k < length c.brokers → get_or (counts_of c lists) k 0 ≡ count (id_at c.brokers k) lists
  count_at k l =
      get_or-map (λ (b : Broker). count b.id lists) c.brokers k no_broker 0 l
      ∙ ap (λ (x : ℕ). count x lists) (sym (get_or-map (λ (b : Broker). b.id) c.brokers k no_broker 0 l))

  counts_long : length (counts_of c lists) ≡ length c.brokers
  counts_long = length-map c.brokers (λ (b : Broker). count b.id lists)

  pub precedes_by_table : (i j m n : ℕ) → i < length c.brokers → j < length c.brokers → m ≡ get_or (counts_of c lists) i m → n ≡ get_or (counts_of c lists) j n
      → is_less (shares_rack c list (id_at c.brokers i)) m (shares_rack c list (id_at c.brokers j)) n ≡ precedes_at c lists list i j
  unfolding precedes
  precedes_by_table i j m n l k e f =
      let first : m ≡ count (id_at c.brokers i) lists = e ∙ get_or_default (counts_of c lists) i m 0 (rw counts_long l) ∙ count_at i l in
      let second : n ≡ count (id_at c.brokers j) lists = f ∙ get_or_default (counts_of c lists) j n 0 (rw counts_long k) ∙ count_at j k in
      rw (first, second) refl
