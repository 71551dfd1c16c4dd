-- The least of places, found one after another.
use Rattle.std.proofs.Common.{◌≡◌, ◌∙◌, ◌⊎◌, inl, inr, ℕ, zero, suc, ◌+◌, ◌<◌, ◌≤◌, Bool, true, false, not, ◌&&◌, ◌||◌, cond, List, [], ◌∷◌, length, get_or, refl, sym, ap, arith, zero-add, add-one}
use Rattle.std.specs.Prelude.{Option, Some, None, MatchOption, option_map, find}
use Rattle.std.specs.List.{list_any, range_with_len}
use Rattle.std.proofs.lemmas.List.FromFn.{get_or-range_with_len, length-range_with_len}
use Rattle.std.proofs.lemmas.Bool.{true≢false, false≢true, cases_lt, and_from, and_left, and_right}
use Rattle.std.proofs.lemmas.Bool.Decides.{nat_tests}
use Rattle.plan_terms.specs.Cluster.{Cluster, Lists, id_at}
use Rattle.plan_terms.specs.declared.cluster.Broker.{Broker}
use Rattle.plan_terms.specs.declared.cluster.BrokerState.TheVariants.{Dead}
use Rattle.std.proofs.lemmas.List.{get_or-map}
use Rattle.plan_terms.specs.Load.{count}
use Rattle.factor_change.specs.Choice.{is_less, may_join, shares_rack, precedes, is_least, next_member, joins_at, precedes_at, IsFirstLeast}
use Rattle.factor_change.specs.Best.{IsBest, place_of}
use Rattle.factor_change.specs.declared.choice.Best.{Best}

-- the order of pairs
pub less_trans : (a b c : Bool) (m n o : ℕ) → is_less a m b n ≡ true → is_less b n c o ≡ true → is_less a m c o ≡ true
less_trans false false false m n o h k = grind (arith, nat_tests)
less_trans false false true m n o h k = refl
less_trans false true false m n o h k = absurd (false≢true k)
less_trans false true true m n o h k = refl
less_trans true false c m n o h k = absurd (false≢true h)
less_trans true true false m n o h k = absurd (false≢true k)
less_trans true true true m n o h k = grind (arith, nat_tests)

-- one that isn't less than another, which is less than a third
pub less_by : (a b c : Bool) (m n o : ℕ) → is_less a m b n ≡ true → is_less c o b n ≡ false → is_less a m c o ≡ true
less_by false false false m n o h k = grind (arith, nat_tests)
less_by false false true m n o h k = refl
less_by false true false m n o h k = absurd (true≢false k)
less_by false true true m n o h k = refl
less_by true false c m n o h k = absurd (false≢true h)
less_by true true false m n o h k = absurd (true≢false k)
less_by true true true m n o h k = grind (arith, nat_tests)

pub less_never : (a : Bool) (m : ℕ) → is_less a m a m ≡ false
less_never false m = grind (arith, nat_tests)
less_never true m = grind (arith, nat_tests)

-- the order of brokers
module _ (c : Cluster) (lists : Lists) (list : List ℕ) where
  pub precedes_trans : (i j k : ℕ) → precedes_at c lists list i j ≡ true → precedes_at c lists list j k ≡ true → precedes_at c lists list i k ≡ true
  unfolding precedes
  precedes_trans i j k = less_trans (shares_rack c list (id_at c.brokers i)) (shares_rack c list (id_at c.brokers j)) (shares_rack c list (id_at c.brokers k)) (count (id_at c.brokers i) lists) (count (id_at c.brokers j) lists) (count (id_at c.brokers k) lists)

  pub precedes_by : (i j k : ℕ) → precedes_at c lists list i j ≡ true → precedes_at c lists list k j ≡ false → precedes_at c lists list i k ≡ true
  unfolding precedes
  precedes_by i j k = less_by (shares_rack c list (id_at c.brokers i)) (shares_rack c list (id_at c.brokers j)) (shares_rack c list (id_at c.brokers k)) (count (id_at c.brokers i) lists) (count (id_at c.brokers j) lists) (count (id_at c.brokers k) lists)

  pub precedes_never : (i : ℕ) → precedes_at c lists list i i ≡ false
  unfolding precedes
  precedes_never i = less_never (shares_rack c list (id_at c.brokers i)) (count (id_at c.brokers i) lists)

-- a place more
module _ (passes : ℕ → Bool) (less : ℕ → ℕ → Bool) (trans : (i j k : ℕ) → less i j ≡ true → less j k ≡ true → less i k ≡ true)
    (by : (i j k : ℕ) → less i j ≡ true → less k j ≡ false → less i k ≡ true) (never : (i : ℕ) → less i i ≡ false) where
  below : (n k : ℕ) → k < n + 1 → (k < n) ⊎ (k ≡ n)
  below n k l = at (cases_lt k n) where
    at : (k < n) ⊎ (n ≤ k) → (k < n) ⊎ (k ≡ n)
    at (inl m) = inl m
    at (inr m) = inr (omega (arith, l, m))

  -- it doesn't pass
  pub least_same : (n : ℕ) (o : Option ℕ) → passes n ≡ false → IsFirstLeast passes less n o → IsFirstLeast passes less (n + 1) o
  least_same n None off h = λ k l. at k (below n k l) where
    at : (k : ℕ) → (k < n) ⊎ (k ≡ n) → passes k ≡ false
    at k (inl m) = h k m
    at k (inr e) = rw e off
  least_same n (Some i) off h = (omega (arith, h.0), h.1, (λ k l p. at k p (below n k l)), h.3) where
    at : (k : ℕ) → passes k ≡ true → (k < n) ⊎ (k ≡ n) → less k i ≡ false
    at k p (inl m) = h.2 k m p
    at k p (inr e) = absurd (true≢false (sym p ∙ ap passes e ∙ off))

  -- it passes, and isn't less
  pub least_kept : (n i : ℕ) → less n i ≡ false → IsFirstLeast passes less n (Some i) → IsFirstLeast passes less (n + 1) (Some i)
  least_kept n i off h = (omega (arith, h.0), h.1, (λ k l p. at k p (below n k l)), h.3) where
    at : (k : ℕ) → passes k ≡ true → (k < n) ⊎ (k ≡ n) → less k i ≡ false
    at k p (inl m) = h.2 k m p
    at k p (inr e) = ap (λ (x : ℕ). less x i) e ∙ off

  not_both : (i k n : ℕ) → less n i ≡ true → less k i ≡ false → (b : Bool) → less k n ≡ b → b ≡ false
  not_both i k n on off true e = absurd (true≢false (sym (trans k n i e on) ∙ off))
  not_both i k n on off false e = refl

  -- it passes, and is less
  pub least_new : (n i : ℕ) → passes n ≡ true → less n i ≡ true → IsFirstLeast passes less n (Some i) → IsFirstLeast passes less (n + 1) (Some n)
  least_new n i is on h = (omega arith, is, (λ k l p. at k p (below n k l)), (λ k l p. by n i k on (h.2 k l p))) where
    at : (k : ℕ) → passes k ≡ true → (k < n) ⊎ (k ≡ n) → less k n ≡ false
    at k p (inl m) = not_both i k n on (h.2 k m p) (less k n) refl
    at k p (inr e) = ap (λ (x : ℕ). less x n) e ∙ never n

  -- the first that passes
  pub least_first : (n : ℕ) → passes n ≡ true → IsFirstLeast passes less n None → IsFirstLeast passes less (n + 1) (Some n)
  least_first n is h = (omega arith, is, (λ k l p. at k p (below n k l)), (λ k l p. absurd (true≢false (sym p ∙ h k l)))) where
    at : (k : ℕ) → passes k ≡ true → (k < n) ⊎ (k ≡ n) → less k n ≡ false
    at k p (inl m) = absurd (true≢false (sym p ∙ h k m))
    at k p (inr e) = ap (λ (x : ℕ). less x n) e ∙ never n

-- the first of a list that passes
module _ {X : Type 0} (p : X → Bool) (d : X) where
  pub find_at : (xs : List X) (i : ℕ) → i < length xs → p (get_or xs i d) ≡ true → ((k : ℕ) → k < i → p (get_or xs k d) ≡ false) → find p xs ≡ Some (get_or xs i d)
  find_at [] i l is before = absurd (omega arith)
  find_at (x ∷ xs) zero l is before = ap (λ b. cond b (Some x) (find p xs)) is
  find_at (x ∷ xs) (suc i) l is before = ap (λ b. cond b (Some x) (find p xs)) (before 0 (omega arith)) ∙ find_at xs i (omega (arith, l)) is (λ k m. before (suc k) (omega (arith, m)))

  pub find_none : (xs : List X) → ((k : ℕ) → k < length xs → p (get_or xs k d) ≡ false) → find p xs ≡ None
  find_none [] h = refl
  find_none (x ∷ xs) h = ap (λ b. cond b (Some x) (find p xs)) (h 0 (omega arith)) ∙ find_none xs (λ k m. h (suc k) (omega (arith, m)))

  pub any_none : (xs : List X) → ((k : ℕ) → k < length xs → p (get_or xs k d) ≡ false) → list_any p xs ≡ false
  any_none [] h = refl
  any_none (x ∷ xs) h = ap (λ b. b || list_any p xs) (h 0 (omega arith)) ∙ any_none xs (λ k m. h (suc k) (omega (arith, m)))

  pub any_at : (xs : List X) (k : ℕ) → k < length xs → p (get_or xs k d) ≡ true → list_any p xs ≡ true
  any_at [] k l is = absurd (omega arith)
  any_at (x ∷ xs) zero l is = ap (λ b. b || list_any p xs) is
  any_at (x ∷ xs) (suc k) l is = by (p x) (any_at xs k (omega (arith, l)) is) where
    by : (b : Bool) → list_any p xs ≡ true → (b || list_any p xs) ≡ true
    by true e = refl
    by false e = e

-- the first place below n that passes
module _ (p : ℕ → Bool) (n : ℕ) where
  at_place : (k : ℕ) → k < n → get_or (range_with_len 0 n) k 0 ≡ k
  at_place k l = get_or-range_with_len 0 n k 0 l ∙ zero-add k

  pub first_place : (k : ℕ) → k < n → p k ≡ true → ((j : ℕ) → j < k → p j ≡ false) → find p (range_with_len 0 n) ≡ Some k
  first_place k l is before =
      find_at p 0 (range_with_len 0 n) k (omega (arith, l, length-range_with_len 0 n)) (ap p (at_place k l) ∙ is) (λ j m. ap p (at_place j (omega (arith, m, l))) ∙ before j m)
      ∙ ap Some (at_place k l)

  pub no_place : ((j : ℕ) → j < n → p j ≡ false) → find p (range_with_len 0 n) ≡ None
  no_place h = find_none p 0 (range_with_len 0 n) (λ k m. let l : k < n = omega (arith, m, length-range_with_len 0 n) in ap p (at_place k l) ∙ h k l)

-- the place that was found is that of the broker that is to become a member
abbrev pub no_broker : Broker
no_broker = record { id = 0; rack = None; cap = []; state = Dead }

module _ (c : Cluster) (lists : Lists) (list : List ℕ) where
  abbrev at : ℕ → Broker
  at k = get_or c.brokers k no_broker

  joins_is : (k : ℕ) → k < length c.brokers → may_join list (at k) ≡ joins_at c list k
  joins_is k l = sym (get_or-map (may_join list) c.brokers k no_broker false l)

  id_is : (k : ℕ) → k < length c.brokers → (at k).id ≡ id_at c.brokers k
  id_is k l = sym (get_or-map (λ (b : Broker). b.id) c.brokers k no_broker 0 l)

  precedes_is : (j k : ℕ) → j < length c.brokers → k < length c.brokers → precedes c lists list (at j).id (at k).id ≡ precedes_at c lists list j k
  precedes_is j k l m = ap (λ (x : ℕ). precedes c lists list x (at k).id) (id_is j l) ∙ ap (λ (x : ℕ). precedes c lists list (id_at c.brokers j) x) (id_is k m)

  abbrev beats : Broker → Broker → Bool
  beats b a = may_join list a && precedes c lists list a.id b.id

  pub least_is : (o : Option ℕ) → IsFirstLeast (joins_at c list) (precedes_at c lists list) (length c.brokers) o → option_map (id_at c.brokers) o ≡ next_member c lists list
  unfolding next_member
  least_is None h = sym (ap (option_map (λ (b : Broker). b.id)) (find_none (is_least c lists list) no_broker c.brokers (λ k l. and_left (may_join list (at k)) _ (joins_is k l ∙ h k l))))
  least_is (Some i) h =
      ap Some (sym (id_is i h.0)) ∙ sym (ap (option_map (λ (b : Broker). b.id)) (find_at (is_least c lists list) no_broker c.brokers i h.0 here before))
    where
      unbeaten : (k : ℕ) → k < length c.brokers → (v : Bool) → may_join list (at k) ≡ v → beats (at i) (at k) ≡ false
      unbeaten k l true e = ap (λ (v : Bool). v && precedes c lists list (at k).id (at i).id) e ∙ precedes_is k i l h.0 ∙ h.2 k l (sym (joins_is k l) ∙ e)
      unbeaten k l false e = ap (λ (v : Bool). v && precedes c lists list (at k).id (at i).id) e

      here : is_least c lists list (at i) ≡ true
      here = and_from (may_join list (at i)) (not (list_any (beats (at i)) c.brokers)) (joins_is i h.0 ∙ h.1)
          (ap not (any_none (beats (at i)) no_broker c.brokers (λ k l. unbeaten k l (may_join list (at k)) refl)))

      beaten : (k : ℕ) → k < i → (v : Bool) → may_join list (at k) ≡ v → is_least c lists list (at k) ≡ false
      beaten k l false e = and_left (may_join list (at k)) _ e
      beaten k l true e =
          let m : k < length c.brokers = omega (arith, l, h.0) in
          and_right (may_join list (at k)) (not (list_any (beats (at k)) c.brokers))
          (ap not (any_at (beats (at k)) no_broker c.brokers i h.0
          (and_from (may_join list (at i)) (precedes c lists list (at i).id (at k).id) (joins_is i h.0 ∙ h.1) (precedes_is i k h.0 m ∙ h.3 k l (sym (joins_is k m) ∙ e)))))

      before : (k : ℕ) → k < i → is_least c lists list (at k) ≡ false
      before k l = beaten k l (may_join list (at k)) refl

-- a place more, over brokers
module _ (c : Cluster) (lists : Lists) (list : List ℕ) where
  pub joins_of : (k : ℕ) (x : Broker) → k < length c.brokers → x ≡ get_or c.brokers k x → joins_at c list k ≡ may_join list x
  joins_of k x l e = get_or-map (may_join list) c.brokers k x false l ∙ ap (may_join list) (sym e)

  pub same_least : (n : ℕ) (o : Option ℕ) → joins_at c list n ≡ false → IsFirstLeast (joins_at c list) (precedes_at c lists list) n o → IsFirstLeast (joins_at c list) (precedes_at c lists list) (n + 1) o
  same_least = least_same (joins_at c list) (precedes_at c lists list) (precedes_trans c lists list) (precedes_by c lists list) (precedes_never c lists list)

  pub kept_least : (n i : ℕ) → precedes_at c lists list n i ≡ false → IsFirstLeast (joins_at c list) (precedes_at c lists list) n (Some i) → IsFirstLeast (joins_at c list) (precedes_at c lists list) (n + 1) (Some i)
  kept_least = least_kept (joins_at c list) (precedes_at c lists list) (precedes_trans c lists list) (precedes_by c lists list) (precedes_never c lists list)

  pub new_least : (n i : ℕ) → joins_at c list n ≡ true → precedes_at c lists list n i ≡ true → IsFirstLeast (joins_at c list) (precedes_at c lists list) n (Some i) → IsFirstLeast (joins_at c list) (precedes_at c lists list) (n + 1) (Some n)
  new_least = least_new (joins_at c list) (precedes_at c lists list) (precedes_trans c lists list) (precedes_by c lists list) (precedes_never c lists list)

  pub first_least : (n : ℕ) → joins_at c list n ≡ true → IsFirstLeast (joins_at c list) (precedes_at c lists list) n None → IsFirstLeast (joins_at c list) (precedes_at c lists list) (n + 1) (Some n)
  first_least = least_first (joins_at c list) (precedes_at c lists list) (precedes_trans c lists list) (precedes_by c lists list) (precedes_never c lists list)

  -- by the candidate at the place
  pub more_first : (n : ℕ) (o : Option Best) → MatchOption o (joins_at c list n ≡ false) (λ b. (b.place ≡ n) × IsBest c list b × (joins_at c list n ≡ true))
      → IsFirstLeast (joins_at c list) (precedes_at c lists list) n None → IsFirstLeast (joins_at c list) (precedes_at c lists list) (n + 1) (place_of o)
  more_first n None m h = same_least n None m h
  more_first n (Some b) m h = rw m.0 (first_least n m.2 h)

  pub more_new : (n i : ℕ) (b : Best) → (b.place ≡ n) × IsBest c list b × (joins_at c list n ≡ true) → precedes_at c lists list n i ≡ true
      → IsFirstLeast (joins_at c list) (precedes_at c lists list) n (Some i) → IsFirstLeast (joins_at c list) (precedes_at c lists list) (n + 1) (Some b.place)
  more_new n i b m less h = rw m.0 (new_least n i m.2 less h)

-- there is a least one, where any passes
module _ (passes : ℕ → Bool) (less : ℕ → ℕ → Bool) (trans : (i j k : ℕ) → less i j ≡ true → less j k ≡ true → less i k ≡ true)
    (by : (i j k : ℕ) → less i j ≡ true → less k j ≡ false → less i k ≡ true) (never : (i : ℕ) → less i i ≡ false) where
  next_least : (n : ℕ) (o : Option ℕ) → IsFirstLeast passes less n o → (v : Bool) → passes n ≡ v → (p : Option ℕ) × IsFirstLeast passes less (n + 1) p
  next_least n o h false e = (o, least_same passes less trans by never n o e h)
  next_least n None h true e = (Some n, least_first passes less trans by never n e h)
  next_least n (Some i) h true e = which (less n i) refl where
    which : (w : Bool) → less n i ≡ w → (p : Option ℕ) × IsFirstLeast passes less (n + 1) p
    which true q = (Some n, least_new passes less trans by never n i e q h)
    which false q = (Some i, least_kept passes less trans by never n i q h)

  pub least_exists : (n : ℕ) → (o : Option ℕ) × IsFirstLeast passes less n o
  least_exists zero = (None, λ k l. absurd (omega (arith, l)))
  least_exists (suc n) = let t = least_exists n in let r = next_least n t.0 t.1 (passes n) refl in (r.0, rw (add-one n) at r.1)
