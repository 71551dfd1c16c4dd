-- What brokers carry grows by one place, one list and one partition at a time.
use Rattle.std.proofs.Common.{◌≡◌, ◌∙◌, ℕ, ◌+◌, ◌*◌, ◌<◌, ◌≤◌, Bool, true, false, cond, eqb, List, [], ◌∷◌, ◌++◌, length, get_or, map, set, take, zero, suc, Some, position, refl, sym, ap, arith, inl, inr, mul-add, mul-one, mul-zero, slice_index}
use Rattle.std.specs.List.{All, count_by}
use Rattle.std.proofs.lemmas.Bool.{cases_eq, eq-eqb, eqb-true, ne_eqb}
use Rattle.std.proofs.lemmas.List.{get_or-map, get_or-set_other, get_or-set_same, length-map, length-set, length-take-le, take_more}
use Rattle.std.proofs.lemmas.Simd.{map-map}
use Rattle.std.proofs.lemmas.List.Sums.{sum_by_push}
use Rattle.std.proofs.lemmas.List.Quantifiers.{position-Some}
use Rattle.load_model.proofs.Listed.{position-map}
use Rattle.plan_terms.specs.Cluster.{Cluster, Lists, leads, id_at}
use Rattle.plan_terms.specs.Load.{list_load, sum_parts}
use Rattle.plan_terms.specs.declared.cluster.Broker.{Broker}
use Rattle.plan_terms.specs.declared.cluster.BrokerState.{BrokerState}
use Rattle.plan_terms.specs.declared.cluster.Part.{Part}
use Rattle.core_terms.specs.Shows.{broker_shown}
use Rattle.core_terms.specs.declared.shows.BrokerShown.{BrokerShown}
use Rattle.core_cases.specs.Carried.{IsWithin, idle, with_list, with_member, with_place}

-- a row of these numbers
abbrev row : ℕ → BrokerState → ℕ → ℕ → ℕ → ℕ → ℕ → ℕ → ℕ → BrokerShown
row id state a b c d e f g = record { broker = id; state = state; cpu = a; nw_in = b; nw_out = c; disk = d; potential_nw_out = e; replicas = f; leaders = g }

same_rows : (id : ℕ) (state : BrokerState) {a b c d e f g a' b' c' d' e' f' g' : ℕ} → a ≡ a' → b ≡ b' → c ≡ c' → d ≡ d' → e ≡ e' → f ≡ f' → g ≡ g'
    → row id state a b c d e f g ≡ row id state a' b' c' d' e' f' g'
same_rows id state h1 h2 h3 h4 h5 h6 h7 = cc

map_same : {X Y : Type 0} (f g : X → Y) → ((x : X) → f x ≡ g x) → (xs : List X) → map f xs ≡ map g xs
map_same f g h [] = refl
map_same f g h (x ∷ xs) = ap (λ y. y ∷ map f xs) (h x) ∙ ap (λ ys. g x ∷ ys) (map_same f g h xs)

module _ (f : Part → List ℕ → ℕ) where
  sum_parts-none : (ps : List Part) → 0 ≡ sum_parts f ps []
  sum_parts-none [] = refl
  sum_parts-none (p ∷ ps) = refl

  -- a list more, of the next partition
  sum_parts-push : (ps : List Part) (lists : Lists) (list : List ℕ) (d : Part) → length lists < length ps
      → sum_parts f ps (lists ++ list ∷ []) ≡ sum_parts f ps lists + f (get_or ps (length lists) d) list
  sum_parts-push [] lists list d h = absurd (omega arith)
  sum_parts-push (p ∷ ps) [] list d h = omega (arith, sum_parts-none ps)
  sum_parts-push (p ∷ ps) (l ∷ ls) list d h = omega (arith, sum_parts-push ps ls list d (omega arith))

-- brokers without lists carry nothing
pub rows-none : (c : Cluster) → (bs : List Broker) → map idle bs ≡ map (broker_shown c []) bs
rows-none c = map_same idle (broker_shown c []) (λ b.
    same_rows b.id b.state (sum_parts-none _ c.parts) (sum_parts-none _ c.parts) (sum_parts-none _ c.parts) (sum_parts-none _ c.parts) (sum_parts-none _ c.parts) refl refl)

-- a list more
row-more : (c : Cluster) (lists : Lists) (list : List ℕ) (d : Part) (b : Broker) → length lists < length c.parts
    → broker_shown c (lists ++ list ∷ []) b ≡ with_list (get_or c.parts (length lists) d) list (broker_shown c lists b)
row-more c lists list d b h =
    same_rows b.id b.state (sum_parts-push _ c.parts lists list d h) (sum_parts-push _ c.parts lists list d h) (sum_parts-push _ c.parts lists list d h) (sum_parts-push _ c.parts lists list d h)
    (sum_parts-push _ c.parts lists list d h) (sum_by_push (λ l. count_by (λ x. eqb x b.id) l) lists list) (sum_by_push (λ l. cond (leads l b.id) 1 0) lists list)

pub rows-more : (c : Cluster) (lists : Lists) (list : List ℕ) (d : Part) → length lists < length c.parts → (bs : List Broker)
    → map (broker_shown c (lists ++ list ∷ [])) bs ≡ map (with_list (get_or c.parts (length lists) d) list) (map (broker_shown c lists) bs)
rows-more c lists list d h [] = refl
rows-more c lists list d h (b ∷ bs) = ap (λ r. r ∷ map (broker_shown c (lists ++ list ∷ [])) bs) (row-more c lists list d b h) ∙ ap (λ rs. with_list (get_or c.parts (length lists) d) list (broker_shown c lists b) ∷ rs) (rows-more c lists list d h bs)

-- a place more of a list
module _ (lead follow b x : ℕ) where
  list_load-push : (list : List ℕ) → list_load lead follow b (list ++ x ∷ []) ≡ list_load lead follow b list + cond (eqb x b) (cond (eqb (length list) 0) lead follow) 0
  list_load-push [] = omega arith
  list_load-push (y ∷ ys) =
      ap (λ n. cond (eqb y b) lead 0 + follow * n) (sum_by_push (λ z. cond (eqb z b) 1 0) ys x) ∙ by (eqb x b)
      ∙ ap (λ t. cond (eqb y b) lead 0 + follow * count_by (λ z. eqb z b) ys + cond (eqb x b) (cond t lead follow) 0) (sym (ne_eqb (suc (length ys)) 0 (λ e. suc-zero e)))
    where
      suc-zero : suc (length ys) ≡ 0 → ⊥
      suc-zero e = omega arith

      by : (t : Bool) → cond (eqb y b) lead 0 + follow * (count_by (λ z. eqb z b) ys + cond t 1 0) ≡ cond (eqb y b) lead 0 + follow * count_by (λ z. eqb z b) ys + cond t follow 0
      by true = omega (arith, mul-add follow (count_by (λ z. eqb z b) ys) 1, mul-one follow)
      by false = omega (arith, mul-add follow (count_by (λ z. eqb z b) ys) 0, mul-zero follow)

leads-push : (b x : ℕ) (list : List ℕ) → cond (leads (list ++ x ∷ []) b) 1 0 ≡ cond (leads list b) 1 0 + cond (eqb x b) (cond (eqb (length list) 0) 1 0) 0
leads-push b x [] = by (eqb x b)
  where
    by : (t : Bool) → cond t 1 0 ≡ 0 + cond t 1 0
    by true = refl
    by false = refl
leads-push b x (y ∷ ys) =
    by (eqb x b) (cond (eqb y b) 1 0)
    ∙ ap (λ t. cond (eqb y b) 1 0 + cond (eqb x b) (cond t 1 0) 0) (sym (ne_eqb (suc (length ys)) 0 (λ e. suc-zero e)))
  where
    suc-zero : suc (length ys) ≡ 0 → ⊥
    suc-zero e = omega arith

    by : (t : Bool) (n : ℕ) → n ≡ n + cond t 0 0
    by true n = omega arith
    by false n = omega arith

times-push : (w b x : ℕ) (list : List ℕ) → w * count_by (λ z. eqb z b) (list ++ x ∷ []) ≡ w * count_by (λ z. eqb z b) list + cond (eqb x b) w 0
times-push w b x list = ap (λ n. w * n) (sum_by_push (λ z. cond (eqb z b) 1 0) list x) ∙ by (eqb x b)
  where
    by : (t : Bool) → w * (count_by (λ z. eqb z b) list + cond t 1 0) ≡ w * count_by (λ z. eqb z b) list + cond t w 0
    by true = omega (arith, mul-add w (count_by (λ z. eqb z b) list) 1, mul-one w)
    by false = omega (arith, mul-add w (count_by (λ z. eqb z b) list) 0, mul-zero w)

-- a row with what a test lets it have more
row_with : (t : Bool) (p : Part) (first : Bool) (s : BrokerShown)
    → row s.broker s.state (s.cpu + cond t (cond first (slice_index p.loads.lead 0) (slice_index p.loads.follow 0)) 0) (s.nw_in + cond t (cond first (slice_index p.loads.lead 1) (slice_index p.loads.follow 1)) 0)
    (s.nw_out + cond t (cond first (slice_index p.loads.lead 2) (slice_index p.loads.follow 2)) 0) (s.disk + cond t (cond first (slice_index p.loads.lead 3) (slice_index p.loads.follow 3)) 0)
    (s.potential_nw_out + cond t (slice_index p.loads.lead 2) 0) (s.replicas + cond t 1 0) (s.leaders + cond t (cond first 1 0) 0)
    ≡ cond t (with_place p first s) s
row_with true p first s = refl
row_with false p first s = same_rows s.broker s.state (omega arith) (omega arith) (omega arith) (omega arith) (omega arith) (omega arith) (omega arith)

with_list-push : (p : Part) (list : List ℕ) (x : ℕ) (s : BrokerShown) → with_list p (list ++ x ∷ []) s ≡ with_member p (eqb (length list) 0) x (with_list p list s)
with_list-push p list x s =
    same_rows s.broker s.state
    (plus s.cpu _ _ _ (list_load-push _ _ s.broker x list)) (plus s.nw_in _ _ _ (list_load-push _ _ s.broker x list)) (plus s.nw_out _ _ _ (list_load-push _ _ s.broker x list)) (plus s.disk _ _ _ (list_load-push _ _ s.broker x list))
    (plus s.potential_nw_out _ _ _ (times-push (slice_index p.loads.lead 2) s.broker x list)) (plus s.replicas _ _ _ (sum_by_push (λ z. cond (eqb z s.broker) 1 0) list x)) (plus s.leaders _ _ _ (leads-push s.broker x list))
    ∙ row_with (eqb x s.broker) p (eqb (length list) 0) (with_list p list s)
  where
    plus : (a : ℕ) (n m k : ℕ) → n ≡ m + k → a + n ≡ a + m + k
    plus a n m k e = omega (arith, e)

-- rows with no place of a list, and with one more
pub lists-none : (p : Part) (rows : List BrokerShown) → rows ≡ map (with_list p []) rows
lists-none p [] = refl
lists-none p (s ∷ rows) = ap (λ r. r ∷ rows) (none s) ∙ ap (λ rs. with_list p [] s ∷ rs) (lists-none p rows)
  where
    none : (s : BrokerShown) → s ≡ with_list p [] s
    none s = same_rows s.broker s.state (omega arith) (omega arith) (omega arith) (omega arith) (omega arith) (omega arith) (omega arith)

pub lists-more : (p : Part) (list : List ℕ) (i x : ℕ) (rows : List BrokerShown) → i < length list → x ≡ get_or list i 0
    → map (with_member p (eqb i 0) x) (map (with_list p (take i list)) rows) ≡ map (with_list p (take (i + 1) list)) rows
lists-more p list i x rows h is =
    let more : take (i + 1) list ≡ take i list ++ x ∷ [] = take_more list i 0 h ∙ ap (λ y. take i list ++ y ∷ []) (sym is) in
    let long : length (take i list) ≡ i = length-take-le i list (omega arith) in
    map-map (with_member p (eqb i 0) x) (with_list p (take i list)) rows
    ∙ map_same (λ s. with_member p (eqb i 0) x (with_list p (take i list) s)) (λ s. with_member p (eqb (length (take i list)) 0) x (with_list p (take i list) s)) (λ s. ap (λ n. with_member p (eqb n 0) x (with_list p (take i list) s)) (sym long)) rows
    ∙ map_same (λ s. with_member p (eqb (length (take i list)) 0) x (with_list p (take i list) s)) (with_list p (take i list ++ x ∷ [])) (λ s. sym (with_list-push p (take i list) x s)) rows
    ∙ ap (λ l. map (with_list p l) rows) (sym more)

-- members keep their ids
pub ids-with_list : (p : Part) (list : List ℕ) (rows : List BrokerShown) → map (λ s. s.broker) (map (with_list p list) rows) ≡ map (λ s. s.broker) rows
ids-with_list p list rows = map-map (λ (s : BrokerShown). s.broker) (with_list p list) rows

pub ids-shown : (c : Cluster) (lists : Lists) (bs : List Broker) → map (λ s. s.broker) (map (broker_shown c lists) bs) ≡ map (λ b. b.id) bs
ids-shown c lists bs = map-map (λ (s : BrokerShown). s.broker) (broker_shown c lists) bs

-- the one row that a test lets change
module _ {X : Type 0} (f : X → X) (test : X → Bool) where
  abbrev changed : X → X
  changed x = cond (test x) (f x) x

  none_changed : (xs : List X) → ((j : ℕ) (d : X) → j < length xs → test (get_or xs j d) ≡ false) → xs ≡ map changed xs
  none_changed [] h = refl
  none_changed (x ∷ xs) h =
      ap (λ t. cond t (f x) x ∷ xs) (sym (h 0 x (omega arith))) ∙ ap (λ ys. changed x ∷ ys) (none_changed xs (λ j d l. h (suc j) d (omega arith)))

  one_changed : (xs : List X) (k : ℕ) (x : X) → k < length xs → x ≡ get_or xs k x → test x ≡ true → ((j : ℕ) (d : X) → j < length xs → (j ≡ k → ⊥) → test (get_or xs j d) ≡ false)
      → set xs k (f x) ≡ map changed xs
  one_changed [] k x l is here others = absurd (omega arith)
  one_changed (y ∷ ys) zero x l is here others =
      ap (λ z. f z ∷ ys) is ∙ ap (λ t. cond t (f y) y ∷ ys) (sym (ap test (sym is) ∙ here)) ∙ ap (λ zs. changed y ∷ zs) (none_changed ys (λ j d m. others (suc j) d (omega arith) (λ e. ne j e)))
    where
      ne : (j : ℕ) → suc j ≡ 0 → ⊥
      ne j e = omega arith
  one_changed (y ∷ ys) (suc k) x l is here others =
      ap (λ z. z ∷ set ys k (f x)) (ap (λ t. cond t (f y) y) (sym (others 0 y (omega arith) (λ e. ne e))))
      ∙ ap (λ zs. changed y ∷ zs) (one_changed ys k x (omega arith) is here (λ j d m n. others (suc j) d (omega arith) (λ e. n (omega arith))))
    where
      ne : 0 ≡ suc k → ⊥
      ne e = omega arith

module _ (bs : List Broker) (rows : List BrokerShown) (id : ℕ) (ids : map (λ s. s.broker) rows ≡ map (λ b. b.id) bs) where
  long : length rows ≡ length bs
  long = sym (length-map rows (λ (s : BrokerShown). s.broker)) ∙ ap length ids ∙ length-map bs (λ (b : Broker). b.id)

  id-at : (j : ℕ) (d : BrokerShown) → j < length rows → (get_or rows j d).broker ≡ id_at bs j
  id-at j d l = sym (get_or-map (λ (s : BrokerShown). s.broker) rows j d 0 l) ∙ ap (λ xs. get_or xs j 0) ids

  -- no broker has the id
  pub no_member : (p : Part) (first : Bool) → ((j : ℕ) → j < length bs → id_at bs j ≡ id → ⊥) → rows ≡ map (with_member p first id) rows
  no_member p first none = none_changed (with_place p first) (λ s. eqb id s.broker) rows (λ j d l. ne_eqb id _ (λ e. none j (omega (arith, long)) (sym (id-at j d l) ∙ sym e)))

  -- the broker at one place has it
  pub one_member : (p : Part) (first : Bool) (k : ℕ) (s new : BrokerShown) → Some k ≡ position (λ b. eqb b.id id) bs → ((j : ℕ) → j < length bs → id_at bs j ≡ id → Some k ≡ Some j)
      → s ≡ get_or rows k s → new ≡ with_place p first s → (k < length rows) × (set rows k new ≡ map (with_member p first id) rows)
  one_member p first k s new found only is more =
      let at = placed-at-id k found in
      let within : k < length rows = omega (arith, long, at.0) in
      let here : eqb id s.broker ≡ true = eq-eqb id s.broker (sym (ap (λ (r : BrokerShown). r.broker) is ∙ id-at k s within ∙ at.1)) in (
        within,
        ap (set rows k) more ∙ one_changed (with_place p first) (λ r. eqb id r.broker) rows k s within is here
            (λ j d l n. ne_eqb id _ (λ e. n (place_is (only j (omega (arith, long)) (sym (id-at j d l) ∙ sym e))))),
      )
    where
      place_is : {m n : ℕ} → Some m ≡ Some n → n ≡ m
      place_is e = cc

      placed-at-id : (k : ℕ) → Some k ≡ position (λ b. eqb b.id id) bs → (k < length bs) × (id_at bs k ≡ id)
      placed-at-id k h =
          let at = position-Some (λ x. eqb x id) (map (λ b. b.id) bs) k 0 (position-map (λ x. eqb x id) (λ (b : Broker). b.id) bs ∙ sym h) in
          (rw (length-map bs (λ (b : Broker). b.id)) at at.0, eqb-true _ id at.1)

-- bounds: more places can carry more
pub within-more : (m n : ℕ) (rows : List BrokerShown) → m ≤ n → All (IsWithin m) rows → All (IsWithin n) rows
within-more m n rows h all = λ k d l. let w = all k d l in record {
  cpu = omega (arith, w.cpu);
  nw_in = omega (arith, w.nw_in);
  nw_out = omega (arith, w.nw_out);
  disk = omega (arith, w.disk);
  potential = omega (arith, w.potential);
  replicas = omega (arith, w.replicas);
  leaders = omega (arith, w.leaders);
}

pub within-set : (n : ℕ) (rows : List BrokerShown) (i : ℕ) (new : BrokerShown) → All (IsWithin n) rows → IsWithin n new → All (IsWithin n) (set rows i new)
within-set n rows i new all h = λ k d l. let m : k < length rows = rw (length-set rows i new) at l in
    elim (cases_eq k i) as (λ _. IsWithin n (get_or (set rows i new) k d)) [
      | inl e ↦ rw e (rw (get_or-set_same rows i new d (rw e at m)) h)
      | inr ne ↦ rw (get_or-set_other rows i k new d ne) (all k d m)
    ]

-- brokers without lists
pub none-within : (c : Cluster) (bs : List Broker) → All (IsWithin 0) (map (broker_shown c []) bs)
none-within c bs = rw (← rows-none c bs) (all bs)
  where
    all : (bs : List Broker) (k : ℕ) (d : BrokerShown) → k < length (map idle bs) → IsWithin 0 (get_or (map idle bs) k d)
    all [] k d l = absurd (omega arith)
    all (b ∷ bs) zero d l = record {
      cpu = omega arith;
      nw_in = omega arith;
      nw_out = omega arith;
      disk = omega arith;
      potential = omega arith;
      replicas = omega arith;
      leaders = omega arith;
    }
    all (b ∷ bs) (suc k) d l = all bs k d (omega arith)
