-- The leases that are out, where one is given or ends.
use Rattle.std.proofs.Common.{◌≡◌, ℕ, ◌+◌, ◌-◌, ◌<◌, ◌≤◌, false, cond, List, [], ◌∷◌, ◌++◌, set, length, get_or, replicate, arith, refl, sym, ap, ◌∙◌, ◌⊎◌, inl, inr, zero, suc, Some, None, position}
use Rattle.std.specs.Prelude.{Option, is_some}
use Rattle.std.specs.List.{position_or_len, count_by, remove}
use Rattle.std.proofs.lemmas.Bool.{cases_eq, cases_lt, eq-eqb, ne_eqb, lt-ltb, le-ltb}
use Rattle.std.proofs.lemmas.Option.{none-some, same_Some}
use Rattle.std.proofs.lemmas.List.{get_or_past, get_or_append_left, get_or_push, length_push, get_or-set_same, get_or-set_other, get_or-replicate, length-replicate}
use Rattle.std.proofs.lemmas.List.Edits.{length-remove, get_or-remove_below, get_or-remove_above}
use Rattle.std.proofs.lemmas.List.Sums.{sum_by-set, sum_by-cons, position_or_len_is}
use Rattle.task_index.specs.Leases.{is_number, lease_at, IsFiled, AreOut}

abbrev one : Option ℕ → ℕ
one o = cond (is_some o) 1 0

-- no task has a lease
none_counted : (n : ℕ) → count_by is_some (replicate {A = Option ℕ} n None) ≡ 0
none_counted zero = refl
none_counted (suc n) = omega (arith, sum_by-cons one None (replicate {A = Option ℕ} n None), none_counted n)

none_at : (n i : ℕ) → lease_at (replicate n None) i ≡ None
none_at n i = by (cases_lt i n) where
  by : (i < n) ⊎ (n ≤ i) → lease_at (replicate n None) i ≡ None
  by (inl h) = get_or-replicate n i None None h
  by (inr h) = get_or_past (replicate n None) i None (omega (arith, length-replicate {A = Option ℕ} n None))

pub out-none : (n : ℕ) → AreOut (replicate n None) [] []
out-none n = record {
  same = refl;
  rising = λ a b _ within. absurd (omega arith);
  each = λ a within. absurd (omega arith);
  all = λ i m is. absurd (none-some m (sym (none_at n i) ∙ is));
  count = sym (none_counted n);
}

other-number : (lease : Option ℕ) (n : ℕ) → (lease ≡ Some n → ⊥) → is_number n lease ≡ false
other-number None n h = refl
other-number (Some m) n h = ne_eqb m n (λ e. h (ap Some e))

module _ (leases : List (Option ℕ)) (numbers holders : List ℕ) (o : AreOut leases numbers holders) where
  -- a number stands once
  once : (a b : ℕ) → a < length numbers → b < length numbers → get_or numbers a 0 ≡ get_or numbers b 0 → a ≡ b
  once a b la lb same = by (cases_lt a b) (cases_lt b a) where
    by : (a < b) ⊎ (b ≤ a) → (b < a) ⊎ (a ≤ b) → a ≡ b
    by (inl less) c = absurd (omega (arith, o.rising a b less lb))
    by (inr more) (inl less) = absurd (omega (arith, o.rising b a less la))
    by (inr more) (inr over) = omega arith

  known : (i n : ℕ) → lease_at leases i ≡ Some n → i < length leases
  known i n is = by (cases_lt i (length leases)) where
    by : (i < length leases) ⊎ (length leases ≤ i) → i < length leases
    by (inl h) = h
    by (inr h) = absurd (none-some n (sym (get_or_past leases i None h) ∙ is))

  pub holder-known : (a : ℕ) → a < length numbers → get_or holders a 0 < length leases
  holder-known a la = known (get_or holders a 0) (get_or numbers a 0) (o.each a la)

  -- there is room for one more lease, where a task has none
  pub room : (i : ℕ) → i < length leases → lease_at leases i ≡ None → length numbers < length leases
  room i within free = rw o.count (fewer leases i within free) where
    fewer : (xs : List (Option ℕ)) (k : ℕ) → k < length xs → lease_at xs k ≡ None → count_by is_some xs < length xs
    fewer [] k l e = absurd (omega arith)
    fewer (x ∷ xs) zero l e = omega (arith, sum_by-cons one x xs, all_count xs, ap one e) where
      all_count : (ys : List (Option ℕ)) → count_by is_some ys ≤ length ys
      all_count [] = omega arith
      all_count (None ∷ ys) = omega (arith, sum_by-cons one None ys, all_count ys)
      all_count (Some y ∷ ys) = omega (arith, sum_by-cons one (Some y) ys, all_count ys)
    fewer (None ∷ xs) (suc k) l e = omega (arith, sum_by-cons one None xs, fewer xs k (omega arith) e)
    fewer (Some x ∷ xs) (suc k) l e = omega (arith, sum_by-cons one (Some x) xs, fewer xs k (omega arith) e)

  -- a lease is given
  pub out-lent : (i n : ℕ) → i < length leases → lease_at leases i ≡ None → ((j m : ℕ) → lease_at leases j ≡ Some m → m < n)
      → AreOut (set leases i (Some n)) (numbers ++ n ∷ []) (holders ++ i ∷ [])
  out-lent i n within free above = record {
    same = rw (length_push, length_push) (ap (λ (k : ℕ). k + 1) o.same);
    rising = λ a b less lb. rising a b less (omega (arith, length_push numbers n)) (cases_lt b (length numbers));
    each = λ a la. each a (omega (arith, length_push numbers n)) (cases_lt a (length numbers));
    all = λ j m is. all j m is (cases_eq j i);
    count = omega (arith, length_push numbers n, o.count, sum_by-set one leases i (Some n) None within, ap one free);
  } where
    number-old : (a : ℕ) → a < length numbers → get_or (numbers ++ n ∷ []) a 0 ≡ get_or numbers a 0
    number-old a la = get_or_append_left numbers (n ∷ []) 0 a la

    holder-old : (a : ℕ) → a < length numbers → get_or (holders ++ i ∷ []) a 0 ≡ get_or holders a 0
    holder-old a la = get_or_append_left holders (i ∷ []) 0 a (omega (arith, o.same))

    number-new : (a : ℕ) → a ≡ length numbers → get_or (numbers ++ n ∷ []) a 0 ≡ n
    number-new a e = get_or_push numbers n 0 a (sym e)

    holder-new : (a : ℕ) → a ≡ length numbers → get_or (holders ++ i ∷ []) a 0 ≡ i
    holder-new a e = get_or_push holders i 0 a (o.same ∙ sym e)

    rising : (a b : ℕ) → a < b → b < length numbers + 1 → (b < length numbers) ⊎ (length numbers ≤ b) → get_or (numbers ++ n ∷ []) a 0 < get_or (numbers ++ n ∷ []) b 0
    rising a b less lb (inl inside) = rw (number-old a (omega arith), number-old b inside) (o.rising a b less inside)
    rising a b less lb (inr outside) = rw (number-old a (omega arith), number-new b (omega arith)) (above (get_or holders a 0) (get_or numbers a 0) (o.each a (omega arith)))

    each : (a : ℕ) → a < length numbers + 1 → (a < length numbers) ⊎ (length numbers ≤ a) → lease_at (set leases i (Some n)) (get_or (holders ++ i ∷ []) a 0) ≡ Some (get_or (numbers ++ n ∷ []) a 0)
    each a la (inl inside) =
        let other : get_or holders a 0 ≡ i → ⊥ = λ e. none-some (get_or numbers a 0) (sym (ap (lease_at leases) e ∙ free) ∙ o.each a inside) in
        rw (number-old a inside, holder-old a inside) (get_or-set_other leases i (get_or holders a 0) (Some n) None other ∙ o.each a inside)
    each a la (inr outside) = rw (number-new a (omega arith), holder-new a (omega arith)) (get_or-set_same leases i (Some n) None within)

    all : (j m : ℕ) → lease_at (set leases i (Some n)) j ≡ Some m → (j ≡ i) ⊎ (j ≡ i → ⊥) → IsFiled (numbers ++ n ∷ []) (holders ++ i ∷ []) j m
    all j m is (inl same) = record {
      place = length numbers;
      within = omega (arith, length_push numbers n);
      number = number-new (length numbers) refl ∙ same_Some n m (sym (get_or-set_same leases i (Some n) None within) ∙ ap (lease_at (set leases i (Some n))) (sym same) ∙ is);
      holder = holder-new (length numbers) refl ∙ sym same;
    }
    all j m is (inr other) =
        let f = o.all j m (sym (get_or-set_other leases i j (Some n) None other) ∙ is) in
        record {
          place = f.place;
          within = omega (arith, length_push numbers n, f.within);
          number = number-old f.place f.within ∙ f.number;
          holder = holder-old f.place f.within ∙ f.holder;
        }

  -- a lease ends, which stands at a place of the numbers
  pub out-ended : (i n place : ℕ) → lease_at leases i ≡ Some n → place < length numbers → get_or numbers place 0 ≡ n → AreOut (set leases i None) (remove numbers place) (remove holders place)
  out-ended i n place has within at = record {
    same = omega (arith, length-remove numbers place within, length-remove holders place within', o.same);
    rising = λ a b less lb. rising a b less (omega (arith, length-remove numbers place within)) (cases_lt a place) (cases_lt b place);
    each = λ a la. each a (omega (arith, length-remove numbers place within)) (cases_lt a place);
    all = λ j m is. all j m is (cases_eq j i);
    count = omega (arith, length-remove numbers place within, o.count, sum_by-set one leases i None None (known i n has), ap one has);
  } where
    within' : place < length holders
    within' = omega (arith, o.same)

    f : IsFiled numbers holders i n
    f = o.all i n has

    here : f.place ≡ place
    here = once f.place place f.within within (f.number ∙ sym at)

    -- no other place has the task
    apart : (a : ℕ) → a < length numbers → (a ≡ place → ⊥) → get_or holders a 0 ≡ i → ⊥
    apart a la other is = other (once a place la within (same_Some (get_or numbers a 0) n (sym (o.each a la) ∙ ap (lease_at leases) is ∙ has) ∙ sym at))

    left : (a : ℕ) → a < length numbers → (a ≡ place → ⊥) → lease_at (set leases i None) (get_or holders a 0) ≡ Some (get_or numbers a 0)
    left a la other = get_or-set_other leases i (get_or holders a 0) None None (apart a la other) ∙ o.each a la

    rising : (a b : ℕ) → a < b → b + 1 < length numbers → (a < place) ⊎ (place ≤ a) → (b < place) ⊎ (place ≤ b) → get_or (remove numbers place) a 0 < get_or (remove numbers place) b 0
    rising a b less lb (inl before) (inl before') = rw (get_or-remove_below numbers place 0 a before within, get_or-remove_below numbers place 0 b before' within) (o.rising a b less (omega arith))
    rising a b less lb (inl before) (inr after) = rw (get_or-remove_below numbers place 0 a before within, get_or-remove_above numbers place 0 b after within) (o.rising a (b + 1) (omega arith) lb)
    rising a b less lb (inr after) (inl before) = absurd (omega arith)
    rising a b less lb (inr after) (inr after') = rw (get_or-remove_above numbers place 0 a after within, get_or-remove_above numbers place 0 b after' within) (o.rising (a + 1) (b + 1) (omega arith) lb)

    each : (a : ℕ) → a + 1 < length numbers → (a < place) ⊎ (place ≤ a) → lease_at (set leases i None) (get_or (remove holders place) a 0) ≡ Some (get_or (remove numbers place) a 0)
    each a la (inl before) = rw (get_or-remove_below numbers place 0 a before within, get_or-remove_below holders place 0 a before within') (left a (omega arith) (λ e. omega arith))
    each a la (inr after) = rw (get_or-remove_above numbers place 0 a after within, get_or-remove_above holders place 0 a after within') (left (a + 1) la (λ e. omega arith))

    moved : (j m : ℕ) (g : IsFiled numbers holders j m) → (g.place ≡ place → ⊥) → (g.place < place) ⊎ (place ≤ g.place) → IsFiled (remove numbers place) (remove holders place) j m
    moved j m g other (inl before) = record {
      place = g.place;
      within = omega (arith, length-remove numbers place within, g.within);
      number = get_or-remove_below numbers place 0 g.place before within ∙ g.number;
      holder = get_or-remove_below holders place 0 g.place before within' ∙ g.holder;
    }
    moved j m g other (inr after) =
        let next : g.place - 1 + 1 ≡ g.place = by in
        record {
          place = g.place - 1;
          within = omega (arith, length-remove numbers place within, g.within, next);
          number = get_or-remove_above numbers place 0 (g.place - 1) over within ∙ ap (λ (a : ℕ). get_or numbers a 0) next ∙ g.number;
          holder = get_or-remove_above holders place 0 (g.place - 1) over within' ∙ ap (λ (a : ℕ). get_or holders a 0) next ∙ g.holder;
        } where
          more : place < g.place
          more = strict (cases_eq g.place place) where
            strict : (g.place ≡ place) ⊎ (g.place ≡ place → ⊥) → place < g.place
            strict (inl same) = absurd (other same)
            strict (inr apart') = omega arith

          by : g.place - 1 + 1 ≡ g.place
          by = omega (arith, more)

          over : place ≤ g.place - 1
          over = omega (arith, more)

    all : (j m : ℕ) → lease_at (set leases i None) j ≡ Some m → (j ≡ i) ⊎ (j ≡ i → ⊥) → IsFiled (remove numbers place) (remove holders place) j m
    all j m is (inl same) = absurd (none-some m (sym (get_or-set_same leases i None None (known i n has)) ∙ ap (lease_at (set leases i None)) (sym same) ∙ is))
    all j m is (inr other) =
        let g : IsFiled numbers holders j m = o.all j m (sym (get_or-set_other leases i j None None other) ∙ is) in
        moved j m g (λ e. other (sym g.holder ∙ ap (λ (a : ℕ). get_or holders a 0) (e ∙ sym here) ∙ f.holder)) (cases_lt g.place place)

  -- a lease that stands at a place is found there
  pub holder-found : (n place : ℕ) → place < length numbers → get_or numbers place 0 ≡ n → Some (get_or holders place 0) ≡ position (is_number n) leases
  holder-found n place within at = rw (first, lt-ltb _ _ (known i n is)) refl where
    i : ℕ
    i = get_or holders place 0

    is : lease_at leases i ≡ Some n
    is = o.each place within ∙ ap Some at

    one-task : (k : ℕ) → lease_at leases k ≡ Some n → k ≡ i
    one-task k is' = let g : IsFiled numbers holders k n = o.all k n is' in sym g.holder ∙ ap (λ (a : ℕ). get_or holders a 0) (once g.place place g.within within (g.number ∙ sym at))

    first : position_or_len (is_number n) leases ≡ i
    first = position_or_len_is (is_number n) leases i None (omega (arith, known i n is)) (λ k less. other-number (lease_at leases k) n (λ is'. omega (arith, one-task k is'))) (λ _. ap (is_number n) is ∙ eq-eqb n n refl)

  pub holder-none : (n : ℕ) → ((a : ℕ) → a < length numbers → get_or numbers a 0 ≡ n → ⊥) → None ≡ position (is_number n) leases
  holder-none n none =
      let down : (k : ℕ) → is_number n (lease_at leases k) ≡ false = λ k. other-number (lease_at leases k) n (λ is. let g : IsFiled numbers holders k n = o.all k n is in none g.place g.within g.number) in
      let at : position_or_len (is_number n) leases ≡ length leases = position_or_len_is (is_number n) leases (length leases) None (omega arith) (λ k _. down k) (λ l. absurd (omega arith)) in
      rw (le-ltb (position_or_len (is_number n) leases) (length leases) (omega arith)) refl

-- what bisection finds
pub searchable : (numbers : List ℕ) → ((a b : ℕ) → a < b → b < length numbers → get_or numbers a 0 < get_or numbers b 0) → (i j : ℕ) → i ≤ j → j < length numbers → get_or numbers i 0 ≤ get_or numbers j 0
searchable numbers up i j le within = by (cases_eq i j) where
  by : (i ≡ j) ⊎ (i ≡ j → ⊥) → get_or numbers i 0 ≤ get_or numbers j 0
  by (inl same) = rw same (omega arith)
  by (inr other) = omega (arith, up i j (omega arith) within)

pub not-found : (numbers : List ℕ) (n at : ℕ) → ((k : ℕ) → k < at → get_or numbers k 0 < n) → ((k : ℕ) → at ≤ k → k < length numbers → n < get_or numbers k 0) → (a : ℕ) → a < length numbers → get_or numbers a 0 ≡ n → ⊥
not-found numbers n at low high a within is = by (cases_lt a at) where
  by : (a < at) ⊎ (at ≤ a) → ⊥
  by (inl less) = omega (arith, low a less)
  by (inr over) = omega (arith, high a over within)
