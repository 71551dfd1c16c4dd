-- What is computed from the tallies is what the samples say.
use Rattle.std.proofs.Common.{◌≡◌, ◌∙◌, ℕ, suc, zero, ◌+◌, ◌-◌, ◌/◌, ◌<◌, ◌≤◌, Bool, true, false, cond, ◌&&◌, ◌||◌, nat_lt, nat_le, List, [], ◌∷◌, ◌++◌, length, Option, Some, None, is_some, sym, ap, refl, arith, add-zero, zero-add, add-one}
use Rattle.std.specs.List.{filter, filter_map, range_with_len, count_by}
use Rattle.std.specs.List.{cons_option}
use Rattle.std.proofs.lemmas.Bool.Decides.{nat_tests}
use Rattle.std.proofs.lemmas.List.{append-nil}
use Rattle.std.proofs.lemmas.List.Elements.{filter-append, filter_map-append}
use Rattle.std.proofs.lemmas.List.Sums.{sum_by_from, sum_by_push}
use Rattle.plan_terms.specs.declared.cluster.Loads.{Loads}
use Rattle.metric_windows.specs.declared.tally.Tally.{Tally}
use Rattle.metric_windows.specs.Averages.{mean_of}
use Rattle.metric_windows.specs.Samples.{is_past, is_kept, oldest_kept, kept_windows, has_neighbours, half, samples_in, adjacent_value, window_value, values, enough_mean, load_of, coverage}
use Rattle.plan_terms.specs.declared.settings.WindowRules.{WindowRules}
use Rattle.plan_terms.specs.declared.settings.Sample.{Sample}
use Rattle.metric_windows.specs.Tables.{Tables, mean, joined, with_some, tally_in, tally_of, value_by, value_in, values_in}
use Rattle.metric_windows.specs.StandsFor.{StandsFor}
use Rattle.metric_windows.proofs.Numbers.{lt_from_test, no_le_from_lt, no_lt, test_lt, le_test}
use Rattle.metric_windows.proofs.Sums.{tally-push, tally-append}

either_half : (least n : ℕ) → 1 ≤ least → (nat_le least n || nat_le ((least + 1) / 2) n) ≡ nat_le ((least + 1) / 2) n
either_half least n some = let h : (least + 1) / 2 ≤ least = omega arith in grind (arith, nat_tests)

mean-three : (B H A : List Loads) → mean (joined (joined (tally_of B) (tally_of H)) (tally_of A)) ≡ mean_of (B ++ H ++ A)
mean-three B H A = ap mean (ap (λ y. joined y (tally_of A)) (sym (tally-append B H)) ∙ sym (tally-append (B ++ H) A))

-- the value by tallies is that by samples
value_by-samples : (rules : WindowRules) (nb : Bool) (B H A : List Loads) → 1 ≤ rules.least → value_by rules nb (tally_of B) (tally_of H) (tally_of A) ≡ cond (nat_le rules.least (length H) || nat_le (half rules) (length H)) (Some (mean_of H)) (adjacent_value rules nb B H A)
unfolding value_by
value_by-samples rules nb B H A some =
    ap (λ b. cond b (Some (mean_of H)) (cond (nb && (nat_le rules.least (length B) && nat_le rules.least (length A))) (Some (mean (joined (joined (tally_of B) (tally_of H)) (tally_of A)))) None)) (sym (either_half rules.least (length H) some))
    ∙ ap (λ m. cond (nat_le rules.least (length H) || nat_le (half rules) (length H)) (Some (mean_of H)) (cond (nb && (nat_le rules.least (length B) && nat_le rules.least (length A))) (Some m) None)) (mean-three B H A)

-- the neighbours don't count where they aren't kept
value_by-alone : (rules : WindowRules) (h b a c d : Tally) → value_by rules false b h a ≡ value_by rules false c h d
unfolding value_by
value_by-alone rules h b a c d = refl

and_first : (a b : Bool) → (a && b) ≡ true → a ≡ true
and_first true b h = refl
and_first false b h = absurd (cc)

and_second : (a b : Bool) → (a && b) ≡ true → b ≡ true
and_second true b h = h
and_second false b h = absurd (cc)

kept_open : (rules : WindowRules) (o : Option ℕ) (i : ℕ) → is_kept rules o i ≡ true → is_past rules o i ≡ false
kept_open rules None i h = refl
kept_open rules (Some n) i h = no_le_from_lt (i + rules.keep) n (lt_from_test n (i + rules.keep) (and_first (nat_lt n (i + rules.keep)) (nat_le i n) h))

module _ (t : Tables) (samples : List Sample) (some : 1 ≤ t.rules.least) (stands : StandsFor t samples) (p : ℕ) (known : p < t.parts) where
  tally_is : (i : ℕ) → is_kept t.rules t.newest i ≡ true → tally_in t p i ≡ tally_of (samples_in t.rules samples p i)
  tally_is i h = stands.tallies p i known (kept_open t.rules t.newest i h)

  -- the value where it is known whether the neighbours are kept
  value_with : (i : ℕ) (nb : Bool) → has_neighbours t.rules t.newest i ≡ nb → is_kept t.rules t.newest i ≡ true → value_by t.rules nb (tally_in t p (i - 1)) (tally_in t p i) (tally_in t p (i + 1)) ≡ value_by t.rules nb (tally_of (samples_in t.rules samples p (i - 1))) (tally_of (samples_in t.rules samples p i)) (tally_of (samples_in t.rules samples p (i + 1)))
  value_with i true e h =
      let near = and_second (nat_lt 0 i) (is_kept t.rules t.newest (i - 1) && is_kept t.rules t.newest (i + 1)) e in
      let before = tally_is (i - 1) (and_first (is_kept t.rules t.newest (i - 1)) (is_kept t.rules t.newest (i + 1)) near) in
      let after = tally_is (i + 1) (and_second (is_kept t.rules t.newest (i - 1)) (is_kept t.rules t.newest (i + 1)) near) in
      let here = tally_is i h in
      cc
  value_with i false e h =
      ap (λ y. value_by t.rules false (tally_in t p (i - 1)) y (tally_in t p (i + 1))) (tally_is i h)
      ∙ value_by-alone t.rules (tally_of (samples_in t.rules samples p i)) (tally_in t p (i - 1)) (tally_in t p (i + 1)) (tally_of (samples_in t.rules samples p (i - 1))) (tally_of (samples_in t.rules samples p (i + 1)))

  value_in-is : (i : ℕ) → is_kept t.rules t.newest i ≡ true → value_in t p i ≡ window_value t.rules samples p i
  unfolding window_value
  value_in-is i h =
      value_with i (has_neighbours t.rules t.newest i) refl h
      ∙ value_by-samples t.rules (has_neighbours t.rules t.newest i) (samples_in t.rules samples p (i - 1)) (samples_in t.rules samples p i) (samples_in t.rules samples p (i + 1)) some
      ∙ ap (λ o. cond (nat_le t.rules.least (length (samples_in t.rules samples p i)) || nat_le (half t.rules) (length (samples_in t.rules samples p i))) (Some (mean_of (samples_in t.rules samples p i))) (adjacent_value t.rules (has_neighbours t.rules o i) (samples_in t.rules samples p (i - 1)) (samples_in t.rules samples p i) (samples_in t.rules samples p (i + 1)))) stands.newest_is

filter_map-same : (f g : ℕ → Option Loads) (q : ℕ → Bool) → ((i : ℕ) → q i ≡ true → f i ≡ g i) → (xs : List ℕ) → filter_map f (filter q xs) ≡ filter_map g (filter q xs)
filter_map-same f g q h [] = refl
filter_map-same f g q h (x ∷ xs) = next_same f g x (filter q xs) (q x) (h x) (filter_map-same f g q h xs)
  where
    next_same : (f g : ℕ → Option Loads) (x : ℕ) (rest : List ℕ) (b : Bool) → (b ≡ true → f x ≡ g x) → filter_map f rest ≡ filter_map g rest → filter_map f (cond b (x ∷ rest) rest) ≡ filter_map g (cond b (x ∷ rest) rest)
    next_same f g x rest true h e = let k = h refl in cc
    next_same f g x rest false h e = e

kept_windows-same : (f g : ℕ → Option Loads) (rules : WindowRules) (o : Option ℕ) → ((i : ℕ) → is_kept rules o i ≡ true → f i ≡ g i) → filter_map f (kept_windows rules o) ≡ filter_map g (kept_windows rules o)
unfolding kept_windows
kept_windows-same f g rules None h = refl
kept_windows-same f g rules (Some n) h = filter_map-same f g (is_kept rules (Some n)) h (range_with_len 0 (n + 1))

-- the values of the kept windows
pub values_in-samples : (t : Tables) (samples : List Sample) → 1 ≤ t.rules.least → StandsFor t samples → (p : ℕ) → p < t.parts → values_in t p ≡ values t.rules samples p
unfolding values_in values
values_in-samples t samples some stands p known =
    kept_windows-same (value_in t p) (window_value t.rules samples p) t.rules t.newest (value_in-is t samples some stands p known)
    ∙ ap (λ o. filter_map (window_value t.rules samples p) (kept_windows t.rules o)) stands.newest_is

pub load_in-samples : (t : Tables) (samples : List Sample) → 1 ≤ t.rules.least → StandsFor t samples → (p : ℕ) → p < t.parts → enough_mean t.rules.need (values_in t p) ≡ load_of t.rules samples p
load_in-samples t samples some stands p known = ap (enough_mean t.rules.need) (values_in-samples t samples some stands p known)

-- ranges of windows
pub range-more : (a k : ℕ) → range_with_len a (suc k) ≡ range_with_len a k ++ (a + k) ∷ []
range-more a zero = ap (λ x. x ∷ []) (sym (add-zero a))
range-more a (suc k) = ap (λ xs. a ∷ xs) (range-more (a + 1) k ∙ ap (λ x. range_with_len (a + 1) k ++ x ∷ []) (omega arith))

range-append : (c a b : ℕ) → range_with_len c (a + b) ≡ range_with_len c a ++ range_with_len (c + a) b
range-append c zero b = ap (λ x. range_with_len c x) (zero-add b) ∙ ap (λ x. range_with_len x b) (sym (add-zero c))
range-append c (suc a) b =
    let one : suc a + b ≡ suc (a + b) = omega arith in
    let on : c + 1 + a ≡ c + suc a = omega arith in
    ap (λ x. range_with_len c x) one ∙ ap (λ xs. c ∷ xs) (range-append (c + 1) a b ∙ ap (λ x. range_with_len (c + 1) a ++ range_with_len x b) on)

filter_none : (q : ℕ → Bool) (c k : ℕ) → ((i : ℕ) → c ≤ i → i < c + k → q i ≡ false) → filter q (range_with_len c k) ≡ []
filter_none q c zero h = refl
filter_none q c (suc k) h =
    ap (λ b. cond b (c ∷ filter q (range_with_len (c + 1) k)) (filter q (range_with_len (c + 1) k))) (h c (omega arith) (omega arith))
    ∙ filter_none q (c + 1) k (λ i l m. h i (omega arith) (omega arith))

filter_all : (q : ℕ → Bool) (c k : ℕ) → ((i : ℕ) → c ≤ i → i < c + k → q i ≡ true) → filter q (range_with_len c k) ≡ range_with_len c k
filter_all q c zero h = refl
filter_all q c (suc k) h =
    ap (λ b. cond b (c ∷ filter q (range_with_len (c + 1) k)) (filter q (range_with_len (c + 1) k))) (h c (omega arith) (omega arith))
    ∙ ap (λ xs. c ∷ xs) (filter_all q (c + 1) k (λ i l m. h i (omega arith) (omega arith)))

count-cons : (f : ℕ → Bool) (x : ℕ) (xs : List ℕ) → count_by f (x ∷ xs) ≡ cond (f x) 1 0 + count_by f xs
count-cons f x xs = sum_by_from (λ y. cond (f y) 1 0) (0 + cond (f x) 1 0) xs ∙ ap (λ z. z + count_by f xs) (zero-add (cond (f x) 1 0))

count-same : (f g : ℕ → Bool) (c k : ℕ) → ((i : ℕ) → c ≤ i → i < c + k → f i ≡ g i) → count_by f (range_with_len c k) ≡ count_by g (range_with_len c k)
count-same f g c zero h = refl
count-same f g c (suc k) h =
    count-cons f c (range_with_len (c + 1) k)
    ∙ ap (λ b. cond b 1 0 + count_by f (range_with_len (c + 1) k)) (h c (omega arith) (omega arith))
    ∙ ap (λ z. cond (g c) 1 0 + z) (count-same f g (c + 1) k (λ i l m. h i (omega arith) (omega arith)))
    ∙ sym (count-cons g c (range_with_len (c + 1) k))

-- one partition more
pub count-more : (f : ℕ → Bool) (k : ℕ) (b : Bool) → f k ≡ b → count_by f (range_with_len 0 (k + 1)) ≡ count_by f (range_with_len 0 k) + cond b 1 0
count-more f k b e =
    ap (λ n. count_by f (range_with_len 0 n)) (add-one k)
    ∙ ap (count_by f) (range-more 0 k ∙ ap (λ x. range_with_len 0 k ++ x ∷ []) (zero-add k))
    ∙ sum_by_push (λ y. cond (f y) 1 0) (range_with_len 0 k) k
    ∙ ap (λ x. count_by f (range_with_len 0 k) + cond x 1 0) e

count_is : (t : Tables) (samples : List Sample) → 1 ≤ t.rules.least → StandsFor t samples → count_by (λ p. is_some (enough_mean t.rules.need (values_in t p))) (range_with_len 0 t.parts) ≡ count_by (λ p. is_some (load_of t.rules samples p)) (range_with_len 0 t.parts)
count_is t samples some stands =
    count-same (λ p. is_some (enough_mean t.rules.need (values_in t p))) (λ p. is_some (load_of t.rules samples p)) 0 t.parts
    (λ p l known. ap is_some (load_in-samples t samples some stands p (omega arith)))

-- the loads counted over all partitions
pub coverage-samples : (t : Tables) (samples : List Sample) → 1 ≤ t.rules.least → StandsFor t samples → (valid upto all : ℕ) → valid ≡ count_by (λ p. is_some (enough_mean t.rules.need (values_in t p))) (range_with_len 0 upto) → upto ≡ t.parts → all ≡ t.parts → (valid, all) ≡ coverage t.rules t.parts samples
coverage-samples t samples some stands valid upto all v e f =
    let counted : valid ≡ count_by (λ p. is_some (load_of t.rules samples p)) (range_with_len 0 t.parts) =
    v ∙ ap (λ k. count_by (λ p. is_some (enough_mean t.rules.need (values_in t p))) (range_with_len 0 k)) e ∙ count_is t samples some stands in
    cc

one_more : (xs : List Loads) (o : Option Loads) → tally_of (xs ++ cons_option o []) ≡ with_some (tally_of xs) o
one_more xs None = ap tally_of (append-nil xs)
one_more xs (Some x) = tally-push xs x

-- one window more
pub some-more : (f : ℕ → Option Loads) (a k : ℕ) → tally_of (filter_map f (range_with_len a (k + 1))) ≡ with_some (tally_of (filter_map f (range_with_len a k))) (f (a + k))
some-more f a k =
    ap (λ n. tally_of (filter_map f (range_with_len a n))) (add-one k)
    ∙ ap (λ xs. tally_of (filter_map f xs)) (range-more a k)
    ∙ ap tally_of (filter_map-append f (range_with_len a k) ((a + k) ∷ []))
    ∙ one_more (filter_map f (range_with_len a k)) (f (a + k))

split_kept : (n k : ℕ) → 1 ≤ k → n + 1 ≡ (n + 1 - k) + (n - (n + 1 - k) + 1)
split_kept n k some = omega arith

kept_range : (rules : WindowRules) (n : ℕ) → 1 ≤ rules.keep → kept_windows rules (Some n) ≡ range_with_len (oldest_kept rules (Some n)) (n - oldest_kept rules (Some n) + 1)
unfolding kept_windows
kept_range rules n some =
    let a = oldest_kept rules (Some n) in
    let b = n - a + 1 in
    let q = is_kept rules (Some n) in
    ap (λ m. filter q (range_with_len 0 m)) (split_kept n rules.keep some)
    ∙ ap (filter q) (range-append 0 a b)
    ∙ filter-append q (range_with_len 0 a) (range_with_len (0 + a) b)
    ∙ ap (λ xs. xs ++ filter q (range_with_len (0 + a) b)) (filter_none q 0 a (λ i l m. ap (λ x. x && nat_le i n) (no_lt n (i + rules.keep) (omega arith))))
    ∙ ap (λ x. filter q (range_with_len x b)) (zero-add a)
    ∙ filter_all q a b (λ i l m. ap (λ x. x && nat_le i n) (test_lt n (i + rules.keep) (omega arith)) ∙ le_test i n (omega arith))

-- the values from the oldest kept window to the newest
pub values_in-range : (t : Tables) (p n o : ℕ) → 1 ≤ t.rules.keep → t.newest ≡ Some n → o ≡ oldest_kept t.rules t.newest → values_in t p ≡ filter_map (value_in t p) (range_with_len o (n - o + 1))
unfolding values_in
values_in-range t p n o some e f =
    ap (λ x. filter_map (value_in t p) (kept_windows t.rules x)) e
    ∙ ap (filter_map (value_in t p)) (kept_range t.rules n some)
    ∙ ap (λ x. filter_map (value_in t p) (range_with_len x (n - x + 1))) (sym (f ∙ ap (oldest_kept t.rules) e))

pub values_in-none : (t : Tables) (p : ℕ) → t.newest ≡ None → values_in t p ≡ []
unfolding values_in kept_windows
values_in-none t p e = ap (λ x. filter_map (value_in t p) (kept_windows t.rules x)) e
