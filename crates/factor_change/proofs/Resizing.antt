-- What a change of the replication factor makes of all lists.
use Rattle.std.proofs.Common.{◌≡◌, ◌≢◌, ◌∙◌, ◌⊎◌, inl, inr, ℕ, zero, suc, ◌+◌, ◌-◌, ◌<◌, ◌≤◌, Bool, true, false, not, ◌&&◌, ◌||◌, cond, List, [], ◌∷◌, ◌++◌, take, length, get_or, set, refl, sym, ap, arith, length-append, append-nil}
use Rattle.std.specs.Prelude.{◌==◌, nat_le, nat_lt, Option, Some, None, find, fold, option_map}
use Rattle.std.specs.Option.{option_or}
use Rattle.std.specs.List.{list_all, list_any, range_with_len}
use Rattle.std.proofs.lemmas.Bool.{true≢false, false≢true, cases_lt, cases_eq, eq-eqb}
use Rattle.std.proofs.lemmas.Bool.Decides.{nat_tests}
use Rattle.std.proofs.lemmas.List.{get_or-set_same, get_or-set_other, get_or_default, length-set, take_all}
use Rattle.std.proofs.lemmas.List.FromFn.{get_or-range_with_len, length-range_with_len}
use Rattle.std.proofs.lemmas.List.Sums.{fold-append}
use Rattle.std.proofs.lemmas.List.Folds.{list_any-append, list_any_at}
use Rattle.plan_terms.specs.Belongs.{IsReplicaList, distinct}
use Rattle.plan_terms.specs.Change.{differ, gains}
use Rattle.plan_terms.specs.Cluster.{Cluster, Lists, list_of, has, is_known}
use Rattle.plan_terms.specs.Legal.{is_live}
use Rattle.factor_change.specs.Laws.{ChangesAreResized, HasDistinctIds}
use Rattle.factor_change.specs.Refused.{falls_short, reach, refusal}
use Rattle.factor_change.specs.Resized.{fitted, grown, is_named_at, resized, resized_at}
use Rattle.factor_change.proofs.Grown.{Grows, grown_is}
use Rattle.factor_change.proofs.Keeps.{and_both, has_take, known_take, length_take, not_true, replicas_take}

-- one list after the change: its prefix, or longer
pub data Fits (c : Cluster) (factor : ℕ) (old new : List ℕ) : Type 0 where
  cut : factor ≤ length old → new ≡ take factor old → Fits c factor old new
  longer : length old < factor → Grows c old (factor - length old) new → Fits c factor old new

-- the partition's list, and the others'
pub record IsFitted (c : Cluster) (factor : ℕ) (lists : Lists) (p : ℕ) (after : Lists) : Type 0 where
  pub new : List ℕ
  pub after_is : after ≡ set lists p new
  pub fits : Fits c factor (list_of lists p) new

fitted_is : (c : Cluster) (factor : ℕ) (lists : Lists) (p : ℕ) → HasDistinctIds c → p < length lists → IsFitted c factor lists p (fitted c factor lists p)
fitted_is c factor lists p is l = by (nat_le factor (length (list_of lists p))) refl where
  by : (b : Bool) → nat_le factor (length (list_of lists p)) ≡ b → IsFitted c factor lists p (cond b (set lists p (take factor (list_of lists p))) (grown c p (factor - length (list_of lists p)) lists))
  by true e = record { new = take factor (list_of lists p); after_is = refl; fits = cut (grind (arith, nat_tests)) refl }
  by false e =
      let g = grown_is c lists p is l (factor - length (list_of lists p)) in
      record { new = g.new; after_is = g.after_is; fits = longer (grind (arith, nat_tests)) g.grows }

-- the list of a partition, by whether its topic is named
abbrev Stands : Cluster → List (List ℕ) → ℕ → ℕ → List ℕ → List ℕ → Type 0
Stands c topics factor p old new = (is_named_at c topics p ≡ true → Fits c factor old new) × (is_named_at c topics p ≡ false → new ≡ old)

-- the first k partitions are changed
record AreSoFar (c : Cluster) (topics : List (List ℕ)) (factor : ℕ) (start lists : Lists) (k : ℕ) : Type 0 where
  long : length lists ≡ length start
  changed : (p : ℕ) → p < k → Stands c topics factor p (list_of start p) (list_of lists p)
  left : (p : ℕ) → k ≤ p → list_of lists p ≡ list_of start p

range_more : (a k : ℕ) → range_with_len a (suc k) ≡ range_with_len a k ++ (a + k) ∷ []
range_more a zero = ap (λ x. x ∷ []) (omega arith)
range_more a (suc k) = ap (λ xs. a ∷ xs) (range_more (a + 1) k ∙ ap (λ x. range_with_len (a + 1) k ++ x ∷ []) (omega arith))

module _ (c : Cluster) (topics : List (List ℕ)) (factor : ℕ) (start : Lists) (is : HasDistinctIds c) where
  -- the partition after these
  one_more : (lists : Lists) (k : ℕ) → k < length start → AreSoFar c topics factor start lists k → AreSoFar c topics factor start (resized_at c topics factor lists k) (suc k)
  one_more lists k l h = by (is_named_at c topics k) refl where
    here : list_of lists k ≡ list_of start k
    here = h.left k (omega arith)

    by : (b : Bool) → is_named_at c topics k ≡ b → AreSoFar c topics factor start (cond b (fitted c factor lists k) lists) (suc k)
    by false e = record {
      long = h.long;
      changed = λ p m. at p (cases_lt p k) m;
      left = λ p m. h.left p (omega (arith, m));
    }
      where
        at : (p : ℕ) → (p < k) ⊎ (k ≤ p) → p < suc k → Stands c topics factor p (list_of start p) (list_of lists p)
        at p (inl m) n = h.changed p m
        at p (inr m) n =
            let same : p ≡ k = omega (arith, m, n) in
            ((λ named. absurd (true≢false (sym named ∙ ap (is_named_at c topics) same ∙ e))), (λ other. h.left p m))
    by true e = record {
      long = ap (λ (ls : Lists). length ls) f.after_is ∙ length-set lists k f.new ∙ h.long;
      changed = λ p m. at p (cases_eq p k) m;
      left = λ p m. other p (λ same. absurd (omega (arith, m, same))) ∙ h.left p (omega (arith, m));
    }
      where
        f : IsFitted c factor lists k (fitted c factor lists k)
        f = fitted_is c factor lists k is (omega (arith, l, h.long))

        other : (p : ℕ) → (p ≡ k → ⊥) → list_of (fitted c factor lists k) p ≡ list_of lists p
        other p apart = ap (λ (ls : Lists). list_of ls p) f.after_is ∙ get_or-set_other lists k p f.new [] apart

        new_is : list_of (fitted c factor lists k) k ≡ f.new
        new_is = ap (λ (ls : Lists). list_of ls k) f.after_is ∙ get_or-set_same lists k f.new [] (omega (arith, l, h.long))

        fits : Fits c factor (list_of start k) (list_of (fitted c factor lists k) k)
        fits = rw (new_is, sym here) f.fits

        at : (p : ℕ) → (p ≡ k) ⊎ (p ≢ k) → p < suc k → Stands c topics factor p (list_of start p) (list_of (fitted c factor lists k) p)
        at p (inl same) n = rw same ((λ named. fits), (λ q. absurd (true≢false (sym e ∙ q))))
        at p (inr apart) n = rw (other p apart) (h.changed p (omega (arith, n, apart)))

  so_far : (k : ℕ) → k ≤ length start → AreSoFar c topics factor start (fold (resized_at c topics factor) start (range_with_len 0 k)) k
  so_far zero l = record { long = refl; changed = λ p m. absurd (omega arith); left = λ p m. refl }
  so_far (suc k) l =
      let before : Lists = fold (resized_at c topics factor) start (range_with_len 0 k) in
      let now : fold (resized_at c topics factor) start (range_with_len 0 (suc k)) ≡ resized_at c topics factor before k =
      ap (λ (xs : List ℕ). fold (resized_at c topics factor) start xs) (range_more 0 k ∙ ap (λ x. range_with_len 0 k ++ x ∷ []) (omega arith)) ∙ fold-append (resized_at c topics factor) start (range_with_len 0 k) (k ∷ []) in
      rw now (one_more before k (omega (arith, l)) (so_far k (omega (arith, l))))

-- a member that a prefix leaves out
absent_at : (old : List ℕ) (n : ℕ) → distinct old ≡ true → n < length old → has (take n old) (get_or old n 0) ≡ false
absent_at [] n d l = absurd (omega arith)
absent_at (x ∷ xs) zero d l = refl
absent_at (x ∷ xs) (suc n) d l =
    let parts = and_both (not (has xs x)) (distinct xs) d in
    ap (λ (v : Bool). v || has (take n xs) (get_or xs n 0)) (turned (other xs n (omega (arith, l)) (not_true (has xs x) parts.0)))
    ∙ absent_at xs n parts.1 (omega (arith, l))
  where
    turned : (get_or xs n 0 == x) ≡ false → (x == get_or xs n 0) ≡ false
    turned e = grind arith

    other : (ys : List ℕ) (k : ℕ) → k < length ys → has ys x ≡ false → (get_or ys k 0 == x) ≡ false
    other [] k m h = absurd (omega arith)
    other (y ∷ ys) zero m h = left (y == x) (has ys x) h where
      left : (v w : Bool) → (v || w) ≡ false → v ≡ false
      left true w q = absurd (true≢false q)
      left false w q = refl
    other (y ∷ ys) (suc k) m h = other ys k (omega (arith, m)) (right (y == x) (has ys x) h) where
      right : (v w : Bool) → (v || w) ≡ false → w ≡ false
      right true w q = absurd (true≢false q)
      right false w q = q

-- a shorter list has lost a member, and a longer one has won one
fit_moves : (c : Cluster) (factor : ℕ) (old new : List ℕ) → distinct old ≡ true → Fits c factor old new → new ≢ old → differ old new ≡ true
fit_moves c factor old new d (cut short is) apart = by (cases_lt factor (length old)) where
  by : (factor < length old) ⊎ (length old ≤ factor) → differ old new ≡ true
  by (inl l) = or_right (list_any (λ b. not (has old b)) new) (list_any (λ b. not (has new b)) old)
      (list_any_at (λ b. not (has new b)) old factor 0 l (ap not (ap (λ (x : List ℕ). has x (get_or old factor 0)) is ∙ absent_at old factor d l)))
    where
      or_right : (v w : Bool) → w ≡ true → (v || w) ≡ true
      or_right true w e = refl
      or_right false w e = e
  by (inr l) = absurd (apart (is ∙ take_all factor old l))
fit_moves c factor old new d (longer l g) apart = by g.more g.is g.fresh where
  by : (more : List ℕ) → new ≡ old ++ more → ((b : ℕ) → has more b ≡ true → (has old b ≡ false) × (is_live c b ≡ true)) → differ old new ≡ true
  by [] e fresh = absurd (apart (e ∙ append-nil old))
  by (m ∷ ms) e fresh =
      ap (λ (x : List ℕ). differ old x) e
      ∙ ap (λ (v : Bool). v || list_any (λ b. not (has (old ++ m ∷ ms) b)) old)
      (list_any-append (λ b. not (has old b)) old (m ∷ ms) ∙ or_true (list_any (λ b. not (has old b)) old) (not (has old m)) (list_any (λ b. not (has old b)) ms)
      (ap not (fresh m (ap (λ (v : Bool). v || has ms m) (eq-eqb m m refl))).0))
    where
      or_true : (u v w : Bool) → v ≡ true → (u || (v || w)) ≡ true
      or_true true v w q = refl
      or_true false true w q = refl
      or_true false false w q = absurd (false≢true q)

-- what a list gains isn't lost
fit_live : (c : Cluster) (factor : ℕ) (old new : List ℕ) → Fits c factor old new → (b : ℕ) → gains old new b ≡ true → is_live c b ≡ true
fit_live c factor old new (cut short is) b h =
    let parts = and_both (has new b) (not (has old b)) h in
    absurd (true≢false (sym (ap (λ (x : List ℕ). has x b) (sym is) ∙ parts.0) ∙ has_take old factor b (not_true (has old b) parts.1)))
fit_live c factor old new (longer l g) b h =
    let parts = and_both (has new b) (not (has old b)) h in
    let gone : has old b ≡ false = not_true (has old b) parts.1 in
    (g.fresh b (ap (λ (v : Bool). v || has g.more b) (sym gone) ∙ sym (list_any-append (λ y. y == b) old g.more) ∙ ap (λ (x : List ℕ). has x b) (sym g.is) ∙ parts.0)).1

-- it is a replica list of the cluster
fit_replicas : (c : Cluster) (factor : ℕ) (old new : List ℕ) → 1 ≤ factor → factor ≤ 8 → IsReplicaList old → Fits c factor old new → IsReplicaList new
fit_replicas c factor old new some few r (cut short is) = rw is (replicas_take old factor r some short)
fit_replicas c factor old new some few r (longer l g) = record {
  some = omega (arith, r.some, long);
  few = omega (arith, long, g.few, l, few);
  once = g.once r.once;
}
  where
    long : length new ≡ length old + length g.more
    long = ap (λ (x : List ℕ). length x) g.is ∙ length-append old g.more

fit_known : (c : Cluster) (factor : ℕ) (old new : List ℕ) → list_all (is_known c) old ≡ true → Fits c factor old new → list_all (is_known c) new ≡ true
fit_known c factor old new k (cut short is) = rw is (known_take (is_known c) old factor k)
fit_known c factor old new k (longer l g) = g.known k

-- it has the asked length, where there are brokers enough
fit_long : (c : Cluster) (factor : ℕ) (old new : List ℕ) → Fits c factor old new → (length old < factor → factor ≤ reach c old) → length new ≡ factor
fit_long c factor old new (cut short is) h = ap (λ (x : List ℕ). length x) is ∙ length_take old factor short
fit_long c factor old new (longer l g) h = ap (λ (x : List ℕ). length x) g.is ∙ length-append old g.more ∙ omega (arith, l, g.all (omega (arith, h l)))

-- none of a list passes, where none is found
none_found : {X : Type 0} (p : X → Bool) (d : X) (xs : List X) (k : ℕ) → find p xs ≡ None → k < length xs → p (get_or xs k d) ≡ false
none_found p d [] k e l = absurd (omega arith)
none_found p d (x ∷ xs) k e l = by (p x) refl e k l (λ j h m. none_found p d xs j h m) where
  by : (b : Bool) → p x ≡ b → cond b (Some x) (find p xs) ≡ None → (j : ℕ) → j < length (x ∷ xs) → ((i : ℕ) → find p xs ≡ None → i < length xs → p (get_or xs i d) ≡ false) → p (get_or (x ∷ xs) j d) ≡ false
  by true q h j m more = cc
  by false q h zero m more = q
  by false q h (suc j) m more = more j h (omega (arith, m))

not_lt : (a b : ℕ) → nat_lt a b ≡ false → b ≤ a
not_lt a b h = grind (arith, nat_tests)

-- where nothing is refused, no list falls short
none_short : (c : Cluster) (topics : List (List ℕ)) (factor : ℕ) (lists : Lists) → refusal c topics factor lists ≡ None → (p : ℕ) → p < length lists → falls_short c topics factor lists p ≡ false
unfolding refusal
none_short c topics factor lists e p l =
    ap (falls_short c topics factor lists) (sym (get_or-range_with_len 0 (length lists) p 0 l ∙ omega arith))
    ∙ none_found (falls_short c topics factor lists) 0 (range_with_len 0 (length lists)) p (none_map _ _ (none_map _ _ (none_or _ _ e))) (omega (arith, l, length-range_with_len 0 (length lists)))
  where
    none_or : {X : Type 0} (a b : Option X) → option_or a b ≡ None → b ≡ None
    none_or None b q = q
    none_or (Some x) b q = cc

    none_map : {X Y : Type 0} (f : X → Y) (o : Option X) → option_map f o ≡ None → o ≡ None
    none_map f None q = refl
    none_map f (Some x) q = cc

pub resized_lists : ChangesAreResized
unfolding resized
resized_lists c topics factor lists is belongs some few = record {
  belongs = record {
    one_each = all.long ∙ belongs.one_each;
    lists_are = λ p d l. rw (get_or_default end p d [] l) (replicas p (omega (arith, l, all.long)) (is_named_at c topics p) refl);
    known = λ p d l. rw (get_or_default end p d [] l) (known p (omega (arith, l, all.long)) (is_named_at c topics p) refl);
  };
  others = λ p e. others p e (cases_lt p (length lists));
  asked = λ none p l named. fit_long c factor (list_of lists p) (list_of end p) ((all.changed p l).0 named) (λ m. enough p named m (none_short c topics factor lists none p l));
  moves = λ p apart. moves p apart (cases_lt p (length lists));
  live = λ p b h. live p b h (cases_lt p (length lists));
}
  where
    end : Lists
    end = fold (resized_at c topics factor) lists (range_with_len 0 (length lists))

    all : AreSoFar c topics factor lists end (length lists)
    all = so_far c topics factor lists is (length lists) (omega arith)

    replicas : (p : ℕ) → p < length lists → (b : Bool) → is_named_at c topics p ≡ b → IsReplicaList (list_of end p)
    replicas p l true e = fit_replicas c factor (list_of lists p) (list_of end p) some few (belongs.lists_are p [] l) ((all.changed p l).0 e)
    replicas p l false e = rw ((all.changed p l).1 e) (belongs.lists_are p [] l)

    known : (p : ℕ) → p < length lists → (b : Bool) → is_named_at c topics p ≡ b → list_all (is_known c) (list_of end p) ≡ true
    known p l true e = fit_known c factor (list_of lists p) (list_of end p) (belongs.known p [] l) ((all.changed p l).0 e)
    known p l false e = rw ((all.changed p l).1 e) (belongs.known p [] l)

    others : (p : ℕ) → is_named_at c topics p ≡ false → (p < length lists) ⊎ (length lists ≤ p) → list_of end p ≡ list_of lists p
    others p e (inl l) = (all.changed p l).1 e
    others p e (inr l) = all.left p l

    enough : (p : ℕ) → is_named_at c topics p ≡ true → length (list_of lists p) < factor → falls_short c topics factor lists p ≡ false → factor ≤ reach c (list_of lists p)
    enough p named m off = by (is_named_at c topics p) (nat_lt (length (list_of lists p)) factor) (nat_lt (reach c (list_of lists p)) factor) named refl refl off where
      by : (u v w : Bool) → u ≡ true → nat_lt (length (list_of lists p)) factor ≡ v → nat_lt (reach c (list_of lists p)) factor ≡ w → (u && (v && w)) ≡ false → factor ≤ reach c (list_of lists p)
      by false v w n q r h = absurd (false≢true n)
      by true false w n q r h = absurd (omega (arith, m, not_lt (length (list_of lists p)) factor q))
      by true true true n q r h = absurd (true≢false h)
      by true true false n q r h = not_lt (reach c (list_of lists p)) factor r

    moves : (p : ℕ) → list_of end p ≢ list_of lists p → (p < length lists) ⊎ (length lists ≤ p) → differ (list_of lists p) (list_of end p) ≡ true
    moves p apart (inr l) = absurd (apart (all.left p l))
    moves p apart (inl l) = by (is_named_at c topics p) refl where
      by : (b : Bool) → is_named_at c topics p ≡ b → differ (list_of lists p) (list_of end p) ≡ true
      by true e = fit_moves c factor (list_of lists p) (list_of end p) (belongs.lists_are p [] l).once ((all.changed p l).0 e) apart
      by false e = absurd (apart ((all.changed p l).1 e))

    itself : (list : List ℕ) (b : ℕ) → gains list list b ≡ true → ⊥
    itself list b h = by (has list b) h where
      by : (v : Bool) → (v && not v) ≡ true → ⊥
      by true q = false≢true q
      by false q = false≢true q

    live : (p b : ℕ) → gains (list_of lists p) (list_of end p) b ≡ true → (p < length lists) ⊎ (length lists ≤ p) → is_live c b ≡ true
    live p b h (inr l) = absurd (itself (list_of lists p) b (rw (all.left p l) at h))
    live p b h (inl l) = by (is_named_at c topics p) refl where
      by : (v : Bool) → is_named_at c topics p ≡ v → is_live c b ≡ true
      by true e = fit_live c factor (list_of lists p) (list_of end p) ((all.changed p l).0 e) b h
      by false e = absurd (itself (list_of lists p) b (rw ((all.changed p l).1 e) at h))
