-- Leaving out what does not serve keeps the first that does.
use Rattle.std.specs.Prelude.{Option, Some, None, MatchOption, is_some, find}
use Rattle.std.proofs.Common.{◌≡◌, ℕ, ◌<◌, Bool, true, false, List, [], ◌∷◌, ◌++◌, length, get_or, map, take, zero, suc, refl, ap, ◌∙◌, sym, subst, arith, inl, inr, append_assoc}
use Rattle.std.specs.List.{All, AllZip, filter, flat_map}
use Rattle.std.proofs.lemmas.Bool.{cases_Bool}
use Rattle.std.proofs.lemmas.Grind.{flat_map-append}
use Rattle.std.proofs.lemmas.List.{get_or_default}
use Rattle.std.proofs.lemmas.List.Elements.{All-append, All-cons, All-nil, All-filter, filter-append}
use Rattle.candidate_order.specs.First.{IsFirst, LeavesOutIdle}

module _ {X : Type 0} (P : X → Type 0) where
  -- one more in front that does not serve
  pub All-more_front : (Q : X → Type 0) (x : X) (xs : List X) → Q x → All Q xs → All Q (x ∷ xs)
  All-more_front Q x xs h t zero d l = h
  All-more_front Q x xs h t (suc k) d l = t k d (omega arith)

  pub All-tail : (Q : X → Type 0) (x : X) (xs : List X) → All Q (x ∷ xs) → All Q xs
  All-tail Q x xs h = λ k d l. h (suc k) d (omega arith)

  pub IsFirst-cons : (x : X) (xs : List X) (a : X) → (P x → ⊥) → IsFirst P xs a → IsFirst P (x ∷ xs) a
  IsFirst-cons x xs a n f = record {
    before = x ∷ f.before;
    behind = f.behind;
    is = ap (λ ys. x ∷ ys) f.is;
    none_before = All-more_front (λ y. P y → ⊥) x f.before n f.none_before;
    serves = f.serves;
  }

  -- the first stays so with more behind
  pub IsFirst-in_front : (xs ys : List X) (a : X) → IsFirst P xs a → IsFirst P (xs ++ ys) a
  IsFirst-in_front xs ys a f = record {
    before = f.before;
    behind = f.behind ++ ys;
    is = ap (λ zs. zs ++ ys) f.is ∙ append_assoc f.before (a ∷ f.behind) ys;
    none_before = f.none_before;
    serves = f.serves;
  }

  -- and with more before that does not serve
  pub IsFirst-passed : (xs ys : List X) (a : X) → All (λ x. P x → ⊥) xs → IsFirst P ys a → IsFirst P (xs ++ ys) a
  IsFirst-passed [] ys a n f = f
  IsFirst-passed (x ∷ xs) ys a n f = IsFirst-cons x (xs ++ ys) a (n 0 x (omega arith)) (IsFirst-passed xs ys a (All-tail (λ y. P y → ⊥) x xs n) f)

  -- the first of a mapped list, by its place
  pub first-at : {Y : Type 0} (f : Y → X) (ys : List Y) (i : ℕ) (y : Y) → i < length ys → All (λ z. P (f z) → ⊥) (take i ys) → y ≡ get_or ys i y → P (f y) → IsFirst P (map f ys) (f y)
  first-at f [] i y l n e s = absurd (omega arith)
  first-at f (z ∷ ys) zero y l n e s = record {
    before = [];
    behind = map f ys;
    is = ap (λ x. f x ∷ map f ys) (sym e);
    none_before = All-nil (λ x. P x → ⊥);
    serves = s;
  }
  first-at {Y} f (z ∷ ys) (suc i) y l n e s =
      IsFirst-cons (f z) (map f ys) (f y) (n 0 z (omega arith)) (first-at f ys i y (omega arith) (λ k d m. n (suc k) d (omega arith)) e s)

  pub first-place : {Y : Type 0} (f : Y → X) (ys : List Y) (i : ℕ) (d : Y) → i < length ys → All (λ z. P (f z) → ⊥) (take i ys) → P (f (get_or ys i d)) → IsFirst P (map f ys) (f (get_or ys i d))
  first-place f ys i d l n s = first-at f ys i (get_or ys i d) l n (get_or_default ys i d (get_or ys i d) l) s

  -- none of lists end to end, where none of each
  pub none-flat : {Y : Type 0} (f : Y → List X) (ys : List Y) → All (λ z. All (λ x. P x → ⊥) (f z)) ys → All (λ x. P x → ⊥) (flat_map f ys)
  none-flat f [] h = All-nil (λ x. P x → ⊥)
  none-flat f (z ∷ ys) h = All-append (λ x. P x → ⊥) (f z) (flat_map f ys) (h 0 z (omega arith)) (none-flat f ys (λ k d m. h (suc k) d (omega arith)))

  -- the first of lists end to end is the first of the first list that has one
  pub first-flat : {Y : Type 0} (f : Y → List X) (ys : List Y) (i : ℕ) (d : Y) (a : X) → i < length ys → All (λ z. All (λ x. P x → ⊥) (f z)) (take i ys)
      → IsFirst P (f (get_or ys i d)) a → IsFirst P (flat_map f ys) a
  first-flat f [] i d a l n h = absurd (omega arith)
  first-flat f (z ∷ ys) zero d a l n h = IsFirst-in_front (f z) (flat_map f ys) a h
  first-flat f (z ∷ ys) (suc i) d a l n h =
      IsFirst-passed (f z) (flat_map f ys) a (n 0 z (omega arith)) (first-flat f ys i d a (omega arith) (λ k e m. n (suc k) e (omega arith)) h)

  -- where each of a list finds the first of its own, the first that finds one finds the first of all end to end
  module _ {Y : Type 0} (f : Y → List X) where
    found-later : (y : Y) (ys : List Y) (o : Option (Option X)) → All (λ x. P x → ⊥) (f y)
        → MatchOption o (All (λ z. All (λ x. P x → ⊥) (f z)) ys) (λ found. MatchOption found ⊥ (λ a. IsFirst P (flat_map f ys) a))
        → MatchOption o (All (λ z. All (λ x. P x → ⊥) (f z)) (y ∷ ys)) (λ found. MatchOption found ⊥ (λ a. IsFirst P (flat_map f (y ∷ ys)) a))
    found-later y ys None n h = All-cons (λ z. All (λ x. P x → ⊥) (f z)) y ys n h
    found-later y ys (Some None) n h = absurd h
    found-later y ys (Some (Some a)) n h = IsFirst-passed (f y) (flat_map f ys) a n h

    pub found-first : (Finds : Y → Option X → Type 0) → ((y : Y) (o : Option X) → Finds y o → MatchOption o (All (λ x. P x → ⊥) (f y)) (λ a. IsFirst P (f y) a))
        → (ys : List Y) (os : List (Option X)) → AllZip Finds ys os
        → MatchOption (find (λ o. is_some o) os) (All (λ z. All (λ x. P x → ⊥) (f z)) ys) (λ found. MatchOption found ⊥ (λ a. IsFirst P (flat_map f ys) a))
    found-first Finds is [] [] h = All-nil (λ z. All (λ x. P x → ⊥) (f z))
    found-first Finds is [] (o ∷ os) h = absurd h
    found-first Finds is (y ∷ ys) [] h = absurd h
    found-first Finds is (y ∷ ys) (None ∷ os) h = found-later y ys (find (λ o. is_some o) os) (is y None h.0) (found-first Finds is ys os h.1)
    found-first Finds is (y ∷ ys) (Some a ∷ os) h = IsFirst-in_front (f y) (flat_map f ys) a (is y (Some a) h.0)

    -- so for what a search of them found, or didn't
    pub found-Some : (Finds : Y → Option X → Type 0) → ((y : Y) (o : Option X) → Finds y o → MatchOption o (All (λ x. P x → ⊥) (f y)) (λ a. IsFirst P (f y) a))
        → (ys : List Y) (os : List (Option X)) (o : Option X) → AllZip Finds ys os → Some o ≡ find (λ o'. is_some o') os
        → MatchOption o (All (λ z. All (λ x. P x → ⊥) (f z)) ys) (λ a. IsFirst P (flat_map f ys) a)
    found-Some Finds is ys os None h e =
        absurd (subst (λ r. MatchOption r (All (λ z. All (λ x. P x → ⊥) (f z)) ys) (λ found. MatchOption found ⊥ (λ a. IsFirst P (flat_map f ys) a))) (sym e) (found-first Finds is ys os h))
    found-Some Finds is ys os (Some a) h e =
        subst (λ r. MatchOption r (All (λ z. All (λ x. P x → ⊥) (f z)) ys) (λ found. MatchOption found ⊥ (λ a'. IsFirst P (flat_map f ys) a'))) (sym e) (found-first Finds is ys os h)

    pub found-None : (Finds : Y → Option X → Type 0) → ((y : Y) (o : Option X) → Finds y o → MatchOption o (All (λ x. P x → ⊥) (f y)) (λ a. IsFirst P (f y) a))
        → (ys : List Y) (os : List (Option X)) → AllZip Finds ys os → None ≡ find (λ o'. is_some o') os → All (λ z. All (λ x. P x → ⊥) (f z)) ys
    found-None Finds is ys os h e =
        subst (λ r. MatchOption r (All (λ z. All (λ x. P x → ⊥) (f z)) ys) (λ found. MatchOption found ⊥ (λ a. IsFirst P (flat_map f ys) a))) (sym e) (found-first Finds is ys os h)

  -- a block in the middle: nothing before it has any
  pub first-block : {Y : Type 0} (f : Y → List X) (xs ys zs : List Y) (a : X) → All (λ z. All (λ x. P x → ⊥) (f z)) xs
      → IsFirst P (flat_map f ys) a → IsFirst P (flat_map f (xs ++ (ys ++ zs))) a
  first-block f xs ys zs a n h =
      rw (flat_map-append, flat_map-append) (IsFirst-passed (flat_map f xs) (flat_map f ys ++ flat_map f zs) a (none-flat f xs n) (IsFirst-in_front (flat_map f ys) (flat_map f zs) a h))

  module _ (keep : X → Bool) where
    -- where none is left none was there
    pub none-kept : (xs : List X) → LeavesOutIdle keep P xs → All (λ x. P x → ⊥) (filter keep xs) → All (λ x. P x → ⊥) xs
    none-kept [] i n = n
    none-kept (x ∷ xs) i n = elim (cases_Bool (keep x)) as (λ _. All (λ x. P x → ⊥) (x ∷ xs)) [
      | inl t ↦
          let m = rw t at n in
          All-more_front (λ y. P y → ⊥) x xs (m 0 x (omega arith)) (none-kept xs (record { idle = All-tail (λ y. keep y ≡ false → P y → ⊥) x xs i.idle }) (All-tail (λ y. P y → ⊥) x (filter keep xs) m))
      | inr f ↦
          All-more_front (λ y. P y → ⊥) x xs (i.idle 0 x (omega arith) f) (none-kept xs (record { idle = All-tail (λ y. keep y ≡ false → P y → ⊥) x xs i.idle }) (rw f at n))
    ]

    -- where what does not serve is left out, the first that does stays
    kept-front : (xs bs cs : List X) (a : X) → LeavesOutIdle keep P xs → filter keep xs ≡ bs ++ a ∷ cs → All (λ x. P x → ⊥) bs → P a → IsFirst P xs a
    kept-front [] [] cs a i e n s = absurd cc
    kept-front [] (b ∷ bs) cs a i e n s = absurd cc
    kept-front (x ∷ xs) [] cs a i e n s = elim (cases_Bool (keep x)) as (λ _. IsFirst P (x ∷ xs) a) [
      | inl t ↦
          let e' = rw t at e in
          record { before = []; behind = xs; is = cc; none_before = All-nil (λ y. P y → ⊥); serves = s }
      | inr f ↦
          IsFirst-cons x xs a (i.idle 0 x (omega arith) f) (kept-front xs [] cs a (record { idle = All-tail (λ y. keep y ≡ false → P y → ⊥) x xs i.idle }) (rw f at e) n s)
    ]
    kept-front (x ∷ xs) (b ∷ bs) cs a i e n s = elim (cases_Bool (keep x)) as (λ _. IsFirst P (x ∷ xs) a) [
      | inl t ↦
          let e' = rw t at e in
          let same : x ≡ b = cc in
          IsFirst-cons x xs a (λ h. n 0 b (omega arith) (subst P same h))
          (kept-front xs bs cs a (record { idle = All-tail (λ y. keep y ≡ false → P y → ⊥) x xs i.idle }) (cc) (All-tail (λ y. P y → ⊥) b bs n) s)
      | inr f ↦
          IsFirst-cons x xs a (i.idle 0 x (omega arith) f) (kept-front xs (b ∷ bs) cs a (record { idle = All-tail (λ y. keep y ≡ false → P y → ⊥) x xs i.idle }) (rw f at e) n s)
    ]

    pub kept-first : (xs : List X) (a : X) → LeavesOutIdle keep P xs → IsFirst P (filter keep xs) a → IsFirst P xs a
    kept-first xs a i f = kept-front xs f.before f.behind a i f.is f.none_before f.serves

    -- the first that serves stays where what is left out does not serve
    pub first-kept : (xs : List X) (a : X) → keep a ≡ true → IsFirst P xs a → IsFirst P (filter keep xs) a
    first-kept xs a k f = record {
      before = filter keep f.before;
      behind = filter keep f.behind;
      is = ap (filter keep) f.is ∙ filter-append keep f.before (a ∷ f.behind) ∙ ap (λ ys. filter keep f.before ++ ys) (kept-head f.behind);
      none_before = All-filter keep (λ x. P x → ⊥) f.before f.none_before;
      serves = f.serves;
    } where
      kept-head : (ys : List X) → filter keep (a ∷ ys) ≡ a ∷ filter keep ys
      kept-head ys = rw k refl

    -- so for what a search among the rest found
    pub kept-option : (xs ys : List X) → LeavesOutIdle keep P xs → filter keep xs ≡ ys → (o : Option X)
        → MatchOption o (All (λ x. P x → ⊥) ys) (λ a. IsFirst P ys a) → MatchOption o (All (λ x. P x → ⊥) xs) (λ a. IsFirst P xs a)
    kept-option xs ys i e None h = none-kept xs i (rw e h)
    kept-option xs ys i e (Some a) h = kept-first xs a i (rw e h)
