-- What an action does to a quantity of brokers: one broker gives, another takes, and all others keep what they have.
use Rattle.std.specs.Prelude.{if◌then◌else◌, map, ◌==◌, Bool, cond}
use Rattle.std.proofs.Common.{◌≡◌, ℕ, ◌+◌, ◌*◌, ◌<◌, true, false, List, [], ◌∷◌, length, get_or, set, zero, suc, refl, ap, ◌∙◌, sym, arith, inl, inr, eq-eqb}
use Rattle.std.proofs.lemmas.Bool.{ne_eqb, eqb-true, eqb-false, false≢true, true≢false, cases_Bool}
use Rattle.std.proofs.lemmas.List.{length-set}
use Rattle.std.specs.List.{count_by}
use Rattle.std.proofs.lemmas.List.Sums.{sum_by-cons}
use Rattle.plan_terms.specs.Cluster.{Lists, list_of, has}
use Rattle.plan_terms.specs.Load.{list_load}
use Rattle.plan_terms.specs.Cluster.{leads}
use Rattle.plan_terms.specs.Effect.{replace, exchange_first, after}
use Rattle.plan_terms.specs.Fits.{fits}
use Rattle.goal_terms.specs.Quantity.{Weights, quantity, total, whole, trade, Trades}
use Rattle.plan_terms.proofs.EffectLemmas.{fits-Move, fits-Lead, fits-Swap}
use Rattle.plan_terms.proofs.MemberLemmas.{length-replace, length-exchange_first}
use Rattle.plan_terms.proofs.PartitionLemmas.{list_of-other}
use Rattle.plan_terms.specs.declared.cluster.Part.{Part}
use Rattle.plan_terms.specs.declared.actions.Action.{Action}
use Rattle.plan_terms.specs.declared.actions.Action.TheVariants.{Move, Lead, Swap}

-- a count with one more member
count_by-cons : (test : ℕ → Bool) (y : ℕ) (ys : List ℕ) → count_by test (y ∷ ys) ≡ cond (test y) 1 0 + count_by test ys
count_by-cons test y ys = sum_by-cons (λ x. cond (test x) 1 0) y ys

-- how often k stands in a list with one more member
count-hit : (k y : ℕ) (ys : List ℕ) → (y == k) ≡ true → count_by (λ x. x == k) (y ∷ ys) ≡ count_by (λ x. x == k) ys + 1
count-hit k y ys h = omega (arith, count_by-cons (λ x. x == k) y ys, ap {B = ℕ} (λ t. cond t 1 0) h)

-- another number isn't counted
count-miss : (k y : ℕ) (ys : List ℕ) → (y == k) ≡ false → count_by (λ x. x == k) (y ∷ ys) ≡ count_by (λ x. x == k) ys
count-miss k y ys h = omega (arith, count_by-cons (λ x. x == k) y ys, ap {B = ℕ} (λ t. cond t 1 0) h)

-- one more member keeps the difference of two counts
count-cons : (k y : ℕ) (ys zs : List ℕ) (n : ℕ) → count_by (λ x. x == k) ys ≡ count_by (λ x. x == k) zs + n → count_by (λ x. x == k) (y ∷ ys) ≡ count_by (λ x. x == k) (y ∷ zs) + n
count-cons k y ys zs n h = omega (arith, count_by-cons (λ x. x == k) y ys, count_by-cons (λ x. x == k) y zs)

-- the first place of a takes b
replace-hit : (a b x : ℕ) (xs : List ℕ) → (x == a) ≡ true → replace a b (x ∷ xs) ≡ b ∷ xs
replace-hit a b x xs h = rw h refl

-- another place stays
replace-miss : (a b x : ℕ) (xs : List ℕ) → (x == a) ≡ false → replace a b (x ∷ xs) ≡ x ∷ replace a b xs
replace-miss a b x xs h = rw h refl

-- how often each stands in a list in which b replaces a
module _ (a b : ℕ) (ne : a ≡ b → ⊥) where
  -- a stands once less
  pub count-replace-from : (xs : List ℕ) → has xs a ≡ true → count_by (λ x. x == a) xs ≡ count_by (λ x. x == a) (replace a b xs) + 1
  count-replace-from [] h = absurd (false≢true h)
  count-replace-from (x ∷ xs) h = elim (cases_Bool (x == a)) as (λ _. count_by (λ x. x == a) (x ∷ xs) ≡ count_by (λ x. x == a) (replace a b (x ∷ xs)) + 1) [
    | inl t ↦ omega (arith, count-hit a x xs t, count-miss a b xs (ne_eqb b a (λ e. ne (sym e))), ap (count_by (λ x. x == a)) (replace-hit a b x xs t))
    | inr f ↦ omega (arith, count-cons a x xs (replace a b xs) 1 (count-replace-from xs (rw f at h)), ap (count_by (λ x. x == a)) (replace-miss a b x xs f))
  ]

  -- b stands once more
  pub count-replace-to : (xs : List ℕ) → has xs a ≡ true → count_by (λ x. x == b) (replace a b xs) ≡ count_by (λ x. x == b) xs + 1
  count-replace-to [] h = absurd (false≢true h)
  count-replace-to (x ∷ xs) h = elim (cases_Bool (x == a)) as (λ _. count_by (λ x. x == b) (replace a b (x ∷ xs)) ≡ count_by (λ x. x == b) (x ∷ xs) + 1) [
    | inl t ↦
        let e : x ≡ a = eqb-true x a t in
        omega (arith, count-hit b b xs (eq-eqb b b refl), count-miss b x xs (ne_eqb x b (λ i. ne (sym e ∙ i))), ap (count_by (λ x. x == b)) (replace-hit a b x xs t))
    | inr f ↦ omega (arith, count-cons b x (replace a b xs) xs 1 (count-replace-to xs (rw f at h)), ap (count_by (λ x. x == b)) (replace-miss a b x xs f))
  ]

  -- every other number stands as often
  pub count-replace-other : (k : ℕ) (xs : List ℕ) → (k ≡ a → ⊥) → (k ≡ b → ⊥) → count_by (λ x. x == k) (replace a b xs) ≡ count_by (λ x. x == k) xs
  count-replace-other k [] h i = refl
  count-replace-other k (x ∷ xs) h i = elim (cases_Bool (x == a)) as (λ _. count_by (λ x. x == k) (replace a b (x ∷ xs)) ≡ count_by (λ x. x == k) (x ∷ xs)) [
    | inl t ↦
        let e : x ≡ a = eqb-true x a t in
        omega (arith, count-miss k b xs (ne_eqb b k (λ j. i (sym j))), count-miss k x xs (ne_eqb x k (λ j. h (sym j ∙ e))), ap (count_by (λ x. x == k)) (replace-hit a b x xs t))
    | inr f ↦ omega (arith, count-cons k x (replace a b xs) xs 0 (omega (arith, count-replace-other k xs h i)), ap (count_by (λ x. x == k)) (replace-miss a b x xs f))
  ]

-- what a list puts on each of them
module _ (lead follow : ℕ) where
  -- the first place carries the leader's weight
  list_load-hit : (k y : ℕ) (ys : List ℕ) → (y == k) ≡ true → list_load lead follow k (y ∷ ys) ≡ lead + follow * count_by (λ x. x == k) ys
  list_load-hit k y ys h = rw h refl

  -- a list that another broker leads
  list_load-miss : (k y : ℕ) (ys : List ℕ) → (y == k) ≡ false → list_load lead follow k (y ∷ ys) ≡ follow * count_by (λ x. x == k) ys
  list_load-miss k y ys h = rw h (omega arith)

  -- one more place carries the follower's weight
  more : (n m : ℕ) → n ≡ m + 1 → follow * n ≡ follow * m + follow
  more n m h = rw h (omega arith)

  -- one more place behind the first
  list_load-cons : (k y : ℕ) (ys zs : List ℕ) → count_by (λ x. x == k) ys ≡ count_by (λ x. x == k) zs + 1 → list_load lead follow k (y ∷ ys) ≡ list_load lead follow k (y ∷ zs) + follow
  list_load-cons k y ys zs h = omega (arith, more _ _ h)

  -- the one that is replaced loses the weight of its place
  pub list_load-replace-from : (a b : ℕ) (xs : List ℕ) → (a ≡ b → ⊥) → has xs a ≡ true → list_load lead follow a xs ≡ list_load lead follow a (replace a b xs) + (if leads xs a then lead else follow)
  list_load-replace-from a b [] ne h = absurd (false≢true h)
  list_load-replace-from a b (x ∷ xs) ne h = elim (cases_Bool (x == a)) as (λ _. list_load lead follow a (x ∷ xs) ≡ list_load lead follow a (replace a b (x ∷ xs)) + (if x == a then lead else follow)) [
    | inl t ↦ omega (
      arith,
      list_load-hit a x xs t,
      list_load-miss a b xs (ne_eqb b a (λ e. ne (sym e))),
      ap (list_load lead follow a) (replace-hit a b x xs t),
      ap {B = ℕ} (λ s. if s then lead else follow) t,
    )
    | inr f ↦ omega (
      arith,
      list_load-cons a x xs (replace a b xs) (count-replace-from a b ne xs (rw f at h)),
      ap (list_load lead follow a) (replace-miss a b x xs f),
      ap {B = ℕ} (λ s. if s then lead else follow) f,
    )
  ]

  -- the one that comes gets it
  pub list_load-replace-to : (a b : ℕ) (xs : List ℕ) → (a ≡ b → ⊥) → has xs a ≡ true → list_load lead follow b (replace a b xs) ≡ list_load lead follow b xs + (if leads xs a then lead else follow)
  list_load-replace-to a b [] ne h = absurd (false≢true h)
  list_load-replace-to a b (x ∷ xs) ne h = elim (cases_Bool (x == a)) as (λ _. list_load lead follow b (replace a b (x ∷ xs)) ≡ list_load lead follow b (x ∷ xs) + (if x == a then lead else follow)) [
    | inl t ↦
        let e : x ≡ a = eqb-true x a t in
        omega (
          arith,
          list_load-hit b b xs (eq-eqb b b refl),
          list_load-miss b x xs (ne_eqb x b (λ i. ne (sym e ∙ i))),
          ap (list_load lead follow b) (replace-hit a b x xs t),
          ap {B = ℕ} (λ s. if s then lead else follow) t,
        )
    | inr f ↦ omega (
      arith,
      list_load-cons b x (replace a b xs) xs (count-replace-to a b ne xs (rw f at h)),
      ap (list_load lead follow b) (replace-miss a b x xs f),
      ap {B = ℕ} (λ s. if s then lead else follow) f,
    )
  ]

  -- and all others keep what they have
  pub list_load-replace-other : (a b k : ℕ) (xs : List ℕ) → (a ≡ b → ⊥) → (k ≡ a → ⊥) → (k ≡ b → ⊥) → list_load lead follow k (replace a b xs) ≡ list_load lead follow k xs
  list_load-replace-other a b k [] ne h i = refl
  list_load-replace-other a b k (x ∷ xs) ne h i = elim (cases_Bool (x == a)) as (λ _. list_load lead follow k (replace a b (x ∷ xs)) ≡ list_load lead follow k (x ∷ xs)) [
    | inl t ↦
        let e : x ≡ a = eqb-true x a t in
        omega (
          arith,
          list_load-miss k b xs (ne_eqb b k (λ j. i (sym j))),
          list_load-miss k x xs (ne_eqb x k (λ j. h (sym j ∙ e))),
          ap (list_load lead follow k) (replace-hit a b x xs t),
        )
    | inr f ↦ ap (list_load lead follow k) (replace-miss a b x xs f) ∙ ap (λ n. (if x == k then lead else 0) + follow * n) (count-replace-other a b ne k xs h i)
  ]

  -- the first member's weight becomes a follower's
  pub list_load-exchange-first : (b : ℕ) (xs : List ℕ) → has xs b ≡ true → leads xs b ≡ false → list_load lead follow (get_or xs 0 0) (exchange_first b xs) + lead ≡ list_load lead follow (get_or xs 0 0) xs + follow
  list_load-exchange-first b [] h l = absurd (false≢true h)
  list_load-exchange-first b (x ∷ xs) h l =
      let ne : b ≡ x → ⊥ = λ e. eqb-false x b l (sym e) in
      omega (
        arith,
        list_load-miss x b (replace b x xs) (ne_eqb b x ne),
        list_load-hit x x xs (eq-eqb x x refl),
        more _ _ (count-replace-to b x ne xs (rw l at h)),
      )

  -- the new leader's becomes a leader's
  pub list_load-exchange-to : (b : ℕ) (xs : List ℕ) → has xs b ≡ true → leads xs b ≡ false → list_load lead follow b (exchange_first b xs) + follow ≡ list_load lead follow b xs + lead
  list_load-exchange-to b [] h l = absurd (false≢true h)
  list_load-exchange-to b (x ∷ xs) h l =
      let ne : b ≡ x → ⊥ = λ e. eqb-false x b l (sym e) in
      omega (
        arith,
        list_load-hit b b (replace b x xs) (eq-eqb b b refl),
        list_load-miss b x xs l,
        more _ _ (count-replace-from b x ne xs (rw l at h)),
      )

  -- and all others keep what they have
  pub list_load-exchange-other : (b k : ℕ) (xs : List ℕ) → leads xs b ≡ false → (k ≡ get_or xs 0 0 → ⊥) → (k ≡ b → ⊥) → list_load lead follow k (exchange_first b xs) ≡ list_load lead follow k xs
  list_load-exchange-other b k [] l h i = refl
  list_load-exchange-other b k (x ∷ xs) l h i =
      let ne : b ≡ x → ⊥ = λ e. eqb-false x b l (sym e) in
      list_load-miss k b (replace b x xs) (ne_eqb b k (λ e. i (sym e)))
      ∙ ap (λ n. follow * n) (count-replace-other b x ne k xs i h)
      ∙ sym (list_load-miss k x xs (ne_eqb x k (λ e. h (sym e))))

module _ (w : Weights) where
  -- a broker's quantity after one list changed
  pub quantity-set : (ps : List Part) (lists : Lists) (p k : ℕ) (list : List ℕ) → length lists ≡ length ps → p < length lists
      → quantity w ps k (set lists p list) + list_load (get_or (map w.lead ps) p 0) (get_or (map w.follow ps) p 0) k (list_of lists p)
      ≡ quantity w ps k lists + list_load (get_or (map w.lead ps) p 0) (get_or (map w.follow ps) p 0) k list
  unfolding quantity
  quantity-set [] [] p k list e l = absurd (omega arith)
  quantity-set [] (x ∷ lists) p k list e l = absurd (omega arith)
  quantity-set (q ∷ ps) [] p k list e l = absurd (omega arith)
  quantity-set (q ∷ ps) (x ∷ lists) zero k list e l = omega arith
  quantity-set (q ∷ ps) (x ∷ lists) (suc p) k list e l = omega (arith, quantity-set ps lists p k list (omega arith) (omega arith))

-- a member is another than who is none
apart-member : (xs : List ℕ) (a b : ℕ) → has xs a ≡ true → has xs b ≡ false → a ≡ b → ⊥
apart-member xs a b h n e = true≢false (sym h ∙ ap (has xs) e ∙ n)

module _ (w : Weights) (ps : List Part) (lists : Lists) (one_each : length lists ≡ length ps) where
  -- a move trades
  pub trades-Move : (p a b : ℕ) → fits lists (Move p a b) ≡ true → Trades (trade w ps lists (Move p a b)) (λ k. quantity w ps k lists) (λ k. quantity w ps k (after (Move p a b) lists))
  trades-Move p a b h =
      let move = fits-Move lists p a b h in
      let ne : a ≡ b → ⊥ = apart-member (list_of lists p) a b move.source move.target in
      let lead : ℕ = get_or (map w.lead ps) p 0 in
      let follow : ℕ = get_or (map w.follow ps) p 0 in
      let set_at = λ (k : ℕ). quantity-set w ps lists p k (replace a b (list_of lists p)) one_each move.within in
      record {
        apart = ne;
        giver = omega (arith, set_at a, list_load-replace-from lead follow a b (list_of lists p) ne move.source);
        taker = omega (arith, set_at b, list_load-replace-to lead follow a b (list_of lists p) ne move.source);
        others = λ k i j. omega (arith, set_at k, list_load-replace-other lead follow a b k (list_of lists p) ne i j);
      }

  -- a lead trades
  pub trades-Lead : (p b : ℕ) → fits lists (Lead p b) ≡ true → Trades (trade w ps lists (Lead p b)) (λ k. quantity w ps k lists) (λ k. quantity w ps k (after (Lead p b) lists))
  trades-Lead p b h =
      let fit = fits-Lead lists p b h in
      let lead : ℕ = get_or (map w.lead ps) p 0 in
      let follow : ℕ = get_or (map w.follow ps) p 0 in
      let set_at = λ (k : ℕ). quantity-set w ps lists p k (exchange_first b (list_of lists p)) one_each fit.within in
      record {
        apart = first-apart (list_of lists p) fit.member fit.later;
        giver = omega (arith, set_at (get_or (list_of lists p) 0 0), list_load-exchange-first lead follow b (list_of lists p) fit.member fit.later);
        taker = omega (arith, set_at b, list_load-exchange-to lead follow b (list_of lists p) fit.member fit.later);
        others = λ k i j. omega (arith, set_at k, list_load-exchange-other lead follow b k (list_of lists p) fit.later i j);
      } where
        first-apart : (xs : List ℕ) → has xs b ≡ true → leads xs b ≡ false → get_or xs 0 0 ≡ b → ⊥
        first-apart [] m l = absurd (false≢true m)
        first-apart (x ∷ xs) m l = eqb-false x b l

  -- a swap trades
  pub trades-Swap : (p a q b : ℕ) → fits lists (Swap p a q b) ≡ true → Trades (trade w ps lists (Swap p a q b)) (λ k. quantity w ps k lists) (λ k. quantity w ps k (after (Swap p a q b) lists))
  trades-Swap p a q b h =
      let swap = fits-Swap lists p a q b h in
      let ne : a ≡ b → ⊥ = apart-member (list_of lists p) a b swap.source swap.target_comes in
      let lead : ℕ = get_or (map w.lead ps) p 0 in
      let follow : ℕ = get_or (map w.follow ps) p 0 in
      let lead' : ℕ = get_or (map w.lead ps) q 0 in
      let follow' : ℕ = get_or (map w.follow ps) q 0 in
      let first = λ (k : ℕ). quantity-set w ps lists p k (replace a b (list_of lists p)) one_each swap.first in
      let second = λ (k : ℕ). rw (list_of-other lists p q (replace a b (list_of lists p)) (λ e. swap.apart (sym e))) at
      (quantity-set w ps (set lists p (replace a b (list_of lists p))) q k (replace b a (list_of lists q)) (rw length-set one_each) (rw length-set swap.second)) in
      record {
        apart = ne;
        giver = omega (arith, first a, second a, list_load-replace-from lead follow a b (list_of lists p) ne swap.source, list_load-replace-to lead' follow' b a (list_of lists q) (λ e. ne (sym e)) swap.target);
        taker = omega (arith, first b, second b, list_load-replace-to lead follow a b (list_of lists p) ne swap.source, list_load-replace-from lead' follow' b a (list_of lists q) (λ e. ne (sym e)) swap.target);
        others = λ k i j. omega (arith, first k, second k, list_load-replace-other lead follow a b k (list_of lists p) ne i j, list_load-replace-other lead' follow' b a k (list_of lists q) (λ e. ne (sym e)) j i);
      }

  -- every action that fits trades
  pub trades : (a : Action) → fits lists a ≡ true → Trades (trade w ps lists a) (λ k. quantity w ps k lists) (λ k. quantity w ps k (after a lists))
  trades (Move p a b) h = trades-Move p a b h
  trades (Lead p b) h = trades-Lead p b h
  trades (Swap p a q b) h = trades-Swap p a q b h

-- no action changes what all brokers carry together
lengths-set : (lists : Lists) (p : ℕ) (list : List ℕ) → length list ≡ length (list_of lists p) → map length (set lists p list) ≡ map length lists
lengths-set [] p list e = refl
lengths-set (x ∷ lists) zero list e = ap (λ n. n ∷ map length lists) e
lengths-set (x ∷ lists) (suc p) list e = ap (λ ns. length x ∷ ns) (lengths-set lists p list e)

-- no action changes the lengths of the lists
pub lengths-after : (a : Action) (lists : Lists) → fits lists a ≡ true → map length (after a lists) ≡ map length lists
lengths-after (Move p a b) lists h = lengths-set lists p _ (length-replace a b (list_of lists p))
lengths-after (Lead p b) lists h = lengths-set lists p _ (length-exchange_first b (list_of lists p))
lengths-after (Swap p a q b) lists h =
    let swap = fits-Swap lists p a q b h in
    lengths-set (set lists p (replace a b (list_of lists p))) q (replace b a (list_of lists q))
    (length-replace b a (list_of lists q) ∙ ap length (sym (list_of-other lists p q (replace a b (list_of lists p)) (λ e. swap.apart (sym e)))))
    ∙ lengths-set lists p _ (length-replace a b (list_of lists p))

-- nor what all brokers carry together
pub total-after : (w : Weights) (ps : List Part) (lists : Lists) (a : Action) → fits lists a ≡ true → total w ps (after a lists) ≡ total w ps lists
unfolding total
total-after w ps lists a h = ap (whole w ps) (lengths-after a lists h)
