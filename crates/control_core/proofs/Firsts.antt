-- First places that pass.
use Rattle.std.proofs.Common.{◌≡◌, ◌∙◌, ℕ, ◌<◌, Bool, true, false, List, [], ◌∷◌, length, get_or, refl, sym, arith, zero-add, zero, suc, ◌+◌}
use Rattle.std.specs.Prelude.{Option, Some, None, nat_lt, IfSome}
use Rattle.std.specs.List.{position, position_or_len, range_with_len, zip}
use Rattle.std.proofs.lemmas.Bool.Decides.{nat_tests}
use Rattle.std.proofs.lemmas.List.FromFn.{get_or-range_with_len}
use Rattle.std.proofs.lemmas.List.Quantifiers.{position-Some}
use Rattle.std.proofs.lemmas.List.Sums.{position_or_len_is}
use Rattle.user_tasks.specs.declared.table.UserTask.{UserTask}
use Rattle.core_terms.specs.State.{no_job}
use Rattle.core_terms.specs.Jobs.{no_user_task}
use Rattle.core_terms.specs.Plans.{waits}
use Rattle.core_terms.specs.declared.jobs.Job.{Job}

length-range : (a n : ℕ) → length (range_with_len a n) ≡ n
length-range a zero = refl
length-range a (suc n) = rw (length-range (a + 1) n) refl

module _ (p : ℕ → Bool) (n : ℕ) where
  at : (k : ℕ) → k < n → get_or (range_with_len 0 n) k 0 ≡ k
  at k l = get_or-range_with_len 0 n k 0 l ∙ zero-add k

  -- the first number below n that passes
  pub first_is : (i : ℕ) → i < n → p i ≡ true → ((k : ℕ) → k < i → p k ≡ false) → Some i ≡ position p (range_with_len 0 n)
  first_is i l h before =
      let e : position_or_len p (range_with_len 0 n) ≡ i = position_or_len_is p (range_with_len 0 n) i 0 (omega (arith, length-range 0 n))
      (λ k m. rw (at k (omega arith)) (before k m)) (λ m. rw (at i l) h) in
      let t : nat_lt i n ≡ true = grind (arith, nat_tests) in
      rw (e, length-range 0 n, t) refl

  -- none does
  pub first_none : ((k : ℕ) → k < n → p k ≡ false) → None ≡ position p (range_with_len 0 n)
  first_none none =
      let e : position_or_len p (range_with_len 0 n) ≡ n = position_or_len_is p (range_with_len 0 n) n 0 (omega (arith, length-range 0 n))
      (λ k m. rw (at k m) (none k m)) (λ m. absurd (omega (arith, length-range 0 n))) in
      let t : nat_lt n n ≡ false = grind (arith, nat_tests) in
      rw (e, length-range 0 n, t) refl

-- a place of two lists beside one another is one of both
zip_within : {X Y : Type 0} (xs : List X) (ys : List Y) (i : ℕ) → i < length (zip xs ys) → (i < length xs) × (i < length ys)
zip_within [] ys i l = absurd (omega arith)
zip_within (x ∷ xs) [] i l = absurd (omega arith)
zip_within (x ∷ xs) (y ∷ ys) zero l = (omega arith, omega arith)
zip_within (x ∷ xs) (y ∷ ys) (suc i) l = let h = zip_within xs ys i (omega arith) in (omega (arith, h.0), omega (arith, h.1))

pub waiting_within : (tasks : List UserTask) (jobs : List Job) (o : Option ℕ) → o ≡ position waits (zip tasks jobs) → IfSome o (λ i. (i < length tasks) × (i < length jobs))
waiting_within tasks jobs None e = tt
waiting_within tasks jobs (Some i) e = zip_within tasks jobs i (position-Some waits (zip tasks jobs) i (no_user_task, no_job) (sym e)).0
