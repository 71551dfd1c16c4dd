-- The n-th copy of a task.
use Rattle.std.proofs.Common.{◌≡◌, ℕ, ◌+◌, ◌*◌, ◌-◌, ◌<◌, ◌≤◌, true, false, not, List, [], ◌∷◌, ◌++◌, length, get_or, drop, arith, refl, ◌∙◌, zero, suc, ◌⊎◌, inl, inr, length-append}
use Rattle.std.specs.Prelude.{Some, slice_get}
use Rattle.std.proofs.lemmas.Bool.{cases_lt}
use Rattle.std.proofs.lemmas.List.{drop_more}
use Rattle.exec_terms.specs.declared.work.Work.TheVariants.{Copy}
use Rattle.std.proofs.Math.Nat.{mul-le-mul_left}
use Rattle.std.proofs.lemmas.List.Sums.{length-filter, count_by-le-length}
use Rattle.exec_terms.specs.declared.task.Task.{Task}
use Rattle.exec_terms.specs.Words.{copies_to, copies_of, copies}
use Rattle.plan_terms.specs.Cluster.{has}
use Rattle.plan_terms.specs.Change.{added}

slice_get-left : {X : Type 0} (xs ys : List X) (k : ℕ) → k < length xs → slice_get (xs ++ ys) k ≡ slice_get xs k
slice_get-left [] ys k l = absurd (omega arith)
slice_get-left (x ∷ xs) ys zero l = refl
slice_get-left (x ∷ xs) ys (suc k) l = slice_get-left xs ys k (omega arith)

slice_get-right : {X : Type 0} (xs ys : List X) (n : ℕ) → length xs ≤ n → slice_get (xs ++ ys) n ≡ slice_get ys (n - length xs)
slice_get-right [] ys n l = let e : n - 0 ≡ n = omega arith in rw e refl
slice_get-right (x ∷ xs) ys zero l = absurd (omega arith)
slice_get-right (x ∷ xs) ys (suc n) l = let e : suc n - suc (length xs) ≡ n - length xs = omega arith in rw e (slice_get-right xs ys n (omega arith))

length-copies_to : (b n : ℕ) → length (copies_to b n) ≡ n
length-copies_to b zero = refl
length-copies_to b (suc n) = omega (arith, length-append (copies_to b n) (Copy b n ∷ []), length-copies_to b n)

slice_get-copies_to : (b n k : ℕ) → k < n → slice_get (copies_to b n) k ≡ Some (Copy b k)
slice_get-copies_to b zero k l = absurd (omega arith)
slice_get-copies_to b (suc n) k l = by (cases_lt k n) (λ m. slice_get-copies_to b n k m) where
  by : (k < n) ⊎ (n ≤ k) → (k < n → slice_get (copies_to b n) k ≡ Some (Copy b k)) → slice_get (copies_to b n ++ Copy b n ∷ []) k ≡ Some (Copy b k)
  by (inl m) more = slice_get-left (copies_to b n) (Copy b n ∷ []) k (rw (length-copies_to b n) m) ∙ more m
  by (inr m) more =
      let e : k ≡ n = omega arith in
      let z : n - length (copies_to b n) ≡ 0 = omega (arith, length-copies_to b n) in
      rw e (slice_get-right (copies_to b n) (Copy b n ∷ []) n (omega (arith, length-copies_to b n)) ∙ rw z refl)

pub added_more : (before after : List ℕ) (i : ℕ) → i < length after → has before (get_or after i 0) ≡ false → added before (drop i after) ≡ get_or after i 0 ∷ added before (drop (i + 1) after)
added_more before after i l h = rw (drop_more after i 0 l, h) refl

pub added_skips : (before after : List ℕ) (i : ℕ) → i < length after → has before (get_or after i 0) ≡ true → added before (drop i after) ≡ added before (drop (i + 1) after)
added_skips before after i l h = rw (drop_more after i 0 l, h) refl

-- the copy is one of the first broker's, or one of the others'
pub copies_here : (b : ℕ) (bs : List ℕ) (chunks n : ℕ) → n < chunks → slice_get (copies_of (b ∷ bs) chunks) n ≡ Some (Copy b n)
copies_here b bs chunks n l = slice_get-left (copies_to b chunks) (copies_of bs chunks) n (rw (length-copies_to b chunks) l) ∙ slice_get-copies_to b chunks n l

pub copies_later : (b : ℕ) (bs : List ℕ) (chunks n : ℕ) → chunks ≤ n → slice_get (copies_of (b ∷ bs) chunks) n ≡ slice_get (copies_of bs chunks) (n - chunks)
copies_later b bs chunks n l = rw (length-copies_to b chunks) at (slice_get-right (copies_to b chunks) (copies_of bs chunks) n (rw (length-copies_to b chunks) l))

pub length-copies_of : (bs : List ℕ) (chunks : ℕ) → length (copies_of bs chunks) ≡ length bs * chunks
length-copies_of [] chunks = omega arith
length-copies_of (b ∷ bs) chunks = omega (arith, length-append (copies_to b chunks) (copies_of bs chunks), length-copies_to b chunks, length-copies_of bs chunks)

pub length-copies : (t : Task) → length (copies t) ≡ length (added t.before t.after) * t.chunks
unfolding copies
length-copies t = length-copies_of (added t.before t.after) t.chunks

pub added_le : (before after : List ℕ) → length (added before after) ≤ length after
added_le before after = omega (arith, length-filter (λ b. not (has before b)) after, count_by-le-length (λ b. not (has before b)) after)

pub small_product : (a b : ℕ) → a ≤ 8 → b ≤ 1000 → a * b ≤ 8000
small_product a b h k = omega (arith, mul-le-mul_left a k)

-- a task has few copies
pub few_copies : (t : Task) → length t.after ≤ 8 → t.chunks ≤ 1000 → length (copies t) ≤ 8000
few_copies t h k =
    omega (arith, length-copies t, small_product (length (added t.before t.after)) t.chunks (omega (arith, added_le t.before t.after)) k)
