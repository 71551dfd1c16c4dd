-- A test passes for all elements where it passes for as many as there are.
use Rattle.std.proofs.Common.{◌≡◌, ◌∙◌, ℕ, ◌+◌, Bool, true, false, cond, inl, inr, List, [], ◌∷◌, length, refl, sym, ap, arith}
use Rattle.std.specs.Prelude.{◌==◌, ◌&&◌}
use Rattle.std.specs.List.{count_by, list_all}
use Rattle.std.proofs.lemmas.Bool.{cases_eq, eq-eqb, ne_eqb}
use Rattle.std.proofs.lemmas.List.Sums.{count_by-le-length, sum_by-cons}

pub all_counted : {X : Type 0} (p : X → Bool) (xs : List X) → (count_by p xs == length xs) ≡ list_all p xs
all_counted p [] = refl
all_counted p (x ∷ xs) = by (p x) refl (all_counted p xs) where
  more : count_by p (x ∷ xs) ≡ cond (p x) 1 0 + count_by p xs
  more = sum_by-cons (λ y. cond (p y) 1 0) x xs

  by : (b : Bool) → p x ≡ b → (count_by p xs == length xs) ≡ list_all p xs → (count_by p (x ∷ xs) == length (x ∷ xs)) ≡ list_all p (x ∷ xs)
  by true e later =
      let n : count_by p (x ∷ xs) ≡ 1 + count_by p xs = more ∙ ap (λ (b : Bool). cond {A = ℕ} b 1 0 + count_by p xs) e in
      let same : (count_by p (x ∷ xs) == length (x ∷ xs)) ≡ (count_by p xs == length xs) = elim (cases_eq (count_by p xs) (length xs)) as (λ _. (count_by p (x ∷ xs) == length (x ∷ xs)) ≡ (count_by p xs == length xs)) [
        | inl is ↦ eq-eqb (count_by p (x ∷ xs)) (length (x ∷ xs)) (omega (arith, n, is)) ∙ sym (eq-eqb (count_by p xs) (length xs) is)
        | inr other ↦ ne_eqb (count_by p (x ∷ xs)) (length (x ∷ xs)) (λ q. other (omega (arith, n, q))) ∙ sym (ne_eqb (count_by p xs) (length xs) other)
      ] in
      same ∙ later ∙ sym (ap (λ (b : Bool). b && list_all p xs) e)
  by false e later =
      let n : count_by p (x ∷ xs) ≡ 0 + count_by p xs = more ∙ ap (λ (b : Bool). cond {A = ℕ} b 1 0 + count_by p xs) e in
      let l = count_by-le-length p xs in
      ne_eqb (count_by p (x ∷ xs)) (length (x ∷ xs)) (λ q. absurd (omega (arith, n, q, l))) ∙ sym (ap (λ (b : Bool). b && list_all p xs) e)
