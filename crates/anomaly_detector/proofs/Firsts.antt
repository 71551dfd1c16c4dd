-- The first of a list that passes, found one after another.
use Rattle.std.proofs.Common.{◌≡◌, ◌∙◌, ℕ, zero, suc, ◌<◌, Bool, true, false, cond, List, [], ◌∷◌, take, length, get_or, sym, ap, arith}
use Rattle.std.specs.Prelude.{Some, None, find}

module _ {X : Type 0} (p : X → Bool) where
  pub find_first : (xs : List X) (i : ℕ) (x : X) → i < length xs → x ≡ get_or xs i x → p x ≡ true → find p (take i xs) ≡ None → find p xs ≡ Some x
  find_first [] i x l e is h = absurd (omega arith)
  find_first (y ∷ ys) zero x l e is h = ap (λ b. cond b (Some y) (find p ys)) (ap p (sym e) ∙ is) ∙ ap Some (sym e)
  find_first (y ∷ ys) (suc i) x l e is h = by (p y) h (λ k. find_first ys i x (omega (arith, l)) e is k) where
    by : (b : Bool) → cond b (Some y) (find p (take i ys)) ≡ None → (find p (take i ys) ≡ None → find p ys ≡ Some x) → cond b (Some y) (find p ys) ≡ Some x
    by true k more = cc
    by false k more = more k
