-- Lists made of a list and the places of its members.
use Rattle.std.proofs.Common.{◌≡◌, ◌∙◌, ℕ, ◌+◌, ◌<◌, List, [], ◌∷◌, ◌++◌, length, get_or, map, take, sym, ap, arith}
use Rattle.std.specs.List.{enumerate_from}
use Rattle.std.proofs.lemmas.List.{length-take-le, map-append, take_more}

module _ {X : Type 0} where
  enumerate_from-push : (n : ℕ) (xs : List X) (x : X) → enumerate_from n (xs ++ x ∷ []) ≡ enumerate_from n xs ++ (n + length xs, x) ∷ []
  enumerate_from-push n [] x = ap (λ m. (m, x) ∷ []) (omega arith)
  enumerate_from-push n (y ∷ ys) x = ap (λ rest. (n, y) ∷ rest) (enumerate_from-push (n + 1) ys x) ∙ ap (λ m. (n, y) ∷ enumerate_from (n + 1) ys ++ (m, x) ∷ []) (omega arith)

  -- the next member and its place
  pub placed-more : {Y : Type 0} (f : ℕ × X → Y) (xs : List X) (i : ℕ) (x : X) → i < length xs → x ≡ get_or xs i x
      → map f (enumerate_from 0 (take (i + 1) xs)) ≡ map f (enumerate_from 0 (take i xs)) ++ f (i, x) ∷ []
  placed-more f xs i x h is =
      ap (λ l. map f (enumerate_from 0 l)) (take_more xs i x h ∙ ap (λ (y : X). take i xs ++ y ∷ []) (sym is))
      ∙ ap (map f) (enumerate_from-push 0 (take i xs) x) ∙ map-append f (enumerate_from 0 (take i xs)) ((0 + length (take i xs), x) ∷ [])
      ∙ ap (λ n. map f (enumerate_from 0 (take i xs)) ++ f (n, x) ∷ []) (omega (arith, length-take-le i xs (omega arith)))
