-- Two lists, compared member by member.
use Rattle.std.proofs.Common.{◌≡◌, ◌∙◌, ℕ, ◌+◌, ◌<◌, Bool, true, ◌&&◌, List, [], ◌∷◌, length, get_or, drop, sym, ap, arith}
use Rattle.std.specs.Cmp.Lexicographic.{pointwise}
use Rattle.std.proofs.lemmas.List.{drop_more, drop_all}

module _ {X : Type 0} (same : X → X → Bool) where
  -- the next two members, and the rest
  pub pointwise-next : (xs ys : List X) (i : ℕ) (x y : X) → i < length xs → length xs ≡ length ys → x ≡ get_or xs i x → y ≡ get_or ys i y
      → pointwise same (drop i xs) (drop i ys) ≡ same x y && pointwise same (drop (i + 1) xs) (drop (i + 1) ys)
  pointwise-next xs ys i x y h e ex ey =
      let cut : drop i xs ≡ x ∷ drop (i + 1) xs = drop_more xs i x h ∙ ap (λ (z : X). z ∷ drop (i + 1) xs) (sym ex) in
      let other : drop i ys ≡ y ∷ drop (i + 1) ys = drop_more ys i y (omega (arith, e)) ∙ ap (λ (z : X). z ∷ drop (i + 1) ys) (sym ey) in
      ap (λ l. pointwise same l (drop i ys)) cut ∙ ap (pointwise same (x ∷ drop (i + 1) xs)) other

  -- nothing is left at the end
  pub pointwise-end : (xs ys : List X) (i : ℕ) → i ≡ length xs → length xs ≡ length ys → pointwise same (drop i xs) (drop i ys) ≡ true
  pointwise-end xs ys i h e = ap (λ l. pointwise same l (drop i ys)) (drop_all i xs (omega arith)) ∙ ap (pointwise same []) (drop_all i ys (omega (arith, e)))
