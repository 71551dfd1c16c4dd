-- Two lists that mean the same: goals that were made, and the kinds that they were made of.
use Rattle.std.proofs.Common.{◌≡◌, ◌∙◌, ℕ, ◌<◌, List, length, map, take, get_or, ap, sym}
use Rattle.std.proofs.lemmas.List.{take-map, get_or-map, length-map}
use Rattle.plan_terms.specs.Goal.{Meaning}

-- they do so front by front and place by place
module _ {X Y : Type 0} (f : X → Meaning) (h : Y → Meaning) (xs : List X) (ys : List Y) (same : map f xs ≡ map h ys) where
  pub same_length : length xs ≡ length ys
  same_length = sym (length-map xs f) ∙ ap length same ∙ length-map ys h

  pub same_front : (i : ℕ) → map f (take i xs) ≡ map h (take i ys)
  same_front i = sym (take-map f i xs) ∙ ap (take i) same ∙ take-map h i ys

  pub same_at : (i : ℕ) (x : X) (d y : Y) → i < length ys → x ≡ get_or xs i x → y ≡ get_or ys i d → f x ≡ h y
  same_at i x d y l at_x at_y =
      ap f at_x ∙ sym (get_or-map f xs i x (f x) (rw same_length l)) ∙ ap (λ ms. get_or ms i (f x)) same ∙ get_or-map h ys i d (f x) l ∙ ap h (sym at_y)
