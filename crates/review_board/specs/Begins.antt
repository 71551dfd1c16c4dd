-- One history begins another: laws of it.
use Rattle.std.proofs.Common.{List, [], ◌∷◌, ◌++◌, refl, ap, sym, ◌∙◌, append_assoc}
use mathlib.Core.List.{IsPrefix}

-- a list begins itself
pub begins_itself : {A : Type 0} (xs : List A) → IsPrefix xs xs
begins_itself [] = ([], refl)
begins_itself (x ∷ xs) = let r = begins_itself xs in (r.0, ap (λ ys. x ∷ ys) r.1)

-- and what the list begins that it begins
pub begins_on : {A : Type 0} (xs ys zs : List A) → IsPrefix xs ys → IsPrefix ys zs → IsPrefix xs zs
begins_on xs ys zs p q = (p.0 ++ q.0, sym (append_assoc xs p.0 q.0) ∙ (ap (λ w. w ++ q.0) p.1 ∙ q.1))
