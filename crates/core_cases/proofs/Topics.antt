-- A set of topics, made one by one.
use Rattle.std.proofs.Common.{◌≡◌, ◌∙◌, ℕ, ◌+◌, ◌<◌, Bool, true, false, cond, ◌||◌, List, [], ◌∷◌, ◌++◌, length, get_or, take, refl, sym, ap, bytes_eq}
use Rattle.std.specs.List.{list_any}
use Rattle.std.proofs.lemmas.Bool.Decides.{same_from_decides, Decides-like}
use Rattle.std.proofs.lemmas.List.{take_more}
use Rattle.std.proofs.lemmas.List.Folds.{list_any-append}
use Rattle.std.proofs.lemmas.Slice.Eq.{bytes_eq-Decides}

flip : (a b : List ℕ) → bytes_eq a b ≡ bytes_eq b a
flip a b = same_from_decides (bytes_eq a b) (bytes_eq b a) (bytes_eq-Decides a b) (Decides-like (bytes_eq b a) sym sym (bytes_eq-Decides b a))

-- a topic more
pub any-more : (topic x : List ℕ) (xs : List (List ℕ)) (i : ℕ) (old new : Bool) → i < length xs → x ≡ get_or xs i x → old ≡ list_any (bytes_eq topic) (take i xs)
    → new ≡ cond (bytes_eq x topic) true old → new ≡ list_any (bytes_eq topic) (take (i + 1) xs)
any-more topic x xs i old new h ex before is =
    is ∙ ap (λ b. cond b true old) (flip x topic) ∙ either (bytes_eq topic x) old ∙ ap (λ b. b || (bytes_eq topic x || false)) before
    ∙ sym (ap (list_any (bytes_eq topic)) (take_more xs i x h ∙ ap (λ (y : List ℕ). take i xs ++ y ∷ []) (sym ex)) ∙ list_any-append (bytes_eq topic) (take i xs) (x ∷ []))
  where
    either : (b o : Bool) → cond b true o ≡ (o || (b || false))
    either true true = refl
    either true false = refl
    either false true = refl
    either false false = refl
