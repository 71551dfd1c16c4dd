-- The first name that stands again, place by place.
use Rattle.std.proofs.Common.{◌≡◌, ◌∙◌, ℕ, ◌+◌, ◌<◌, true, false, cond, List, [], ◌∷◌, ◌++◌, length, get_or, take, drop, suc, Some, sym, ap, add-one}
use Rattle.std.proofs.lemmas.List.{take_more, drop_more}
use Rattle.goal_set.specs.Read.{among, first_again}

module _ (names : List (List ℕ)) (i : ℕ) (name : List ℕ) (l : i < length names) (at : name ≡ get_or names i name) where
  opened : first_again (take i names) (drop i names) ≡ cond (among (take i names) name) (Some name) (first_again (take i names ++ name ∷ []) (drop (suc i) names))
  opened = ap (first_again (take i names)) (rw (← at, add-one i) at (drop_more names i name l))

  pub first_again-here : among (take i names) name ≡ true → first_again (take i names) (drop i names) ≡ Some name
  first_again-here h = opened ∙ ap (λ b. cond b (Some name) (first_again (take i names ++ name ∷ []) (drop (suc i) names))) h

  pub first_again-next : among (take i names) name ≡ false → first_again (take (i + 1) names) (drop (i + 1) names) ≡ first_again (take i names) (drop i names)
  first_again-next h =
      let seen : take (i + 1) names ≡ take i names ++ name ∷ [] = rw (← at) at (take_more names i name l) in
      rw (seen, add-one i) (sym (opened ∙ ap (λ b. cond b (Some name) (first_again (take i names ++ name ∷ []) (drop (suc i) names))) h))
