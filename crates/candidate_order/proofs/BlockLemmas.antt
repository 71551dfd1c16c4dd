-- A list cut at two places.
use Rattle.std.proofs.Common.{◌≡◌, ◌≤◌, ◌+◌, ◌-◌, ◌++◌, ◌∙◌, ℕ, List, length, take, drop, ap, sym, arith}
use Rattle.std.specs.List.{slice_range}
use Rattle.std.proofs.Math.Seq.{take-append-add}
use Rattle.std.proofs.lemmas.List.{length-take-le, take-append-drop}
use Rattle.std.proofs.lemmas.List.Folds.{drop_split}

module _ {X : Type 0} (xs : List X) (a b : ℕ) (rises : a ≤ b) where
  pub parts-range : xs ≡ take a xs ++ (slice_range xs a b ++ drop b xs)
  parts-range = sym (take-append-drop a xs) ∙ ap (λ l. take a xs ++ l) (drop_split xs a b rises)

  pub front-range : a ≤ length xs → take b xs ≡ take a xs ++ slice_range xs a b
  front-range within =
      let sum : b ≡ length (take a xs) + (b - a) = omega (arith, length-take-le a xs within) in
      ap (λ n. take n xs) sum ∙ ap (λ l. take (length (take a xs) + (b - a)) l) (sym (take-append-drop a xs)) ∙ take-append-add (take a xs) (drop a xs) (b - a)
