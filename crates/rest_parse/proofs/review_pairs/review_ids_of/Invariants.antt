use Rattle.std.proofs.Common.{◌≡◌, ◌++◌, ℕ, List, drop, map}
use Rattle.std.specs.Prelude.{All, option_map}
use Rattle.std.specs.Borrow.{Bor}
use Rattle.rest_parse.specs.ReviewPairs.{IsReviewId, review_ids_of}
use Rattle.rest_parse.proofs.review_pairs.review_ids_of.Given as goal

abbrev pub invariant-loop-text : goal.invariant-loop-text
invariant-loop-text l = record {
  value : option_map (λ (xs : List ℕ). l.ids.items ++ xs) (review_ids_of (map (λ (s : Bor (List ℕ)). s.now) (drop l.text-index l.texts)))
      ≡ review_ids_of (map (λ (s : Bor (List ℕ)). s.now) l.texts);
  range : All IsReviewId l.ids.items;
}
