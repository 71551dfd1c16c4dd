use Rattle.std.proofs.Common.{◌≡◌, drop}
use Rattle.rest_parse.specs.ReviewPairs.{repeats}
use Rattle.rest_parse.proofs.review_pairs.repeats.Given as goal

abbrev pub invariant-loop-i : goal.invariant-loop-i
invariant-loop-i l = repeats (drop l.i l.ids) ≡ repeats l.ids
