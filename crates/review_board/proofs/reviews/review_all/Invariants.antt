use Rattle.std.proofs.Common.{◌≡◌, ◌+◌, ◌++◌, drop, map, take}
use Rattle.std.specs.List.{enumerate_from}
use Rattle.review_board.specs.Reviews.{reviewed, reviewed_one}
use Rattle.review_board.proofs.reviews.review_all.Given as goal

abbrev pub invariant-loop-i : goal.invariant-loop-i
invariant-loop-i l =
    take l.i l.reviews ++ map (reviewed_one l.approve l.discard) (enumerate_from (l.i + 1) (drop l.i l.reviews))
    ≡ reviewed l.approve l.discard l.initial.reviews
