use Rattle.std.proofs.Common.{◌≡◌, ◌+◌, ◌++◌, drop, map}
use Rattle.std.specs.List.{enumerate_from}
use Rattle.review_board.specs.Reviews.{named, reviewed, reviewed_one, row_of, rows_of}
use Rattle.review_board.proofs.reviews.rows_named.Given as goal

abbrev pub invariant-loop-i : goal.invariant-loop-i
invariant-loop-i l =
    let rest = map (reviewed_one l.approve l.discard) (enumerate_from (l.i + 1) (drop l.i l.reviews)) in
    l.rows.items ++ named l.approve l.discard (map row_of (enumerate_from (l.i + 1) rest))
    ≡ named l.approve l.discard (rows_of (reviewed l.approve l.discard l.reviews))
