use Rattle.std.proofs.Common.{◌≡◌, ◌+◌, ◌++◌, drop, map}
use Rattle.std.specs.List.{enumerate_from}
use Rattle.review_board.specs.Reviews.{row_of, rows_of}
use Rattle.review_board.proofs.reviews.rows_of.Given as goal

abbrev pub invariant-loop-i : goal.invariant-loop-i
invariant-loop-i l = l.rows.items ++ map row_of (enumerate_from (l.i + 1) (drop l.i l.reviews)) ≡ rows_of l.reviews
