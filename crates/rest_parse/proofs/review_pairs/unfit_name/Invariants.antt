use Rattle.std.proofs.Common.{◌≡◌, [], take, drop}
use Rattle.rest_parse.specs.ReviewPairs.{unfit_name}
use Rattle.rest_parse.proofs.review_pairs.unfit_name.Given as goal

abbrev pub invariant-loop-i : goal.invariant-loop-i
invariant-loop-i l = unfit_name l.form (take l.i l.pairs) (drop l.i l.pairs) ≡ unfit_name l.form [] l.pairs
