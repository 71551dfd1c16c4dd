use Rattle.std.proofs.Common.{◌≡◌, drop}
use Rattle.review_board.specs.Step.{first_fault}
use Rattle.review_board.proofs.reviews.first_fault.Given as goal

abbrev pub invariant-loop-id : goal.invariant-loop-id
invariant-loop-id l = first_fault l.reviews (drop l.id-index l.ids) ≡ first_fault l.reviews l.ids
