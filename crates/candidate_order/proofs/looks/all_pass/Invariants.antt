use Rattle.std.proofs.Common.{ℕ, ◌<◌, get_or}
use Rattle.goal_terms.specs.Rooms.{free}
use Rattle.candidate_order.specs.Looks.{Passes}
use Rattle.candidate_order.proofs.looks.all_pass.Given as goal

abbrev pub invariant-loop-k : goal.invariant-loop-k
invariant-loop-k l = (k : ℕ) → k < l.k → Passes (get_or l.weights k 0) (get_or l.givers k free) (get_or l.takers k free)
