use Rattle.std.proofs.Common.{ℕ, ◌<◌, get_or}
use Rattle.goal_terms.specs.Rooms.{free}
use Rattle.candidate_order.specs.Looks.{BothStay}
use Rattle.candidate_order.proofs.trades.all_stay.Given as goal

abbrev pub invariant-loop-k : goal.invariant-loop-k
invariant-loop-k l = (k : ℕ) → k < l.k → BothStay (get_or l.outs k 0) (get_or l.backs k 0) (get_or l.givers k free) (get_or l.takers k free)
