use Rattle.std.proofs.Common.{ℕ, ◌<◌, ◌≤◌, ◌-◌, length, get_or}
use Rattle.candidate_order.specs.CandidateList.{disk_of}
use Rattle.candidate_order.specs.Ranks.{IsAhead}
use Rattle.candidate_order.proofs.ranks.place_for.Given as goal

abbrev pub invariant-loop-low : goal.invariant-loop-low
invariant-loop-low l = record {
  order : l.low ≤ l.high;
  within : l.high ≤ length l.row;
  before : (k : ℕ) → k < l.low → IsAhead (disk_of l.case l.book.lists l.broker (get_or l.row k 0)) (get_or l.row k 0) l.weight l.part;
  behind : (k : ℕ) → l.high ≤ k → k < length l.row → IsAhead l.weight l.part (disk_of l.case l.book.lists l.broker (get_or l.row k 0)) (get_or l.row k 0);
}

abbrev pub decreases-loop-low : goal.decreases-loop-low
decreases-loop-low l = l.high - l.low
