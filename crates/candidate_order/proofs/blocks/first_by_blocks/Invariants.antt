use Rattle.std.proofs.Common.{ℕ, ◌-◌, ◌≤◌, length, map, take}
use Rattle.std.specs.List.{All}
use Rattle.candidate_order.specs.CandidateList.{candidates_at, NoStep}
use Rattle.candidate_order.proofs.blocks.first_by_blocks.Given as goal

abbrev pub invariant-each : goal.invariant-each
invariant-each g l = record {
  passed : All (λ (p : ℕ). NoStep l.search.case.now (map (λ x. g.G.Goal.meaning x l.search.case.now) l.search.earlier.now) (g.G.Goal.meaning l.search.goal.now l.search.case.now) l.search.book.now.lists (candidates_at l.search.kind l.search.case.now l.search.book.now.lists l.search.source.now.id p)) (take l.from l.replicas);
  within : l.from ≤ length l.replicas;
}

abbrev pub decreases-each : goal.decreases-each
decreases-each g l = length l.replicas - l.from
