use Rattle.std.proofs.Common.{ℕ, map, take}
use Rattle.std.specs.List.{All}
use Rattle.candidate_order.specs.CandidateList.{candidates_at, NoStep}
use Rattle.candidate_order.proofs.nexts.first_of.Given as goal

abbrev pub invariant-loop-part : goal.invariant-loop-part
invariant-loop-part g l =
    All (λ (p : ℕ). NoStep l.case (map (λ x. g.G.Goal.meaning x l.case) l.earlier) (g.G.Goal.meaning l.goal l.case) l.book.lists (candidates_at l.kind l.case l.book.lists l.source.id p)) (take l.part-index l.replicas)
