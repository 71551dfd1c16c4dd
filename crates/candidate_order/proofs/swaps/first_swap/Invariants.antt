use Rattle.std.proofs.Common.{map, take}
use Rattle.std.specs.List.{All}
use Rattle.plan_terms.specs.declared.actions.Action.TheVariants.{Swap}
use Rattle.candidate_order.specs.CandidateList.{replicas_of, NoStep}
use Rattle.candidate_order.specs.declared.kept.Row.{Row}
use Rattle.candidate_order.proofs.swaps.first_swap.Given as goal

abbrev pub invariant-loop-k : goal.invariant-loop-k
invariant-loop-k g l =
    All (λ (r : Row). NoStep l.case (map (λ x. g.G.Goal.meaning x l.case) l.earlier) (g.G.Goal.meaning l.goal l.case) l.book.lists (map (λ q. Swap l.part l.source.id q r.id) (replicas_of l.case l.book.lists r.id)))
    (take l.k l.rows)
