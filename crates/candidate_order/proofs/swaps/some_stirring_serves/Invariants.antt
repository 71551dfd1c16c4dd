use Rattle.std.proofs.Common.{map, take, ℕ}
use Rattle.std.specs.List.{All}
use Rattle.plan_terms.specs.Cluster.{list_of}
use Rattle.plan_terms.specs.Trace.{Step}
use Rattle.plan_terms.specs.declared.actions.Action.TheVariants.{Swap}
use Rattle.candidate_order.proofs.swaps.some_stirring_serves.Given as goal

abbrev pub invariant-loop-other : goal.invariant-loop-other
invariant-loop-other g l =
    All (λ (q : ℕ). All (λ (b : ℕ). Step l.case (map (λ x. g.G.Goal.meaning x l.case) l.earlier) (g.G.Goal.meaning l.goal l.case) l.book.lists (Swap l.part l.source.id q b) → ⊥) (list_of l.book.lists q)) (take l.other-index l.stirring)
