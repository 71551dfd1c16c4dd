use Rattle.std.proofs.Common.{map, take}
use Rattle.std.specs.List.{All}
use Rattle.plan_terms.specs.Trace.{Step}
use Rattle.plan_terms.specs.declared.actions.Action.TheVariants.{Move}
use Rattle.candidate_order.proofs.rows.first_to.Given as goal

abbrev pub invariant-loop-row : goal.invariant-loop-row
invariant-loop-row g l = All (λ r. Step l.case (map (λ x. g.G.Goal.meaning x l.case) l.earlier) (g.G.Goal.meaning l.goal l.case) l.book.lists (Move l.part l.source.id r.id) → ⊥) (take l.row-index l.rows)
