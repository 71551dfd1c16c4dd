use Rattle.std.proofs.Common.{map, take}
use Rattle.std.specs.List.{All}
use Rattle.plan_terms.specs.Trace.{Step}
use Rattle.plan_terms.specs.declared.actions.Action.TheVariants.{Lead}
use Rattle.candidate_order.proofs.leads.first_lead.Given as goal

abbrev pub invariant-loop-row : goal.invariant-loop-row
invariant-loop-row g l = All (λ r. Step l.case (map (λ x. g.G.Goal.meaning x l.case) l.earlier) (g.G.Goal.meaning l.goal l.case) l.book.lists (Lead l.part r.id) → ⊥) (take l.row-index l.rows)
