use Rattle.std.proofs.Common.{map, take, ℕ}
use Rattle.std.specs.List.{All}
use Rattle.plan_terms.specs.Trace.{Step}
use Rattle.plan_terms.specs.declared.actions.Action.TheVariants.{Lead}
use Rattle.candidate_order.proofs.leads.some_lead_serves.Given as goal

abbrev pub invariant-loop-member : goal.invariant-loop-member
invariant-loop-member g l = All (λ (b : ℕ). Step l.case (map (λ x. g.G.Goal.meaning x l.case) l.earlier) (g.G.Goal.meaning l.goal l.case) l.book.lists (Lead l.part b) → ⊥) (take l.member-index l.members)
