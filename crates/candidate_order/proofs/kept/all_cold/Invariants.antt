use Rattle.std.proofs.Common.{◌≡◌, take}
use Rattle.std.specs.List.{All}
use Rattle.goal_terms.specs.declared.heat.Heat.TheVariants.{Cold}
use Rattle.candidate_order.specs.declared.kept.Row.{Row}
use Rattle.candidate_order.proofs.kept.all_cold.Given as goal

abbrev pub invariant-loop-row : goal.invariant-loop-row
invariant-loop-row l = All (λ (r : Row). r.heat ≡ Cold) (take l.row-index l.rows)
