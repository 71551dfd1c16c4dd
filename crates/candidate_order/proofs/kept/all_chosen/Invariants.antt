use Rattle.std.proofs.Common.{◌≡◌, map, take}
use Rattle.std.specs.List.{All, filter}
use Rattle.candidate_order.specs.Scan.{IsRow, is_chosen}
use Rattle.candidate_order.specs.declared.kept.Row.{Row}
use Rattle.plan_terms.specs.Cluster.{ids_of}
use Rattle.candidate_order.proofs.kept.all_chosen.Given as goal

abbrev pub invariant-loop-row : goal.invariant-loop-row
invariant-loop-row g l = record {
  brokers_are : map (λ (r : Row). r.id) l.chosen.items ≡ filter (λ b. is_chosen l.choice l.case b (g.G.Goal.heat_at l.goal l.case l.book.lists b)) (take l.row-index (ids_of l.case.brokers));
  rows_are : All (IsRow g.G.Goal.weighs (λ x. g.G.Goal.room_at x l.case l.book.lists) (g.G.Goal.heat_at l.goal l.case l.book.lists) l.earlier l.case) l.chosen.items;
}
