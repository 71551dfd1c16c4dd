use Rattle.std.proofs.Common.{◌≡◌, map, take}
use Rattle.std.specs.List.{All}
use Rattle.candidate_order.specs.Scan.{IsRow}
use Rattle.candidate_order.specs.declared.kept.Row.{Row}
use Rattle.plan_terms.specs.Cluster.{ids_of}
use Rattle.candidate_order.proofs.kept.all_again.Given as goal

abbrev pub invariant-loop-broker : goal.invariant-loop-broker
invariant-loop-broker g l = record {
  brokers_are : map (λ (r : Row). r.id) l.rows.items ≡ take l.broker (ids_of l.case.brokers);
  rows_are : All (IsRow g.G.Goal.weighs (λ x. g.G.Goal.room_at x l.case l.book.lists) (g.G.Goal.heat_at l.goal l.case l.book.lists) l.earlier l.case) l.rows.items;
}
