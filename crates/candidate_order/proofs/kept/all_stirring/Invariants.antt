use Rattle.std.proofs.Common.{◌≡◌, ◌<◌, ℕ, true, length}
use Rattle.std.specs.List.{All}
use Rattle.plan_terms.specs.Cluster.{has}
use Rattle.candidate_order.proofs.kept.all_stirring.Given as goal

abbrev pub invariant-loop-part : goal.invariant-loop-part
invariant-loop-part g l = record {
  within : All (λ (p : ℕ). p < length l.case.parts) l.stirring.items;
  each : (p : ℕ) → p < l.part → g.G.Goal.stirs_at l.goal l.case l.book.lists p ≡ true → has l.stirring.items p ≡ true;
}
