use Rattle.std.proofs.Common.{◌≡◌, ℕ, ◌<◌, length, get_or}
use Rattle.candidate_order.specs.Looks.{IsWeighed}
use Rattle.candidate_order.specs.declared.kept.PartWeights.{PartWeights}
use Rattle.candidate_order.proofs.kept.all_weights.Given as goal

abbrev pub invariant-loop-part : goal.invariant-loop-part
invariant-loop-part g l = record {
  count : length l.weights.items ≡ l.part;
  each : (p : ℕ) (d : PartWeights) → p < length l.weights.items
      → IsWeighed g.G.Goal.weighs l.earlier l.case.parts p (get_or l.weights.items p d).lead.items (get_or l.weights.items p d).follow.items;
}
