use Rattle.std.proofs.Common.{◌≡◌, drop}
use Rattle.serde_json.specs.View.{items_view}
use Rattle.plan_check.specs.Meaning.{all_of, number_at}
use Rattle.plan_check.proofs.Items.{with_front}
use Rattle.plan_check.proofs.read.read_numbers.Given as goal

abbrev pub invariant-loop-value : goal.invariant-loop-value
invariant-loop-value l = with_front l.numbers.items (all_of number_at (items_view (drop l.value-index l.values))) ≡ all_of number_at (items_view l.values)
