use Rattle.std.proofs.Common.{◌≡◌, drop}
use Rattle.serde_json.specs.View.{items_view}
use Rattle.plan_check.specs.Meaning.{all_of, turn_at}
use Rattle.plan_check.proofs.Items.{with_front}
use Rattle.plan_check.proofs.read.read_turn_list.Given as goal

abbrev pub invariant-loop-value : goal.invariant-loop-value
invariant-loop-value l = with_front l.turns.items (all_of turn_at (items_view (drop l.value-index l.values))) ≡ all_of turn_at (items_view l.values)
