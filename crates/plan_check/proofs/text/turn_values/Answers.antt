use Rattle.plan_check.specs.Meaning.{turn_at}
use Rattle.plan_check.specs.Text.{turn_data}
use Rattle.plan_check.proofs.Written.{AreWritten-push}
use Rattle.plan_check.proofs.text.turn_values.Goals as goal

pub loop-turn-preserved : goal.loop-turn-preserved
loop-turn-preserved c =
    rw c.in_ok-push.ensures.items (AreWritten-push turn_at turn_data c.args.turns.now c.loop-turn.turn-index c.turn-item.result c.turn-item.result c.loop-turn.values.items _
    c.loop-turn-test.true c.turn-item.is c.in_ok-turn_value.ensures.data c.in_ok-turn_value.ensures.reads c.loop-turn.invariant)
