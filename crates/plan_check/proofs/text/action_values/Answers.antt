use Rattle.std.proofs.Common.{refl}
use Rattle.plan_check.specs.Meaning.{action_at}
use Rattle.plan_check.specs.Text.{action_data}
use Rattle.plan_check.proofs.Written.{AreWritten-push}
use Rattle.plan_check.proofs.text.action_values.Goals as goal

pub loop-action-preserved : goal.loop-action-preserved
loop-action-preserved c =
    rw c.in_ok-push.ensures.items (AreWritten-push action_at action_data c.args.actions.now c.loop-action.action-index _ _ c.loop-action.values.items _
    c.loop-action-test.true refl c.in_ok-action_value.ensures.data c.in_ok-action_value.ensures.reads c.loop-action.invariant)
