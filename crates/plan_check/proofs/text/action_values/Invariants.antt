use Rattle.std.proofs.Common.{take}
use Rattle.plan_check.specs.Meaning.{action_at}
use Rattle.plan_check.specs.Text.{action_data}
use Rattle.plan_check.proofs.Written.{AreWritten}
use Rattle.plan_check.proofs.text.action_values.Given as goal

abbrev pub invariant-loop-action : goal.invariant-loop-action
invariant-loop-action l = AreWritten action_at action_data (take l.action-index l.actions) l.values.items
