use Rattle.std.proofs.Common.{take}
use Rattle.plan_check.specs.Meaning.{turn_at}
use Rattle.plan_check.specs.Text.{turn_data}
use Rattle.plan_check.proofs.Written.{AreWritten}
use Rattle.plan_check.proofs.text.turn_values.Given as goal

abbrev pub invariant-loop-turn : goal.invariant-loop-turn
invariant-loop-turn l = AreWritten turn_at turn_data (take l.turn-index l.turns) l.values.items
