use Rattle.std.proofs.Common.{◌-◌}
use Rattle.task_index.proofs.Firsts.{IsFirst}
use Rattle.task_index.proofs.flags.FlagTree.first.Given as goal

abbrev pub invariant-loop-step : goal.invariant-loop-step
invariant-loop-step l = IsFirst l.self-inside.levels.items (l.top - l.step) l.place
