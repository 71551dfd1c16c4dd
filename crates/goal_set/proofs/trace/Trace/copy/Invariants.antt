use Rattle.std.proofs.Common.{◌≡◌, take}
use Rattle.goal_set.proofs.trace.Trace.copy.Given as goal

abbrev pub invariant-loop-turn : goal.invariant-loop-turn
invariant-loop-turn l = l.turns.items ≡ take l.turn-index l.self.turns.items
