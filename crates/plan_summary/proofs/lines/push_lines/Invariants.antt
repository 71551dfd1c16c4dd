use Rattle.std.proofs.Common.{◌≡◌, ◌++◌, map, take}
use Rattle.plan_summary.specs.Summary.{goal_lines}
use Rattle.plan_summary.proofs.lines.push_lines.Given as goal

abbrev pub invariant-loop-turn : goal.invariant-loop-turn
invariant-loop-turn l = l.text.items ≡ l.initial.text.items ++ goal_lines l.case l.start.lists l.end.lists (map (λ t. t.goal) (take l.turn-index l.turns))
