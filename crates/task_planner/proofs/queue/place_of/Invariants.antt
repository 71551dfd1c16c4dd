use Rattle.std.proofs.Common.{◌≡◌, ◌<◌, ℕ}
use Rattle.task_planner.specs.Groups.{group_at}
use Rattle.task_planner.proofs.queue.place_of.Given as goal

abbrev pub invariant-loop-place : goal.invariant-loop-place
invariant-loop-place l = (g : ℕ) → g < l.place → (group_at l.groups g).key ≡ l.key → ⊥
