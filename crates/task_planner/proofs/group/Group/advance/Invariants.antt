use Rattle.std.proofs.Common.{◌≡◌, ◌≤◌, ◌<◌, ◌-◌, ℕ, false, length, get_or}
use Rattle.task_planner.specs.Queue.{slot_at}
use Rattle.task_planner.proofs.group.Group.advance.Given as goal

abbrev pub invariant-loop-self : goal.invariant-loop-self
invariant-loop-self l = record {
  key_is : l.self-inside.key ≡ l.initial.self-inside.key;
  tasks_are : l.self-inside.tasks.items ≡ l.initial.self-inside.tasks.items;
  later : l.initial.self-inside.head ≤ l.self-inside.head;
  passed : (a : ℕ) → l.initial.self-inside.head ≤ a → a < l.self-inside.head → (slot_at l.slots (get_or l.self-inside.tasks.items a 0)).waits ≡ false;
}

abbrev pub decreases-loop-self : goal.decreases-loop-self
decreases-loop-self l = length l.self-inside.tasks.items - l.self-inside.head
