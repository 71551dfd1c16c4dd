use Rattle.std.proofs.Common.{◌≡◌, ◌≤◌, ◌<◌, ℕ, true, length}
use Rattle.task_planner.specs.Groups.{IsListed, group_at}
use Rattle.task_planner.specs.Queue.{fits_slot, slot_at}
use Rattle.task_planner.proofs.queue.first_of.Given as goal

abbrev pub invariant-loop-group : goal.invariant-loop-group
invariant-loop-group l = record {
  within : l.best ≤ length l.slots;
  fits : l.best < length l.slots → fits_slot l.caps l.counts l.may_lead (slot_at l.slots l.best) ≡ true;
  least : (g i : ℕ) → g < l.group-index → IsListed (group_at l.groups g) i → fits_slot l.caps l.counts l.may_lead (slot_at l.slots i) ≡ true → l.best ≤ i;
}
