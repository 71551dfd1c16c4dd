use Rattle.std.proofs.Common.{◌≡◌, ◌≤◌, ◌<◌, ℕ, false, get_or}
use Rattle.task_planner.specs.Queue.{fits_slot, slot_at}
use Rattle.task_planner.proofs.group.Group.first_fitting.Given as goal

abbrev pub invariant-loop-place : goal.invariant-loop-place
invariant-loop-place l = (a : ℕ) → l.self.head ≤ a → a < l.place → fits_slot l.caps l.counts l.may_lead (slot_at l.slots (get_or l.self.tasks a 0)) ≡ false
