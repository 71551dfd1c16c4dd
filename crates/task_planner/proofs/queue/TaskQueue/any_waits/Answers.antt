use Rattle.std.proofs.Common.{◌∙◌, ap, nat_lt}
use Rattle.task_planner.proofs.Grouped.{some-counted}
use Rattle.task_planner.proofs.queue.TaskQueue.any_waits.Goals as goal

pub returns : goal.returns
returns c = rw (← c.self.view_is) (ap (nat_lt 0) c.self.invariant.waiting_are ∙ some-counted (λ s. s.waits) c.self.inside.slots.items)
