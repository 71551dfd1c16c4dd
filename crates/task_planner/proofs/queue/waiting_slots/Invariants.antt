use Rattle.std.proofs.Common.{◌≡◌, take, map}
use Rattle.task_planner.specs.Queue.{waiting}
use Rattle.task_planner.proofs.queue.waiting_slots.Given as goal

abbrev pub invariant-loop-proposal : goal.invariant-loop-proposal
invariant-loop-proposal l = l.slots.items ≡ map waiting (take l.proposal-index l.proposals)
