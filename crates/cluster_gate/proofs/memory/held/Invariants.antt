use Rattle.std.proofs.Common.{◌≡◌, take}
use Rattle.cluster_gate.proofs.memory.held.Given as goal

abbrev pub invariant-loop-list : goal.invariant-loop-list
invariant-loop-list l = l.out.items ≡ take l.list-index l.lists
