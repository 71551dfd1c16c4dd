use Rattle.std.proofs.Common.{◌≡◌, map}
use Rattle.load_model.proofs.assign.replica_lists.Given as goal

abbrev pub invariant-loop-list : goal.invariant-loop-list
invariant-loop-list l = l.named.items ≡ map (λ list. list.items) l.yielded
