use Rattle.std.proofs.Common.{◌≡◌, take}
use Rattle.request_runs.proofs.lists.lists_told.Given as goal

-- the first lists are copied
abbrev pub invariant-loop-part : goal.invariant-loop-part
invariant-loop-part l = l.lists.items ≡ take l.part l.cluster.lists.items
