use Rattle.std.proofs.Common.{◌≡◌, ◌++◌, take}
use Rattle.goal_set.specs.Read.{kinds_named}
use Rattle.goal_set.proofs.list.push_named.Given as goal

abbrev pub invariant-loop-name : goal.invariant-loop-name
invariant-loop-name l = l.kinds.items ≡ l.initial.kinds.items ++ kinds_named l.hard (take l.name-index l.names)
