use Rattle.std.proofs.Common.{◌<◌, ◌^◌, take}
use Rattle.std.specs.List.{All}
use Rattle.leader_goals.proofs.least.are_floors.Given as goal

abbrev pub invariant-loop-entry : goal.invariant-loop-entry
invariant-loop-entry l = All (λ m. m.leaders < 2 ^ 32) (take l.entry-index l.min_leaders)
