use Rattle.std.proofs.Common.{◌≡◌, map, take}
use Rattle.std.specs.List.{enumerate_from}
use Rattle.core_terms.specs.Shows.{part_shown}
use Rattle.core_cases.proofs.shows.parts_shown.Given as goal

abbrev pub invariant-loop-place : goal.invariant-loop-place
invariant-loop-place l = l.shown.items ≡ map (part_shown l.exec) (enumerate_from 0 (take l.place l.parts))
