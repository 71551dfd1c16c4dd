use Rattle.std.proofs.Common.{◌≡◌, ℕ, ◌+◌, map, take, get_or}
use Rattle.std.specs.List.{All}
use Rattle.core_terms.specs.Submits.{no_part}
use Rattle.core_cases.specs.Carried.{IsWithin, with_list}
use Rattle.core_cases.proofs.carried.Carried.add_list.Given as goal

abbrev pub invariant-loop-place : goal.invariant-loop-place
invariant-loop-place l = record {
  rows : l.self ≡ map (with_list (get_or l.case.parts l.part no_part) (take l.place l.list)) l.fn.self;
  within : (n : ℕ) → All (IsWithin n) l.fn.self → All (IsWithin (n + l.place)) l.self;
}
