use Rattle.std.proofs.Common.{◌≡◌, map, take}
use Rattle.std.specs.Prelude.{option_map}
use Rattle.plan_terms.specs.Racks.{rack_of}
use Rattle.factor_change.proofs.choice.racks_of.Given as goal

abbrev pub invariant-loop-member : goal.invariant-loop-member
invariant-loop-member l = map (option_map (λ r. r.now)) l.racks.items ≡ map (rack_of l.fn.case) (take l.member-index l.list)
