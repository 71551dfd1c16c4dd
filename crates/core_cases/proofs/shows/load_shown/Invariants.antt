use Rattle.std.proofs.Common.{◌≡◌, ◌*◌, [], ◌∷◌, map}
use Rattle.std.specs.List.{All}
use Rattle.plan_terms.specs.Legal.{each_below}
use Rattle.exec_terms.specs.Machine.{list_now}
use Rattle.core_terms.specs.Shows.{broker_shown}
use Rattle.core_cases.specs.Carried.{IsWithin}
use Rattle.core_cases.proofs.shows.load_shown.Given as goal

abbrev pub invariant-loop-part : goal.invariant-loop-part
invariant-loop-part l = record {
  rows : l.carried ≡ map (broker_shown l.case (each_below (λ p. list_now l.exec p ∷ []) l.part)) l.case.brokers;
  within : All (IsWithin (16 * l.part)) l.carried;
}
