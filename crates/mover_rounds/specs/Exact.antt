-- What a pump and a drain of the owner of a book make: no other actor ends a lease, so no copy is lost.
use Rattle.std.specs.Prelude.{◌≡◌, ℕ}
use Rattle.core_terms.specs.declared.pumps.PumpEnd.{PumpEnd}
use Rattle.mover_rounds.specs.Asked.{Known}
use Rattle.mover_rounds.specs.Drained.{IsDrained}
use Rattle.mover_rounds.specs.Made.{Copies, HasMade, IsPumped, copies_of}
use Rattle.mover_rounds.specs.declared.drains.DrainEnd.{DrainEnd}

-- the rounds of a pump, and the copies are just those that its entries name
abbrev pub HasPumpedAlone : Known → Known → Copies → Copies → ℕ → PumpEnd → Type 0
HasPumpedAlone v w k l steps end = HasMade (λ made copies. IsPumped v.rules w.seen steps end made copies × (copies ≡ copies_of made)) v w k l

-- the rounds of a drain, and so are they
abbrev pub HasDrainedAlone : Known → Known → Copies → Copies → DrainEnd → Type 0
HasDrainedAlone v w k l end = HasMade (λ made copies. IsDrained v.rules w.seen end made copies × (copies ≡ copies_of made)) v w k l
