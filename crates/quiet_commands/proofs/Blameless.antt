-- Over an admin of which no call failed, no reply tells a fault of the admin.
use Rattle.std.proofs.Common.{◌≡◌, ◌∙◌, ℕ, List, [], ◌∷◌, refl, sym, subst, arith}
use Rattle.std.specs.Prelude.{Option, Some, None}
use Rattle.std.specs.List.{AllByRecursion}
use Rattle.mover_rounds.specs.declared.drains.DrainEnd.{DrainEnd}
use Rattle.rest_session.specs.Answered.{AreBlamed, IsBlamed, fault_told}
use Rattle.rest_session.specs.Pieces.{Piece}
use Rattle.rest_session.specs.Sessions.{drain_fault}

blameless : (o : Option ℕ) (before now : ℕ) → now ≡ 0 → IsBlamed o before now → (before ≡ 0) × (o ≡ None)
blameless None before now e h = (sym h ∙ e, refl)
blameless (Some n) before now e h = absurd (omega (arith, h.1, e))

none_blamed : (before : ℕ) (ps : List Piece) → AreBlamed before 0 ps → (before ≡ 0) × AllByRecursion (λ p. fault_told p.told_is ≡ None) ps
none_blamed before [] h = (sym h, tt)
none_blamed before (p ∷ ps) h =
    let rest = none_blamed h.0 ps h.2 in
    let first = blameless (fault_told p.told_is) before h.0 rest.0 h.1 in
    (first.0, (first.1, rest.1))

pub no_fault : (before faults now : ℕ) (d : DrainEnd) (ps : List Piece) → now ≡ 0 → IsBlamed (drain_fault d) faults now → AreBlamed before faults ps → AllByRecursion (λ p. fault_told p.told_is ≡ None) ps
no_fault before faults now d ps e drained h = (none_blamed before ps (subst (λ n. AreBlamed before n ps) (blameless (drain_fault d) faults now e drained).0 h)).1
