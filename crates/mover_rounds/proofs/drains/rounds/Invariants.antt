use Rattle.std.proofs.Common.{◌≡◌}
use Rattle.control_core.specs.Books.{state_of}
use Rattle.core_laws.specs.Alone.{IsQuiet, active_jobs}
use Rattle.mover_rounds.specs.Drained.{AreSome}
use Rattle.mover_rounds.specs.Made.{HasMade, copier_of}
use Rattle.control_core.specs.Books.{IsSince}
use Rattle.mover_rounds.specs.Owned.{known_by_owner}
use Rattle.mover_rounds.specs.Asked.{core_rules}
use Rattle.mover_rounds.proofs.drains.rounds.Given as goal

abbrev pub invariant-loop-number : goal.invariant-loop-number
invariant-loop-number g l = record {
  since : IsSince g.A.Admin.faults l.initial.book l.book;
  did : HasMade (AreSome (core_rules l.initial.book.file) l.book.journal) (known_by_owner l.initial.book) (known_by_owner l.book) (copier_of g.K.Copier.copies g.K.Copier.faults l.initial.copier) (copier_of g.K.Copier.copies g.K.Copier.faults l.copier);
  quiet : IsQuiet (state_of l.book).desk;
  kept : l.book.failures ≡ l.initial.book.failures;
}

abbrev pub decreases-loop-number : goal.decreases-loop-number
decreases-loop-number g l = active_jobs (state_of l.book).desk
