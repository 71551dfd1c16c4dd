use Rattle.std.proofs.Common.{◌≡◌}
use Rattle.mover_rounds.specs.Made.{HasMade, copier_of}
use Rattle.mover_workers.specs.Loops.{AreUnits, IsMoveUnit}
use Rattle.mover_workers.proofs.loops.make_moves.Given as goal

abbrev pub invariant-loop : goal.invariant-loop
invariant-loop g l = record {
  since : g.X.Asker.since l.initial.asker l.asker;
  did : HasMade (AreUnits (IsMoveUnit (g.X.Asker.known l.initial.asker).rules (g.X.Asker.known l.asker).seen)) (g.X.Asker.known l.initial.asker) (g.X.Asker.known l.asker)
      (copier_of g.K.Copier.copies g.K.Copier.faults l.initial.copier) (copier_of g.K.Copier.copies g.K.Copier.faults l.copier);
  kept : (g.X.Asker.known l.asker).blamed ≡ (g.X.Asker.known l.initial.asker).blamed;
}
