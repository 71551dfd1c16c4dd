use Rattle.std.proofs.Common.{◌≡◌, ◌-◌, ◌≤◌}
use Rattle.mover_rounds.specs.Made.{HasDone, copier_of}
use Rattle.mover_rounds.proofs.pumps.pump.Given as goal

abbrev pub decreases-loop-done : goal.decreases-loop-done
decreases-loop-done g l = l.steps - l.done

abbrev pub invariant-loop-done : goal.invariant-loop-done
invariant-loop-done g l = record {
  within : l.done ≤ l.steps;
  since : g.X.Asker.since l.initial.asker l.asker;
  did : HasDone (g.X.Asker.known l.initial.asker) (g.X.Asker.known l.asker) (copier_of g.K.Copier.copies g.K.Copier.faults l.initial.copier) (copier_of g.K.Copier.copies g.K.Copier.faults l.copier) l.done;
  kept : (g.X.Asker.known l.asker).blamed ≡ (g.X.Asker.known l.initial.asker).blamed;
}
