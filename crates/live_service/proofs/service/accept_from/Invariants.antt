use Rattle.std.proofs.Common.{◌≡◌, ◌≤◌, ◌-◌}
use Rattle.mover_rounds.specs.Made.{HasRisenBy}
use Rattle.live_service.proofs.service.accept_from.Given as goal

abbrev pub invariant-loop-tried : goal.invariant-loop-tried
invariant-loop-tried g l = record {
  within : l.tried ≤ 16;
  later : g.N.Listener.faults l.initial.listener ≤ g.N.Listener.faults l.listener;
  failed : HasRisenBy l.tried (g.N.Listener.faults l.initial.listener) (g.N.Listener.faults l.listener);
  heard : g.N.Listener.heard l.listener ≡ g.N.Listener.heard l.initial.listener;
  accepted : g.N.Listener.accepted l.listener ≡ g.N.Listener.accepted l.initial.listener;
}

abbrev pub decreases-loop-tried : goal.decreases-loop-tried
decreases-loop-tried g l = 16 - l.tried
