use Rattle.std.proofs.Common.{false}
use Rattle.mover_rounds.specs.Made.{copier_of}
use Rattle.mover_workers.specs.Callers.{IsSince}
use Rattle.live_service.specs.Asked.{offering}
use Rattle.live_service.specs.Boards.{IsBoardCallerSince}
use Rattle.live_service.specs.Lanes.{HasServedLane, lane_state}
use Rattle.live_service.specs.Views.{net_of}
use Rattle.live_service.proofs.lanes.serve_lane.Given as goal

abbrev pub invariant-loop : goal.invariant-loop
invariant-loop g l = record {
  since : IsSince l.initial.caller l.caller;
  board_since : IsBoardCallerSince l.initial.board l.board;
  served : HasServedLane l.initial.caller.turn.start.file (offering l.initial.page) l.initial.board.reviews
      (lane_state l.initial.caller.pass l.initial.board.pass (copier_of g.K.Copier.copies g.K.Copier.faults l.initial.copier))
      (lane_state l.caller.pass l.board.pass (copier_of g.K.Copier.copies g.K.Copier.faults l.copier))
      (net_of g.N.Listener.faults g.N.Listener.accepted g.N.Listener.heard l.initial.listener)
      (record { net = net_of g.N.Listener.faults g.N.Listener.accepted g.N.Listener.heard l.listener; failed = false; wants = l.wants });
}
