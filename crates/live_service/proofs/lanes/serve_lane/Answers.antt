use Rattle.std.proofs.Common.{refl}
use Rattle.mover_rounds.specs.Made.{copier_of}
use Rattle.mover_workers.specs.Since.{since_itself, since_on}
use Rattle.live_service.specs.Asked.{offering}
use Rattle.live_service.specs.Since.{board_since_itself, board_since_on}
use Rattle.live_service.specs.Views.{link_of, net_of}
use Rattle.live_service.proofs.Laning.{lane_failed, lane_more, lane_none}
use Rattle.live_service.proofs.lanes.serve_lane.Goals as goal

pub loop-init : goal.loop-init
loop-init g c = record {
  since = since_itself c.args.caller.now;
  board_since = board_since_itself c.args.board.now;
  served = lane_none (offering c.args.page) c.args.caller.now c.args.board.now (copier_of g.K.Copier.copies g.K.Copier.faults c.args.copier.now) (net_of g.N.Listener.faults g.N.Listener.accepted g.N.Listener.heard c.args.listener);
}

pub loop-preserved : goal.loop-preserved
loop-preserved g c =
    let view = copier_of g.K.Copier.copies g.K.Copier.faults in
    let net = net_of g.N.Listener.faults g.N.Listener.accepted g.N.Listener.heard in
    let link = link_of g.N.Conn.Source.left g.N.Conn.Sink.written g.N.Conn.Source.faults g.N.Conn.Sink.faults in
    let inv = c.loop.invariant in
    let next = c.serve_one-end in
    record {
      since = since_on c.args.caller.now c.loop.caller next.new.caller inv.since next.ensures.since;
      board_since = board_since_on c.args.board.now c.loop.board next.new.board inv.board_since next.ensures.board_since;
      served = rw c.wants_after-wants.ensures (lane_more (offering c.args.page) c.args.caller.now c.loop.caller c.args.board.now c.loop.board inv.since inv.board_since (view c.args.copier.now) (view c.loop.copier) (net c.args.listener) (net c.loop.listener) c.loop.wants inv.served
          next.new.caller next.new.board next.ensures.since next.ensures.board_since (view next.new.copier) (net c.accept_from.new.listener) (link c.in-Ok.link) (link next.new.link) next.result c.in-Ok.ensures.accepted c.accept_from.ensures.later c.in-Ok.ensures.fresh next.ensures.served.answered next.ensures.served.cause);
    }

pub returns-in_default-clause-served : goal.returns-in_default-clause-served
returns-in_default-clause-served g c =
    let view = copier_of g.K.Copier.copies g.K.Copier.faults in
    let net = net_of g.N.Listener.faults g.N.Listener.accepted g.N.Listener.heard in
    let inv = c.loop.invariant in
    lane_failed (offering c.args.page) c.args.caller.now c.loop.caller c.args.board.now c.loop.board inv.since inv.board_since (view c.args.copier.now) (view c.loop.copier) (net c.args.listener) (net c.loop.listener) c.loop.wants inv.served (net c.accept_from.new.listener) c.in_default.ensures.failed c.in_default.ensures.given_up c.accept_from.ensures.later
