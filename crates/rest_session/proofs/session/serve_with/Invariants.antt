use Rattle.std.proofs.Common.{◌<◌, ◌≤◌, ◌-◌, ◌^◌}
use Rattle.std.specs.Prelude.{IsNone}
use Rattle.mover_rounds.specs.Made.{copier_of}
use Rattle.rest_stream.specs.Stream.{stream_of}
use Rattle.rest_session.proofs.Serving.{IsServing}
use Rattle.rest_session.proofs.session.serve_with.Given as goal

abbrev pub invariant-loop-raw : goal.invariant-loop-raw
invariant-loop-raw g l = record {
  open_still : IsNone l.reader.ended;
  few : l.reader.given < 2 ^ 48;
  since : g.X.Asker.since l.initial.asker l.asker;
  since_board : g.V.Reviewer.since l.initial.reviewer l.reviewer;
  serving : IsServing (g.D.Site.offers l.initial.site) (g.L.Source.left l.initial.link) (g.L.Sink.written l.initial.link) (stream_of l.reader.held (g.L.Source.left l.link)) (g.L.Sink.written l.link) l.reader.given (g.X.Asker.known l.initial.asker) (g.X.Asker.known l.asker) (g.V.Reviewer.board l.initial.reviewer) (g.V.Reviewer.board l.reviewer) (copier_of g.K.Copier.copies g.K.Copier.faults l.initial.copier) (copier_of g.K.Copier.copies g.K.Copier.faults l.copier);
  source : g.L.Source.faults l.initial.link ≤ g.L.Source.faults l.link;
  sink : g.L.Sink.faults l.initial.link ≤ g.L.Sink.faults l.link;
}

abbrev pub decreases-loop-raw : goal.decreases-loop-raw
decreases-loop-raw g l = 2 ^ 48 - l.reader.given
