use Rattle.std.proofs.Common.{◌≡◌, ◌<◌, ◌≤◌, ◌-◌, ◌^◌}
use Rattle.std.specs.Prelude.{IsNone}
use Rattle.rest_stream.specs.Stream.{stream_of}
use Rattle.rest_stream.specs.Whole.{Leads}
use Rattle.rest_stream.proofs.whole.read_whole.Given as goal

abbrev pub invariant-loop-raw : goal.invariant-loop-raw
invariant-loop-raw g l = record {
  open_still : IsNone l.reader.ended;
  few : l.reader.given < 2 ^ 48;
  leads : Leads (g.S.Source.left l.fn.source) l.requests.items l.reader.given (stream_of l.reader.held (g.S.Source.left l.source));
  later : g.S.Source.faults l.fn.source ≤ g.S.Source.faults l.source;
  beside : g.S.Source.beside l.source ≡ g.S.Source.beside l.fn.source;
}

abbrev pub decreases-loop-raw : goal.decreases-loop-raw
decreases-loop-raw g l = 2 ^ 48 - l.reader.given
