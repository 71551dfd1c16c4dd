use Rattle.std.proofs.Common.{◌≡◌, map, drop}
use Rattle.httparse.specs.Spans.{header_bytes}
use Rattle.rest_stream.specs.Fields.{asks_to_close}
use Rattle.rest_stream.proofs.fields.asks_to_close.Given as goal

abbrev pub invariant-loop-header : goal.invariant-loop-header
invariant-loop-header l =
    asks_to_close (map (header_bytes l.buf) l.headers) ≡ asks_to_close (map (header_bytes l.buf) (drop l.header-index l.headers))
