use Rattle.std.proofs.Common.{◌≡◌, map, drop}
use Rattle.httparse.specs.Spans.{header_bytes}
use Rattle.rest_stream.specs.Fields.{value_in}
use Rattle.rest_stream.proofs.fields.value_of.Given as goal

abbrev pub invariant-loop-header : goal.invariant-loop-header
invariant-loop-header l =
    value_in l.name (map (header_bytes l.buf) l.headers) ≡ value_in l.name (map (header_bytes l.buf) (drop l.header-index l.headers))
