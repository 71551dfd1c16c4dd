use Rattle.std.proofs.Common.{◌≡◌, map, drop}
use Rattle.httparse.specs.Spans.{header_bytes}
use Rattle.rest_stream.specs.Fields.{all_agree}
use Rattle.rest_stream.proofs.fields.all_agree.Given as goal

abbrev pub invariant-loop-header : goal.invariant-loop-header
invariant-loop-header l =
    all_agree l.name l.value (map (header_bytes l.buf) l.headers) ≡ all_agree l.name l.value (map (header_bytes l.buf) (drop l.header-index l.headers))
