-- Why a stream has no further request, and the answer that says so.
use Rattle.std.specs.Prelude.{◌≡◌, ⊤, Option, Some, None, Result, Ok, Err}
use Rattle.rest_stream.specs.declared.raw.Next.{Next}
use Rattle.rest_stream.specs.declared.raw.Next.TheVariants as next
use Rattle.rest_stream.specs.declared.raw.RawRequest.{RawRequest}
use Rattle.rest_stream.specs.declared.raw.Stop.{Stop}
use Rattle.rest_stream.specs.declared.raw.Stop.TheVariants as stop

-- the answer that says why
abbrev pub answer : Stop → Next
answer stop.End = next.End
answer stop.Truncated = next.Truncated
answer stop.BadHead = next.BadHead
answer stop.BadLength = next.BadLength
answer stop.HeadTooLong = next.HeadTooLong
answer stop.BodyTooLong = next.BodyTooLong
answer stop.NoChunked = next.NoChunked
answer stop.ReadFault = next.ReadFault
answer stop.Memory = next.Memory

-- why there is no request, where there is none
abbrev pub stop_of : Next → Option Stop
stop_of (next.Request raw) = None
stop_of next.End = Some stop.End
stop_of next.Truncated = Some stop.Truncated
stop_of next.BadHead = Some stop.BadHead
stop_of next.BadLength = Some stop.BadLength
stop_of next.HeadTooLong = Some stop.HeadTooLong
stop_of next.BodyTooLong = Some stop.BodyTooLong
stop_of next.NoChunked = Some stop.NoChunked
stop_of next.ReadFault = Some stop.ReadFault
stop_of next.Memory = Some stop.Memory

-- P of the request, where there is one
abbrev pub IfRequest : Next → (RawRequest → Type 0) → Type 0
IfRequest (next.Request raw) P = P raw
IfRequest next.End P = ⊤
IfRequest next.Truncated P = ⊤
IfRequest next.BadHead P = ⊤
IfRequest next.BadLength P = ⊤
IfRequest next.HeadTooLong P = ⊤
IfRequest next.BodyTooLong P = ⊤
IfRequest next.NoChunked P = ⊤
IfRequest next.ReadFault P = ⊤
IfRequest next.Memory P = ⊤

-- the request, or why there is none
abbrev pub IsOutcome : Next → Result RawRequest Stop → Type 0
IsOutcome n (Ok raw) = n ≡ next.Request raw
IsOutcome n (Err why) = stop_of n ≡ Some why
