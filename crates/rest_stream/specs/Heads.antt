-- What bytes are as the front of a head.
use Rattle.std.specs.Prelude.{◌≡◌, ℕ, Bool, ◌||◌, List, drop, length, Ok, codes}
use Rattle.httparse.specs.Grammar.{NeverHasRequest, RequestHead, print_request}
use Rattle.httparse.specs.Spans.{IsRequestAt, IsRequestOf, IsRequestWithin}
use Rattle.httparse.specs.declared.spans.HeaderSpan.{HeaderSpan}
use Rattle.httparse.specs.declared.spans.RequestSpans.{RequestSpans}
use Rattle.rest_stream.specs.Fields.{framing, value_in}
use Rattle.rest_stream.specs.Stream.{HasHead, IsOpenHead, closes, fields_of, window}
use Rattle.rest_stream.specs.declared.raw.RawRequest.{RawRequest}
use Rattle.rest_stream.specs.declared.request.Framed.{Framed}
use Rattle.rest_stream.specs.declared.request.Head.{Head}
use Rattle.rest_stream.specs.declared.heads.HeadState.{HeadState}
use Rattle.rest_stream.specs.declared.heads.HeadState.TheVariants.{Whole, Open, Bad}

-- the bytes begin with a head, or hold none yet, or never will
abbrev pub MeansOf : List ℕ → List HeaderSpan → HeadState → Type 0
MeansOf buf headers (Whole spans) = IsRequestWithin buf headers spans × IsRequestOf buf headers spans
MeansOf buf headers Open = IsOpenHead buf
MeansOf buf headers Bad = NeverHasRequest buf

-- the first bytes that came are a head, and the spans are its parts
pub record IsFound (held : List ℕ) (headers : List HeaderSpan) (spans : RequestSpans) : Type 0 where
  pub within : IsRequestWithin (window held) headers spans
  pub head : RequestHead
  pub at : IsRequestAt (window held) headers spans head

-- what a request keeps of a head
abbrev pub parts : RequestHead → Head
parts h = record { method = h.method; target = h.target; key = value_in (codes "user-task-id") (fields_of h); closes = closes h }

-- the request with what is kept of its head, and with its body
abbrev pub request_with : Head → List ℕ → Bool → RawRequest
request_with head body is_last = record { method = head.method; target = head.target; key = head.key; closes = head.closes || is_last; body = body }

-- the stream begins with a head of this length, which frames a body of this size
pub record IsFramed (stream : List ℕ) (f : Framed) : Type 0 where
  pub head : RequestHead
  pub begins : HasHead stream head (drop f.len stream)
  pub len : f.len ≡ length (print_request head)
  pub framed : framing (fields_of head) ≡ Ok f.size
  pub kept : f.head ≡ parts head
