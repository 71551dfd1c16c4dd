-- The requests of a stream of bytes.
use Rattle.std.specs.Prelude.{◌≡◌, ◌≤◌, ◌<◌, ◌⊎◌, ⊤, ℕ, suc, ◌^◌, Bool, ◌||◌, ◌==◌, nat_le, List, [], ◌∷◌, ◌++◌, length, take, map, IsTrue, IsFalse, Option, option_map, Result, Ok, Err, codes}
use Rattle.httparse.specs.Grammar.{EndsInTarget, RequestHead, print_request, ReadsRequest, HasNoRequest, NeverHasRequest, MayBecomeRequest}
use Rattle.httparse.specs.Spans.{name_and_value}
use Rattle.cc_base.specs.Outside.{HasRisen}
use Rattle.rest_stream.specs.Fields.{Named, asks_to_close, framing, value_in}
use Rattle.rest_stream.specs.declared.raw.RawRequest.{RawRequest}
use Rattle.rest_stream.specs.declared.raw.Stop.{Stop}
use Rattle.rest_stream.specs.declared.raw.Stop.TheVariants as stop

-- the fields of a head, as names and values
abbrev pub fields_of : RequestHead → List Named
fields_of h = map name_and_value h.fields

-- the link ends behind a request with this head: HTTP/1.0, or a field that says so
abbrev pub closes : RequestHead → Bool
closes h = (h.minor == 0) || asks_to_close (fields_of h)

-- the request with this head and this body; the last one of a stream closes
abbrev pub request : Bool → RequestHead → List ℕ → RawRequest
request is_last h body = record {
  method = h.method;
  target = h.target;
  key = value_in (codes "user-task-id") (fields_of h);
  closes = closes h || is_last;
  body = body;
}

-- the request behind n others is the last that a stream may have: the 2^48-th
abbrev pub is_last : ℕ → Bool
is_last n = nat_le (2 ^ 48) (suc n)

-- the stream begins with this head, of at most 16,384 bytes, and then `behind`
pub record HasHead (stream : List ℕ) (h : RequestHead) (behind : List ℕ) : Type 0 where
  pub reads : ReadsRequest stream h behind
  pub short : length (print_request h) ≤ 16384

-- the stream begins with this request, which may be the last that a stream may have, and then `rest`
pub record IsRequest (is_last : Bool) (stream : List ℕ) (raw : RawRequest) (rest : List ℕ) : Type 0 where
  pub head : RequestHead
  pub begins : HasHead stream head (raw.body ++ rest)
  pub framed : framing (fields_of head) ≡ Ok (length raw.body)
  pub is : raw ≡ request is_last head raw.body

-- the bytes in which a head is looked for
abbrev pub window : List ℕ → List ℕ
window stream = take 16384 stream

-- the stream begins with a head that is refused for this reason
pub record HasRefusedHead (stream : List ℕ) (why : Stop) : Type 0 where
  pub head : RequestHead
  pub behind : List ℕ
  pub begins : HasHead stream head behind
  pub refused : framing (fields_of head) ≡ Err why

-- the stream begins as a head may, and holds no whole one
pub record IsOpenHead (bytes : List ℕ) : Type 0 where
  pub none : HasNoRequest bytes
  pub goes_on : MayBecomeRequest bytes

-- the stream begins with a head, and ends before its body does
pub record IsCutBody (stream : List ℕ) : Type 0 where
  pub head : RequestHead
  pub behind : List ℕ
  pub size : ℕ
  pub begins : HasHead stream head behind
  pub framed : framing (fields_of head) ≡ Ok size
  pub cut : length behind < size

-- the stream ends inside its first request
abbrev pub IsCut : List ℕ → Type 0
IsCut stream = ((0 < length stream) × (length stream < 16384) × IsOpenHead stream) ⊎ IsCutBody stream

-- why a stream has no further request. Of a fault of the source and of want of memory a stream says nothing.
abbrev pub StopsBy : List ℕ → Stop → Type 0
StopsBy stream stop.End = stream ≡ []
StopsBy stream stop.Truncated = IsCut stream
StopsBy stream stop.BadHead = HasRefusedHead stream stop.BadHead ⊎ NeverHasRequest (window stream)
StopsBy stream stop.BadLength = HasRefusedHead stream stop.BadLength
StopsBy stream stop.HeadTooLong = (16384 ≤ length stream) × IsOpenHead (window stream)
StopsBy stream stop.BodyTooLong = HasRefusedHead stream stop.BodyTooLong
StopsBy stream stop.NoChunked = HasRefusedHead stream stop.NoChunked
StopsBy stream stop.ReadFault = ⊤
StopsBy stream stop.Memory = ⊤

-- how a stream ends: behind a request that closes, or with no further request
pub data Ending : Type 0 where
  closed : Ending
  stopped : Stop → Ending

-- from the one behind n others on, these are the requests of the stream, and so it ends
abbrev pub Requests : ℕ → List ℕ → List RawRequest → Ending → Type 0
Requests n stream [] closed = ⊥
Requests n stream [] (stopped why) = StopsBy stream why
Requests n stream (raw ∷ raws) ending =
    (rest : List ℕ) × IsRequest (is_last n) stream raw rest × (IsTrue raw.closes → (raws ≡ []) × (ending ≡ closed)) × (IsFalse raw.closes → Requests (suc n) rest raws ending)

-- what is left of a stream of which these bytes have come, where the source tells
abbrev pub stream_of : List ℕ → Option (List ℕ) → Option (List ℕ)
stream_of held left = option_map (λ told. held ++ told) left

-- the reason lies outside of the stream: a fault of the source, or want of memory
abbrev pub IsOutside : Stop → Type 0
IsOutside stop.End = ⊥
IsOutside stop.Truncated = ⊥
IsOutside stop.BadHead = ⊥
IsOutside stop.BadLength = ⊥
IsOutside stop.HeadTooLong = ⊥
IsOutside stop.BodyTooLong = ⊥
IsOutside stop.NoChunked = ⊥
IsOutside stop.ReadFault = ⊤
IsOutside stop.Memory = ⊤

-- a bad head, and one that is cut or too long, at once: the first bytes end inside a target that no bytes can end, as one
-- that is no UTF-8
pub record IsUnclear (stream : List ℕ) (a b : Stop) : Type 0 where
  pub bad : (a ≡ stop.BadHead) ⊎ (b ≡ stop.BadHead)
  pub in_target : EndsInTarget (window stream)
  pub never : NeverHasRequest (window stream)

-- so the stream ends, whatever follows these bytes
abbrev pub AlwaysStopsBy : List ℕ → Stop → Type 0
AlwaysStopsBy bytes why = (more : List ℕ) → StopsBy (bytes ++ more) why

-- the bytes begin with a whole head
pub record HoldsHead (bytes : List ℕ) : Type 0 where
  pub head : RequestHead
  pub behind : List ℕ
  pub begins : HasHead bytes head behind

-- nothing was read
abbrev pub ReadsNothing : List ℕ → List ℕ → Option (List ℕ) → Option (List ℕ) → Type 0
ReadsNothing held held_now left left_now = (held_now ≡ held) × (left_now ≡ left)

-- what a call says of its source: a read fault comes only where its faults became more, and else they are as many as before
pub record HasReadCause {T : Type 0} (before now : ℕ) (result : Result T Stop) : Type 0 where
  pub later : before ≤ now
  pub fault : result ≡ Err stop.ReadFault → HasRisen before now
  pub kept : ¬ (result ≡ Err stop.ReadFault) → now ≡ before
