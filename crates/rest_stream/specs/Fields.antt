-- What the fields of a head say. A field is its name, and its value without the blanks around it.
use Rattle.std.specs.Prelude.{⊤, ℕ, Bool, true, false, not, ◌&&◌, ◌||◌, nat_lt, List, [], ◌∷◌, length, map, bytes_eq, if◌then◌else◌, is_some, Option, Some, None, Result, Ok, Err, codes}
use Rattle.std.specs.Char.{to_ascii_lowercase}
use Rattle.plan_terms.specs.Digits.{number_of}
use Rattle.rest_stream.specs.declared.raw.Stop.{Stop}
use Rattle.rest_stream.specs.declared.raw.Stop.TheVariants as stop

-- a name and a value
abbrev pub Named : Type 0
Named = List ℕ × List ℕ

-- two texts, without regard to ASCII case
abbrev pub same_name : List ℕ → List ℕ → Bool
same_name a b = bytes_eq (map to_ascii_lowercase a) (map to_ascii_lowercase b)

-- the value of the first field of a name
abbrev pub value_in : List ℕ → List Named → Option (List ℕ)
value_in name [] = None
value_in name (p ∷ rest) = if same_name p.0 name then Some p.1 else value_in name rest

-- each field of the name has this value
abbrev pub all_agree : List ℕ → List ℕ → List Named → Bool
all_agree name value [] = true
all_agree name value (p ∷ rest) = (not (same_name p.0 name) || bytes_eq p.1 value) && all_agree name value rest

-- a `Connection` field has the value `close`
abbrev pub asks_to_close : List Named → Bool
asks_to_close [] = false
asks_to_close (p ∷ rest) = (same_name p.0 (codes "connection") && same_name p.1 (codes "close")) || asks_to_close rest

abbrev stated : Option (List ℕ) → List Named → Option ℕ
stated None fields = Some 0
stated (Some value) fields = if all_agree (codes "content-length") value fields then number_of 19 value else None

-- the length of the body: 0 without a `Content-Length`; none where one isn't 1 to 19 digits, or two of them differ
abbrev pub body_length : List Named → Option ℕ
body_length fields = stated (value_in (codes "content-length") fields) fields

-- a body of this length, unless it is encoded or too long
abbrev pub framed_by : ℕ → Bool → Result ℕ Stop
framed_by n is_encoded = if is_encoded then Err stop.NoChunked else (if nat_lt 1048576 n then Err stop.BodyTooLong else Ok n)

abbrev with_length : Option ℕ → List Named → Result ℕ Stop
with_length None fields = Err stop.BadLength
with_length (Some n) fields = framed_by n (is_some (value_in (codes "transfer-encoding") fields))

-- the length of the body behind a head with these fields, or why the head is refused: it has more than 64 fields, states no
-- length, has a `Transfer-Encoding`, or its body is longer than 1,048,576 bytes; the first of these that holds
abbrev pub framing : List Named → Result ℕ Stop
framing fields = if nat_lt 64 (length fields) then Err stop.BadHead else with_length (body_length fields) fields

-- a reason to refuse a whole head
abbrev pub IsRefusal : Stop → Type 0
IsRefusal stop.End = ⊥
IsRefusal stop.Truncated = ⊥
IsRefusal stop.BadHead = ⊤
IsRefusal stop.BadLength = ⊤
IsRefusal stop.HeadTooLong = ⊥
IsRefusal stop.BodyTooLong = ⊤
IsRefusal stop.NoChunked = ⊤
IsRefusal stop.ReadFault = ⊥
IsRefusal stop.Memory = ⊥
