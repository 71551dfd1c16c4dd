-- All requests of a stream.
use Rattle.std.specs.Prelude.{⊤, ℕ, List, ◌++◌, Option, Some, None}
use Rattle.rest_stream.specs.Stream.{Ending, Requests, closed, stopped}
use Rattle.rest_stream.specs.declared.raw.RawRequest.{RawRequest}
use Rattle.rest_stream.specs.declared.raw.Stop.{Stop}

-- how the stream ends: behind a request that closes, where nothing else is told
abbrev pub ending : Option Stop → Ending
ending None = closed
ending (Some why) = stopped why

-- n requests were read of a stream; with those of what is left they are those of the whole, where the source tells
abbrev pub Leads : Option (List ℕ) → List RawRequest → ℕ → Option (List ℕ) → Type 0
Leads None raws n rest = ⊤
Leads (Some stream) raws n None = ⊥
Leads (Some stream) raws n (Some rest) = (more : List RawRequest) (end : Ending) → Requests n rest more end → Requests 0 stream (raws ++ more) end
