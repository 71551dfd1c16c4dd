-- A reader of a stream.
use Rattle.std.specs.Prelude.{ℕ, List, Option}
use Rattle.rest_stream.specs.declared.raw.Stop.{Stop}

-- how far a reader is: the bytes that came and that no request has had yet, how many requests it gave, and why it ended
pub record Progress : Type 0 where
  pub held : List ℕ
  pub given : ℕ
  pub ended : Option Stop
