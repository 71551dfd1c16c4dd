-- JSON that is written in one way, and read back.
use Rattle.std.specs.Prelude.{◌≡◌, ◌≤◌, false}
use Rattle.serde_json.specs.Data.{Data, depth}
use Rattle.serde_json.specs.Read.{max_depth}
use Rattle.serde_json.specs.Written.{has_float}

-- its numbers are whole, and it nests no deeper than a reader of JSON goes
pub record IsPlain (d : Data) : Type 0 where
  pub whole : has_float d ≡ false
  pub shallow : depth d ≤ max_depth
