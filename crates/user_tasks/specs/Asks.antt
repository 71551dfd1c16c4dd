-- A request for a plan, as contracts see it.
use Rattle.std.specs.Prelude.{◌≡◌, ℕ, Bool, true, ◌&&◌, List}
use Rattle.user_tasks.specs.Factors.{changes_topics, fits_op, is_factor}
use Rattle.user_tasks.specs.declared.ask.Op.{Op}

pub record AskView : Type 0 where
  pub op : Op
  pub brokers : List ℕ
  pub goals : List (List ℕ)
  pub skip : Bool
  pub excluded : List (List ℕ)
  pub dryrun : Bool
  pub topics : List (List ℕ)
  pub factor : ℕ

-- what the type keeps of it: where a replication factor is to change, it is one
abbrev pub IsAsk : AskView → Type 0
IsAsk ask = fits_op ask.op ask.factor ≡ true

-- it asks for another replication factor
abbrev pub changes_factor : AskView → Bool
changes_factor ask = changes_topics ask.op && is_factor ask.factor
