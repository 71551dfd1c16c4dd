-- A journal as contracts see it.
use Rattle.std.specs.Prelude.{ℕ, List}

-- the events of a journal, in order, and how many it has room for
pub record JournalView (E : Type 0) : Type 0 where
  pub events : List E
  pub room : ℕ
