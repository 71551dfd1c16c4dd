-- The replication factor that a request asks for.
use Rattle.std.specs.Prelude.{ℕ, Bool, true, false, ◌&&◌, ◌||◌, not, nat_le}
use Rattle.user_tasks.specs.declared.ask.Op.{Op}
use Rattle.user_tasks.specs.declared.ask.Op.TheVariants.{TopicConfiguration}

-- the replication factor of topics is to change
abbrev pub changes_topics : Op → Bool
changes_topics TopicConfiguration = true
changes_topics _ = false

-- a list of replicas can be so long
abbrev pub is_factor : ℕ → Bool
is_factor n = nat_le 1 n && nat_le n 8

-- where a factor is to change, it is one
abbrev pub fits_op : Op → ℕ → Bool
fits_op op n = not (changes_topics op) || is_factor n
