-- The numbers that are drawn from a seed.
use Rattle.std.specs.Prelude.{ℕ, ◌+◌, ◌*◌, ◌/◌, ◌%◌, zero, suc}

-- one step of the generator: a linear congruential one modulo 2^31
abbrev pub next_state : ℕ → ℕ
next_state x = (1103515245 * x + 12345) % 2147483648

-- its state after so many steps from a seed
abbrev pub state_after : ℕ → ℕ → ℕ
state_after zero seed = seed
state_after (suc n) seed = next_state (state_after n seed)

-- the draw at a place, from 0, below m
unfoldable pub draw : ℕ → ℕ → ℕ → ℕ
draw seed place m = (state_after (suc place) seed / 65536) % m
