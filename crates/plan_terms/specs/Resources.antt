-- The four resources, by their places among four numbers.
use Rattle.std.specs.Prelude.{ℕ}

-- the processors, in percent
abbrev pub CPU : ℕ
CPU = 0

-- what comes in over the network, in KB/s
abbrev pub NW_IN : ℕ
NW_IN = 1

-- what goes out over the network to clients, in KB/s
abbrev pub NW_OUT : ℕ
NW_OUT = 2

-- disk space, in MB
abbrev pub DISK : ℕ
DISK = 3
