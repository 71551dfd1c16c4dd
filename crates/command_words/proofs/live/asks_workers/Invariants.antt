use Rattle.std.proofs.Common.{◌≡◌, length, map, string_bytes}
use Rattle.command_words.specs.Live.{asks_workers}
use Rattle.command_words.proofs.live.asks_workers.Given as goal

abbrev pub invariant-loop-rest : goal.invariant-loop-rest
invariant-loop-rest l = asks_workers (map string_bytes l.rest) ≡ asks_workers (map string_bytes l.words)

abbrev pub decreases-loop-rest : goal.decreases-loop-rest
decreases-loop-rest l = length l.rest
