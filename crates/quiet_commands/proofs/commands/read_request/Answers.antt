use Rattle.std.specs.Prelude.{map, string_bytes}
use Rattle.quiet_commands.proofs.Ranges.{in_range}
use Rattle.quiet_commands.proofs.commands.read_request.Goals as goal

pub invariant_of-result : goal.invariant_of-result
invariant_of-result c =
    let range = in_range _ (map string_bytes c.args.words.now) (rw c.in-Gen.is at c.in_ok-file.ensures.ok) in
    record { seed_fits = range.seed; some_brokers = range.some; few_brokers = range.few; few_partitions = range.parts }
