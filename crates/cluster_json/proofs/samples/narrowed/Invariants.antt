use Rattle.std.proofs.Common.{◌≡◌, take}
use Rattle.cluster_json.proofs.samples.narrowed.Given as goal

abbrev pub invariant-loop-sample : goal.invariant-loop-sample
invariant-loop-sample l = l.samples.items ≡ take l.sample-index l.fn.placed
