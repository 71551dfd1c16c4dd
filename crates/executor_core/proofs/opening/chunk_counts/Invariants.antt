use Rattle.std.proofs.Common.{◌≡◌, take, map}
use Rattle.plan_terms.specs.declared.cluster.Part.{Part}
use Rattle.executor_core.proofs.opening.chunk_counts.Given as goal

abbrev pub invariant-loop-part : goal.invariant-loop-part
invariant-loop-part l = l.counts.items ≡ map (λ (p : Part). p.chunks) (take l.part-index l.parts)
