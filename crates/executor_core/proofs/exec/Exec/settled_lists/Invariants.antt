use Rattle.std.proofs.Common.{◌≡◌, [], ◌∷◌}
use Rattle.plan_terms.specs.Legal.{each_below}
use Rattle.exec_terms.specs.Settled.{settled}
use Rattle.executor_core.proofs.exec.Exec.settled_lists.Given as goal

abbrev pub invariant-loop-part : goal.invariant-loop-part
invariant-loop-part l = l.lists.items ≡ each_below (λ p. settled l.self p ∷ []) l.part
