use Rattle.std.proofs.Common.{◌≡◌, [], ◌∷◌}
use Rattle.plan_terms.specs.Legal.{each_below}
use Rattle.exec_terms.specs.Machine.{list_now}
use Rattle.executor_core.proofs.exec.Exec.lists_now.Given as goal

abbrev pub invariant-loop-part : goal.invariant-loop-part
invariant-loop-part l = l.lists.items ≡ each_below (λ p. list_now l.self p ∷ []) l.part
