use Rattle.std.proofs.Common.{◌≡◌, ◌++◌, ℕ, List, drop, map}
use Rattle.std.specs.Borrow.{Bor}
use Rattle.plan_terms.specs.Commas.{names_in}
use Rattle.plan_terms.proofs.commas.names.Given as goal

abbrev pub invariant-loop-piece : goal.invariant-loop-piece
invariant-loop-piece g l = l.names.items ++ map (λ (s : Bor (List ℕ)). s.now) (drop l.piece-index l.piece-items) ≡ names_in l.text
