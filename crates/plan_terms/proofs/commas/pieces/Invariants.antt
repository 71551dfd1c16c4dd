use Rattle.std.proofs.Common.{◌≡◌, ◌++◌, ℕ, List, length, map}
use denote.Text.{Utf8}
use denote.Shadow.{shadow}
use Rattle.std.specs.Borrow.{Bor}
use Rattle.plan_terms.specs.Commas.{pieces}
use Rattle.plan_terms.proofs.commas.pieces.Given as goal

abbrev pub invariant-loop-piece : goal.invariant-loop-piece
invariant-loop-piece l = shadow (Utf8 l.rest) × (map (λ (s : Bor (List ℕ)). s.now) l.found.items ++ pieces l.rest ≡ pieces l.text)

abbrev pub decreases-loop-piece : goal.decreases-loop-piece
decreases-loop-piece l = length l.rest
