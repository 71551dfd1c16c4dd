-- The same caller of a board after a while: laws of it.
use Rattle.std.proofs.Common.{refl, ◌∙◌}
use Rattle.mover_workers.specs.Since.{grown_itself, grown_on}
use Rattle.live_service.specs.Boards.{BoardCallerView, IsBoardCallerSince}

-- it is the same at once
pub board_since_itself : (b : BoardCallerView) → IsBoardCallerSince b b
board_since_itself b = record { turn = refl; reviews = refl; grown = grown_itself b.pass }

-- and the same after two whiles
pub board_since_on : (b c d : BoardCallerView) → IsBoardCallerSince b c → IsBoardCallerSince c d → IsBoardCallerSince b d
board_since_on b c d p q = record { turn = q.turn ∙ p.turn; reviews = q.reviews ∙ p.reviews; grown = grown_on b.pass c.pass d.pass p.grown q.grown }
