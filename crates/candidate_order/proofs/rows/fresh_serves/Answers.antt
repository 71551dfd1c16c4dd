use Rattle.std.proofs.Common.{refl}
use Rattle.std.proofs.lemmas.Bool.{false≢true}
use Rattle.candidate_order.proofs.rows.fresh_serves.Goals as goal

pub returns-then-knows_move : goal.returns-then-knows_move
returns-then-knows_move g c = ((λ t. absurd (false≢true t)), (λ s. absurd (c.if-knows_move.ensures refl s)))
