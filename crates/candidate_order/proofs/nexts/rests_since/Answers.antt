use Rattle.std.proofs.Common.{arith}
use Rattle.candidate_order.proofs.nexts.rests_since.Goals as goal

pub returns-in-Leads : goal.returns-in-Leads
returns-in-Leads g c = λ p within old. absurd (omega arith)

pub returns-in-Swaps : goal.returns-in-Swaps
returns-in-Swaps g c = λ p within old. absurd (omega arith)
