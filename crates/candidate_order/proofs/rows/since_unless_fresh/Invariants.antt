use Rattle.std.proofs.Common.{◌≡◌, ◌<◌, get_or, take, true}
use Rattle.std.specs.List.{All}
use Rattle.candidate_order.specs.Looks.{is_below}
use Rattle.candidate_order.specs.declared.kept.Row.{Row}
use Rattle.candidate_order.proofs.rows.since_unless_fresh.Given as goal

abbrev pub invariant-loop-row : goal.invariant-loop-row
invariant-loop-row l = All (λ (r : Row). is_below r.heat ≡ true → get_or l.rests.brokers.items r.place 0 < l.since) (take l.row-index l.rows)
