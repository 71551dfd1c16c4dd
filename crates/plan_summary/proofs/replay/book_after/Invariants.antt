use Rattle.std.proofs.Common.{◌≡◌, drop, map}
use Rattle.plan_terms.specs.Belongs.{IsBookOf}
use Rattle.plan_terms.specs.Trace.{after_turns}
use Rattle.plan_summary.specs.Legal.{AreLegalTurns}
use Rattle.plan_summary.proofs.replay.book_after.Given as goal

abbrev pub invariant-loop-turn : goal.invariant-loop-turn
invariant-loop-turn l = record {
  left : after_turns (map (λ t. t.actions) (drop l.turn-index l.turns)) l.book.lists ≡ after_turns (map (λ t. t.actions) l.turns) l.start;
  legal : AreLegalTurns l.case l.book.lists (map (λ t. t.actions) (drop l.turn-index l.turns));
  belongs : IsBookOf l.case l.book;
}
