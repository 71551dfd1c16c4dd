use Rattle.std.proofs.Common.{◌≡◌, drop}
use Rattle.plan_terms.specs.Belongs.{IsBookOf}
use Rattle.plan_terms.specs.Effect.{after_all}
use Rattle.plan_summary.specs.Legal.{AreLegal}
use Rattle.plan_summary.proofs.replay.take_turn.Given as goal

abbrev pub invariant-loop-action : goal.invariant-loop-action
invariant-loop-action l = record {
  left : after_all (drop l.action-index l.actions) l.book.lists ≡ after_all l.actions l.initial.book.lists;
  legal : AreLegal l.case l.book.lists (drop l.action-index l.actions);
  belongs : IsBookOf l.case l.book;
}
