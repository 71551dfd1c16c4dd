use Rattle.std.specs.Prelude.{IfSome}
use Rattle.factor_change.specs.Best.{IsBest, place_of}
use Rattle.factor_change.specs.Choice.{IsFirstLeast, joins_at, precedes_at}
use Rattle.factor_change.proofs.choice.least_place.Given as goal

abbrev pub invariant-loop-place : goal.invariant-loop-place
invariant-loop-place l = record {
  best : IfSome l.best (IsBest l.case l.list);
  least : IsFirstLeast (joins_at l.case l.list) (precedes_at l.case l.draft.lists.items l.list) l.place (place_of l.best);
}
