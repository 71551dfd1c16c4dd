use Rattle.std.proofs.Common.{◌≡◌}
use Rattle.std.specs.Prelude.{fold}
use Rattle.std.specs.List.{range_with_len}
use Rattle.factor_change.specs.Kept.{IsDraft}
use Rattle.factor_change.specs.Resized.{resized_at}
use Rattle.factor_change.proofs.change.change.Given as goal

abbrev pub invariant-loop-part : goal.invariant-loop-part
invariant-loop-part l = record {
  draft : IsDraft l.case l.draft.lists.items l.draft.counts.items;
  lists : l.draft.lists.items ≡ fold (resized_at l.case l.topics l.factor) l.lists (range_with_len 0 l.part);
}
