use Rattle.std.proofs.Common.{◌∙◌}
use Rattle.std.proofs.lemmas.List.{length-set}
use Rattle.std.proofs.lemmas.List.Elements.{All-set}
use Rattle.metric_windows.specs.Tables.{IsCell}
use Rattle.metric_windows.proofs.windows.Windows.put.Goals as goal

pub invariant_of-self : goal.invariant_of-self
invariant_of-self c = record {
  ranges = c.self.invariant.ranges;
  size = length-set _ _ _ ∙ c.self.invariant.size;
  each = All-set IsCell _ _ _ (record { few = c.requires.few; tally = c.requires.tally }) c.self.invariant.each;
}
