use Rattle.std.proofs.Common.{◌∙◌, ap, sym}
use Rattle.metric_windows.specs.Tables.{Tables, tally_of}
use Rattle.metric_windows.proofs.Values.{values_in-none}
use Rattle.metric_windows.proofs.windows.Windows.values.Goals as goal

pub returns-in-None-clause-value : goal.returns-in-None-clause-value
returns-in-None-clause-value c =
    c.none.ensures.value ∙ ap tally_of (sym (values_in-none c.args.self.now c.args.part (ap (λ (t : Tables). t.newest) (sym c.self.view_is) ∙ c.in-None.is)))
