use Rattle.std.proofs.Common.{◌∙◌}
use Rattle.metric_windows.specs.Tables.{AreTables}
use Rattle.metric_windows.proofs.Values.{load_in-samples}
use Rattle.metric_windows.proofs.windows.Windows.load_of.Goals as goal

pub returns-clause-value : goal.returns-clause-value
returns-clause-value c = λ samples stands.
    let good : AreTables c.args.self.now = rw c.self.view_is at c.self.invariant in
    c.load.ensures.value ∙ load_in-samples c.args.self.now samples good.ranges.least_some stands c.args.part c.requires
