use Rattle.std.proofs.Common.{◌≡◌, ◌∙◌, ◌+◌, ℕ, true, false, is_some, ap, sym, arith, add-zero}
use Rattle.metric_windows.specs.Samples.{enough_mean}
use Rattle.metric_windows.specs.Tables.{Tables, AreTables, values_in}
use Rattle.metric_windows.proofs.Values.{count-more, coverage-samples}
use Rattle.metric_windows.proofs.windows.Windows.coverage.Goals as goal
use Rattle.metric_windows.proofs.windows.Windows.coverage.Goals.{then-has_load, else-has_load}

pub loop-part-preserved : goal.loop-part-preserved
loop-part-preserved c =
    let f = λ (p : ℕ). is_some (enough_mean c.args.self.now.rules.need (values_in c.args.self.now p)) in
    elim c.if-has_load.branch [
      | then-has_load w ↦ (w.valid-is ∙ ap (λ v. v + 1) c.loop-part.invariant.0 ∙ sym (count-more f c.loop-part.part true (sym c.has_load.ensures ∙ w.if-has_load.true)), omega arith)
      | else-has_load w ↦ (w.valid-is ∙ c.loop-part.invariant.0 ∙ sym (count-more f c.loop-part.part false (sym c.has_load.ensures ∙ w.if-has_load.false) ∙ add-zero _), omega arith)
    ]

pub returns : goal.returns
returns c = λ samples stands.
    let good : AreTables c.args.self.now = rw c.self.view_is at c.self.invariant in
    let parts : c.self.inside.parts ≡ c.args.self.now.parts = ap (λ (t : Tables). t.parts) c.self.view_is in
    coverage-samples c.args.self.now samples good.ranges.least_some stands c.loop-part.valid c.loop-part.part c.self.inside.parts c.loop-part.invariant.0 (omega arith) parts
