use Rattle.std.proofs.Common.{◌≡◌, ◌∙◌, ◌+◌, ◌-◌, ap, sym, arith}
use Rattle.std.specs.List.{filter_map, range_with_len}
use Rattle.metric_windows.specs.Samples.{oldest_kept}
use Rattle.metric_windows.specs.Tables.{AreTables, tally_of, with_some, value_in}
use Rattle.metric_windows.proofs.Values.{values_in-range, some-more}
use Rattle.metric_windows.proofs.windows.Windows.values_up_to.Goals as goal

pub overflow_add-oldest : goal.overflow_add-oldest
overflow_add-oldest c =
    let oldest : c.oldest_kept-oldest.result ≡ c.args.newest + 1 - c.args.self.now.rules.keep = c.oldest_kept-oldest.ensures ∙ ap (oldest_kept c.args.self.now.rules) c.requires.newest in
    let good : AreTables c.args.self.now = rw c.self.view_is at c.self.invariant in
    omega (arith, good.ranges.keep_some)

pub loop-age-preserved : goal.loop-age-preserved
loop-age-preserved c =
    let f = value_in c.args.self.now c.args.part in
    let o = c.oldest_kept-oldest.result in (
      c.with_value-tally.ensures.value ∙ ap (λ y. with_some y (f (o + c.loop-age.age))) c.loop-age.invariant.0 ∙ sym (some-more f o c.loop-age.age),
      omega (arith, c.with_value-tally.ensures.few, c.loop-age.invariant.1),
      c.with_value-tally.ensures.tally,
    )

pub returns-clause-value : goal.returns-clause-value
returns-clause-value c =
    let good : AreTables c.args.self.now = rw c.self.view_is at c.self.invariant in
    let all : c.loop-age.age ≡ c.args.newest - c.oldest_kept-oldest.result + 1 = omega arith in
    c.loop-age.invariant.0
    ∙ ap (λ k. tally_of (filter_map (value_in c.args.self.now c.args.part) (range_with_len c.oldest_kept-oldest.result k))) all
    ∙ ap tally_of (sym (values_in-range c.args.self.now c.args.part c.args.newest c.oldest_kept-oldest.result good.ranges.keep_some c.requires.newest c.oldest_kept-oldest.ensures))
