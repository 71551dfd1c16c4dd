use Rattle.std.proofs.Common.{◌∙◌, ◌/◌, ap, sym}
use Rattle.metric_windows.specs.Tables.{Tables}
use Rattle.metric_windows.proofs.Accepted.{refusal-past, refusal-full, refusal-none, StandsFor-stored}
use Rattle.metric_windows.proofs.windows.Windows.add.Goals as goal

pub returns-then-is_past-clause-refused : goal.returns-then-is_past-clause-refused
returns-then-is_past-clause-refused c = λ samples stands.
    refusal-past c.args.self.now samples _ _ (ap (λ (t : Tables). c.args.time / t.rules.width) c.self.view_is) stands _ (sym c.is_past.ensures ∙ c.if-is_past.true) c.oldest_kept.ensures

pub returns-then-tally-ge-MAX_SAMPLES-clause-refused : goal.returns-then-tally-ge-MAX_SAMPLES-clause-refused
returns-then-tally-ge-MAX_SAMPLES-clause-refused c = λ samples stands.
    refusal-full c.args.self.now samples _ _ (ap (λ (t : Tables). c.args.time / t.rules.width) c.self.view_is) stands c.requires.part (sym c.is_past.ensures ∙ c.if-is_past.false) _ c.tally-tally.ensures.value c.if-tally-ge-MAX_SAMPLES.true

pub returns-clause-accepts : goal.returns-clause-accepts
returns-clause-accepts c = λ samples stands.
    refusal-none c.args.self.now samples _ _ (ap (λ (t : Tables). c.args.time / t.rules.width) c.self.view_is) stands c.requires.part (sym c.is_past.ensures ∙ c.if-is_past.false) _ c.tally-tally.ensures.value c.if-tally-ge-MAX_SAMPLES.false

pub returns-clause-accepted : goal.returns-clause-accepted
returns-clause-accepted c = λ samples stands.
    StandsFor-stored c.args.self.now samples _ _ (ap (λ (t : Tables). c.args.time / t.rules.width) c.self.view_is) stands
    (rw c.self.view_is at c.self.invariant) c.requires.part c.requires.loads (sym c.is_past.ensures ∙ c.if-is_past.false) _ _ _ c.tally-tally.ensures.value c.if-tally-ge-MAX_SAMPLES.false c.with.ensures.value c.put.ensures.value
