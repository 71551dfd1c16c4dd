use Rattle.std.proofs.Common.{◌∙◌, sym}
use Rattle.goal_terms.proofs.CaseLemmas.{Limits-case}
use Rattle.goal_terms.proofs.PlaceLemmas.{at_id-place}
use Rattle.goal_terms.specs.PerBroker.{bound_excess}
use Rattle.broker_goals.proofs.excess.unit_excess.Goals as goal

pub returns-then-is_dead-clause-value : goal.returns-then-is_dead-clause-value
returns-then-is_dead-clause-value g c =
    let limits = Limits-case c.args.case.now c.brokers-brokers.ensures.case in
    let at = at_id-place (bound_excess (g.B.Band.bounds c.args.band.now c.args.case.now) c.args.all c.args.amount) c.args.case.now.brokers c.args.place c.broker_at-broker.result.now limits.ids c.requires.place in
    let lost = sym c.is_dead.ensures ∙ c.if-is_dead.true in
    sym (rw lost at (rw c.broker_at-broker.ensures.is at at))

pub returns-clause-value : goal.returns-clause-value
returns-clause-value g c =
    let limits = Limits-case c.args.case.now c.brokers-brokers.ensures.case in
    let at = at_id-place (bound_excess (g.B.Band.bounds c.args.band.now c.args.case.now) c.args.all c.args.amount) c.args.case.now.brokers c.args.place c.broker_at-broker.result.now limits.ids c.requires.place in
    let live = sym c.is_dead.ensures ∙ c.if-is_dead.false in
    c.excess_of.ensures.value ∙ sym (rw live at (rw c.broker_at-broker.ensures.is at at))
