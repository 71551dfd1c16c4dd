use Rattle.std.proofs.Common.{◌∙◌, ap, eqb, position, sym}
use Rattle.plan_terms.specs.Faults.{IsCase}
use Rattle.plan_terms.specs.declared.cluster.Broker.{Broker}
use Rattle.load_model.proofs.Ids.{place-only}
use Rattle.load_model.proofs.Listed.{position-map, position-turned}
use Rattle.load_model.proofs.case.Case.place.Goals as goal

pub returns-in-Some-clause-place : goal.returns-in-Some-clause-place
returns-in-Some-clause-place c =
    let case : IsCase c.args.self.now = rw (← c.self.view_is) c.self.invariant.case_is in
    sym (place-only c.args.self.now c.args.id case c.in-Some.place c.in-Some.ensures.0 c.in-Some.ensures.1)

pub returns-in-Some-clause-only : goal.returns-in-Some-clause-only
returns-in-Some-clause-only c =
    let case : IsCase c.args.self.now = rw (← c.self.view_is) c.self.invariant.case_is in
    λ k l e. sym (place-only c.args.self.now c.args.id case c.in-Some.place c.in-Some.ensures.0 c.in-Some.ensures.1)
    ∙ place-only c.args.self.now c.args.id case k l e

pub returns-in-None : goal.returns-in-None
returns-in-None c =
    let brokers = c.self.inside.brokers.items in
    let at =
    c.get_index_of.ensures.index ∙ ap (position (eqb c.args.id)) c.self.invariant.ids_are
    ∙ position-map (eqb c.args.id) (λ (b : Broker). b.id) brokers ∙ position-turned (λ (b : Broker). b.id) c.args.id brokers in
    rw (← c.self.view_is) (record {
      place = at;
      only = λ k l e. at ∙ place-only _ c.args.id c.self.invariant.case_is k l e;
    })
