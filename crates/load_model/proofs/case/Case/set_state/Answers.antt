use Rattle.std.proofs.Common.{ap, arith, List}
use Rattle.std.proofs.lemmas.List.Sums.{count_by-le-length}
use Rattle.plan_terms.proofs.FaultLemmas.{WithinLimits-faultless}
use Rattle.plan_terms.specs.Cluster.{Cluster}
use Rattle.plan_terms.specs.States.{is_new}
use Rattle.plan_terms.specs.declared.cluster.Broker.{Broker}
use Rattle.load_model.proofs.Changes.{IsIndexed-with_state, new-counted, set-with_state}
use Rattle.load_model.proofs.case.Case.set_state.Goals as goal

pub recounted-self-inside-requires-clause-few : goal.recounted-self-inside-requires-clause-few
recounted-self-inside-requires-clause-few c =
    omega (arith, c.self.invariant.added_are, count_by-le-length (λ (b : Broker). is_new b.state) c.self.inside.brokers.items, (WithinLimits-faultless _ _ c.self.invariant.case_is.faultless).few_brokers)

pub recounted-self-inside-requires-clause-counted : goal.recounted-self-inside-requires-clause-counted
recounted-self-inside-requires-clause-counted c =
    rw (c.is_new-was_new.ensures, c.self.invariant.added_are)
    (new-counted c.self.inside.brokers.items c.args.broker c.index.result.now (rw (← c.self.view_is) at c.requires) c.index.ensures)

pub invariant_of-self : goal.invariant_of-self
invariant_of-self c =
    IsIndexed-with_state _ _ _ _ _ _ _ _ c.args.broker c.index_mut.result.now c.index.result.now c.args.state (rw (← c.self.view_is) at c.requires) c.index_mut.ensures.value c.index.ensures
    (rw (c.is_new-was_new.ensures, c.is_new.ensures) at c.recounted-self-inside.ensures) c.self.invariant

pub returns : goal.returns
returns c =
    let changed : List Broker → Cluster = λ xs. record { brokers = xs; parts = c.self.inside.parts.items; options = c.self.inside.options } in
    rw (← c.self.view_is) (ap changed (set-with_state _ c.args.broker c.index_mut.result.now c.args.state (rw (← c.self.view_is) at c.requires) c.index_mut.ensures.value))
