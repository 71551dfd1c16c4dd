use Rattle.std.proofs.Common.{ap, List}
use Rattle.plan_terms.specs.Cluster.{Cluster}
use Rattle.plan_terms.specs.declared.cluster.Part.{Part}
use Rattle.load_model.proofs.Changes.{IsIndexed-with_loads, set-with_loads}
use Rattle.load_model.proofs.case.Case.set_loads.Goals as goal

pub invariant_of-self : goal.invariant_of-self
invariant_of-self c = IsIndexed-with_loads _ _ _ _ _ _ _ c.args.part c.index_mut.result.now c.args.loads (rw (← c.self.view_is) at c.requires.part) c.index_mut.ensures.value c.requires.lead c.requires.follow c.requires.silent c.self.invariant

pub returns : goal.returns
returns c =
    let changed : List Part → Cluster = λ xs. record { brokers = c.self.inside.brokers.items; parts = xs; options = c.self.inside.options } in
    rw (← c.self.view_is) (ap changed (set-with_loads _ c.args.part c.index_mut.result.now c.args.loads (rw (← c.self.view_is) at c.requires.part) c.index_mut.ensures.value))
