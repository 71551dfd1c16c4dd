use Rattle.load_model.proofs.Kept.{kept-exchange}
use Rattle.load_model.proofs.assign.Assign.exchange.Goals as goal

pub invariant_of-self : goal.invariant_of-self
invariant_of-self c =
    kept-exchange c.self.inside.lists.items c.args.part c.args.place c.index_mut.result.now c.exchange.new.self c.self.invariant
    (rw (← c.self.view_is) at c.requires.part) c.index_mut.ensures.value (rw (← c.self.view_is) at c.requires.place) c.exchange.ensures
