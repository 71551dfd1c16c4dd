use Rattle.load_model.proofs.Kept.{kept-put}
use Rattle.load_model.proofs.assign.Assign.put.Goals as goal

pub invariant_of-self : goal.invariant_of-self
invariant_of-self c =
    kept-put c.self.inside.lists.items c.args.part c.args.place c.index_mut.result.now c.put.new.self c.self.invariant
    (rw (← c.self.view_is) at c.requires.part) c.index_mut.ensures.value c.args.broker (rw (← c.self.view_is) at c.requires.new) c.put.ensures
