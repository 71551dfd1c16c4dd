use Rattle.std.proofs.Common.{arith}
use Rattle.std.proofs.lemmas.List.{length-set}
use Rattle.task_index.proofs.Holders.{room, out-lent}
use Rattle.task_index.proofs.leases.LeaseTable.append.Goals as goal

pub push_reserved-requires : goal.push_reserved-requires
push_reserved-requires c = omega (arith, room _ _ _ c.self.invariant.out c.args.task (rw (← c.self.view_is) at c.requires.known) (rw (← c.self.view_is) at c.requires.free), c.self.invariant.numbers_fit)

pub push_reserved-requires-2 : goal.push_reserved-requires-2
push_reserved-requires-2 c = omega (arith, room _ _ _ c.self.invariant.out c.args.task (rw (← c.self.view_is) at c.requires.known) (rw (← c.self.view_is) at c.requires.free), c.self.invariant.out.same, c.self.invariant.holders_fit)

pub invariant_of-self : goal.invariant_of-self
invariant_of-self c = record {
  few = rw length-set c.self.invariant.few;
  out = rw (c.push_reserved.ensures.items, c.push_reserved-2.ensures.items) (out-lent _ _ _ c.self.invariant.out c.args.task c.args.number (rw (← c.self.view_is) at c.requires.known) (rw (← c.self.view_is) at c.requires.free) (rw (← c.self.view_is) at c.requires.above));
  numbers_fit = rw (length-set, c.push_reserved.ensures.capacity) c.self.invariant.numbers_fit;
  holders_fit = rw (length-set, c.push_reserved-2.ensures.capacity) c.self.invariant.holders_fit;
}
