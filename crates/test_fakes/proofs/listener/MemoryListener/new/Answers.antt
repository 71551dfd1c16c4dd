use Rattle.std.specs.Vec.Iter.{into_iter_items}
use Rattle.test_fakes.proofs.Handing.{all_fresh, all_wait}
use Rattle.test_fakes.proofs.listener.MemoryListener.new.Goals as goal

pub invariant_of-result : goal.invariant_of-result
invariant_of-result g c =
    let same = c.into_iter.ensures.rest in
    record {
      fresh = all_fresh g.C.Sink.written c.args.links.items (into_iter_items c.into_iter.result) same c.requires;
      rest = rw c.of-given.ensures (all_wait c.args.links.items (into_iter_items c.into_iter.result) same);
    }
