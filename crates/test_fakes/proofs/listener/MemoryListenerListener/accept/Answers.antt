use Rattle.std.specs.Vec.Iter.{into_iter_items}
use Rattle.test_fakes.specs.Handed.{accepted_link}
use Rattle.test_fakes.proofs.Handing.{fresh_next, fresh_rest, rest_next, told_next}
use Rattle.test_fakes.proofs.listener.MemoryListenerListener.accept.Goals as goal

pub invariant_of-self : goal.invariant_of-self
invariant_of-self g c =
    let old = c.args.self.now in
    let items = c.in-Some.ensures.items in
    record {
      fresh = fresh_rest g.C.Sink.written c.in-Some.link (into_iter_items old.waiting) (into_iter_items c.next.new.self) items old.fresh;
      rest = rest_next old.given.value.items c.in-Some.link (into_iter_items old.waiting) (into_iter_items c.next.new.self) items old.rest;
    }

pub returns-in-Some-clause-accepted : goal.returns-in-Some-clause-accepted
returns-in-Some-clause-accepted g c =
    let old = c.args.self.now in
    let tell = accepted_link g.C.Source.faults g.C.Sink.faults g.C.Source.left in
    told_next tell old.given.value.items c.in-Some.link (into_iter_items old.waiting) (into_iter_items c.next.new.self) c.in-Some.ensures.items old.rest

pub returns-in-Some-clause-fresh : goal.returns-in-Some-clause-fresh
returns-in-Some-clause-fresh g c =
    let old = c.args.self.now in
    fresh_next g.C.Sink.written c.in-Some.link (into_iter_items old.waiting) (into_iter_items c.next.new.self) c.in-Some.ensures.items old.fresh
